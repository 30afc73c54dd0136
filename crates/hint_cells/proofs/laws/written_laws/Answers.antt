use Rattle.hint_cells.specs.Format.{written}
use Rattle.hint_cells.proofs.Spelling.{reading-SpellsHints}
use Rattle.hint_cells.proofs.WrittenHints.{SpellsHints-written}
use Rattle.hint_cells.proofs.laws.written_laws.Goals as goal

pub returns-clause-spells : goal.returns-clause-spells
returns-clause-spells c = SpellsHints-written

pub returns-clause-read_back : goal.returns-clause-read_back
returns-clause-read_back c h is = reading-SpellsHints (written h) h (SpellsHints-written h is)
