use Rattle.hint_cells.proofs.Spelling.{reading-SpellsHints, SpellsHints-reading, one_list}
use Rattle.hint_cells.proofs.laws.reading_laws.Goals as goal

pub returns-clause-exact : goal.returns-clause-exact
returns-clause-exact c bytes h = (reading-SpellsHints bytes h, SpellsHints-reading bytes h)

pub returns-clause-one : goal.returns-clause-one
returns-clause-one c = one_list
