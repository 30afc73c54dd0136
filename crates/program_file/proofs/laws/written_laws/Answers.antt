use Rattle.program_file.specs.Format.{written}
use Rattle.program_file.proofs.Spelling.{reading-SpellsProgram}
use Rattle.program_file.proofs.WrittenPrograms.{SpellsProgram-written}
use Rattle.program_file.proofs.laws.written_laws.Goals as goal

pub returns-clause-spells : goal.returns-clause-spells
returns-clause-spells c = SpellsProgram-written

pub returns-clause-read_back : goal.returns-clause-read_back
returns-clause-read_back c p h = reading-SpellsProgram (written p) p (SpellsProgram-written p h)
