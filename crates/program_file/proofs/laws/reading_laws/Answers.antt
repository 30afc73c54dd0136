use Rattle.program_file.proofs.Spelling.{reading-SpellsProgram, SpellsProgram-reading, one_program}
use Rattle.program_file.proofs.laws.reading_laws.Goals as goal

pub returns-clause-exact : goal.returns-clause-exact
returns-clause-exact c bytes p = (reading-SpellsProgram bytes p, SpellsProgram-reading bytes p)

pub returns-clause-one : goal.returns-clause-one
returns-clause-one c = one_program
