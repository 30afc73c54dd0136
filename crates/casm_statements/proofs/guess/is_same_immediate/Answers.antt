use Rattle.casm_statements.proofs.Felts.{same_immediates}
use Rattle.casm_statements.proofs.guess.is_same_immediate.Goals as goal

pub returns-in-Some-b : goal.returns-in-Some-b
returns-in-Some-b c = same_immediates c.args.a c.args.b c.in-Some.value c.in-Some-b.other c.in-Some.is c.in-Some-b.is
