use Rattle.std.proofs.Common.{rules}
use Rattle.casm_statements.proofs.text.IncrementDisplay.fmt.Goals as goal

pub returns-then-self-clause-writes : goal.returns-then-self-clause-writes
returns-then-self-clause-writes g c = search rules
