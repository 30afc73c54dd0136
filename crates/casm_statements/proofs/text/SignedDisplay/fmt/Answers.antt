use Rattle.std.proofs.Common.{rules}
use Rattle.casm_statements.proofs.text.SignedDisplay.fmt.Goals as goal

pub returns-else-number-le-HALF-clause-writes : goal.returns-else-number-le-HALF-clause-writes
returns-else-number-le-HALF-clause-writes g c = search rules
