use Rattle.std.proofs.Common.{rules}
use Rattle.public_input.proofs.fault.PublicFaultDisplay.fmt.Goals as goal

pub returns-in-Range-clause-writes : goal.returns-in-Range-clause-writes
returns-in-Range-clause-writes g c = search rules
