use Rattle.std.proofs.Common.{rules}
use Rattle.constraint_checker.proofs.checking.accessing.Goals as goal

pub returns : goal.returns
returns c = search rules
