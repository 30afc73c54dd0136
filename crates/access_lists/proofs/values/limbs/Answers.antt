use Rattle.std.proofs.Common.{rules}
use Rattle.access_lists.specs.SmallValues.{limbs}
use Rattle.access_lists.proofs.values.limbs.Goals as goal

pub returns : goal.returns
unfolding limbs
returns c = search rules
