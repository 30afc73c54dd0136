use Rattle.std.proofs.Common.{rules}
use Rattle.access_lists.specs.SmallValues.{row_offsets}
use Rattle.access_lists.proofs.values.row_offsets.Goals as goal

pub returns : goal.returns
unfolding row_offsets
returns c = search rules
