use Rattle.std.proofs.Common.{◌≡◌, ◌++◌, take}
use Rattle.std.specs.List.{flat_map}
use Rattle.access_lists.specs.SmallValues.{row_offsets}
use Rattle.access_lists.proofs.values.push_offsets.Given as goal

abbrev pub invariant-loop-row : goal.invariant-loop-row
invariant-loop-row l = l.all.items ≡ l.initial.all.items ++ flat_map row_offsets (take l.row-index l.rows)
