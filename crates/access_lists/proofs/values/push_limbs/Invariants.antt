use Rattle.std.proofs.Common.{◌≡◌, ◌++◌, take}
use Rattle.std.specs.List.{flat_map}
use Rattle.access_lists.specs.SmallValues.{limbs}
use Rattle.access_lists.proofs.values.push_limbs.Given as goal

abbrev pub invariant-loop-row : goal.invariant-loop-row
invariant-loop-row l = l.all.items ≡ l.initial.all.items ++ flat_map limbs (take l.row-index l.rows)
