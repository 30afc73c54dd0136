use Rattle.std.proofs.Common.{◌≡◌, ◌+◌, None, length}
use Rattle.std.specs.List.{AllAdjacentBelow}
use Rattle.range_columns.specs.Equations.{step_fault}
use Rattle.range_columns.proofs.checking.step_fault.Given as goal

abbrev pub invariant-loop-row : goal.invariant-loop-row
invariant-loop-row l = AllAdjacentBelow (λ x y. step_fault x y ≡ None) l.sorted (length l.yielded + 1)
