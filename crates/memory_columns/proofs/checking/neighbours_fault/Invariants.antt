use Rattle.std.proofs.Common.{◌≡◌, ◌+◌, None, length}
use Rattle.std.specs.List.{AllAdjacentBelow}
use Rattle.memory_columns.specs.Equations.{pair_fault}
use Rattle.memory_columns.proofs.checking.neighbours_fault.Given as goal

abbrev pub invariant-loop-row : goal.invariant-loop-row
invariant-loop-row l = AllAdjacentBelow (λ x y. pair_fault x y ≡ None) l.sorted (length l.yielded + 1)
