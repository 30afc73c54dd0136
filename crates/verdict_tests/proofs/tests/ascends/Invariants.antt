use Rattle.std.proofs.Common.{ℕ, ◌+◌, ◌<◌, get_or}
use Rattle.goldilocks.specs.Cells.{addresses}
use Rattle.verdict_tests.proofs.tests.ascends.Given as goal

abbrev pub invariant-loop-next : goal.invariant-loop-next
invariant-loop-next l = (k : ℕ) → k + 1 < l.next → get_or (addresses l.cells) k 0 < get_or (addresses l.cells) (k + 1) 0
