use Rattle.std.proofs.Common.{ℕ, ◌+◌, ◌<◌, get_or}
use Rattle.goldilocks.specs.Felts.{numbers}
use Rattle.verdict_tests.proofs.tests.stating.ascend.Given as goal

abbrev pub invariant-loop-next : goal.invariant-loop-next
invariant-loop-next l = (k : ℕ) → k + 1 < l.next → get_or (numbers l.shown) k 0 < get_or (numbers l.shown) (k + 1) 0
