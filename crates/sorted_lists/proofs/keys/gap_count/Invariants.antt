use Rattle.std.proofs.Common.{◌≡◌, ◌-◌, ◌+◌, ◌≤◌, length}
use Rattle.sorted_lists.specs.Gaps.{absent, is_taken}
use Rattle.sorted_lists.proofs.Absent.{Walked}
use Rattle.sorted_lists.proofs.keys.gap_count.Given as goal

abbrev pub invariant-loop-x : goal.invariant-loop-x
invariant-loop-x g l = record {
  walked : Walked g.T.Keyed.key l.ordered l.fn.low.number l.x-index l.next;
  counted : l.count ≡ length (absent (is_taken g.T.Keyed.key l.ordered) l.fn.low.number (l.next - l.fn.low.number));
  within : l.next ≤ l.high.number + 1;
}
