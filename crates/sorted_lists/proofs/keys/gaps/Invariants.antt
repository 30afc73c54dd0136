use Rattle.std.proofs.Common.{◌≡◌, ◌-◌, ◌+◌, ◌≤◌, map}
use Rattle.goldilocks.specs.declared.Felt.{Felt}
use Rattle.sorted_lists.specs.Gaps.{absent, is_taken}
use Rattle.sorted_lists.proofs.Absent.{Walked}
use Rattle.sorted_lists.proofs.keys.gaps.Given as goal

abbrev pub invariant-loop-x : goal.invariant-loop-x
invariant-loop-x g l = record {
  walked : Walked g.T.Keyed.key l.ordered l.fn.low.number l.x-index l.next;
  found_so_far : map (λ (x : Felt). x.number) l.found.items ≡ absent (is_taken g.T.Keyed.key l.ordered) l.fn.low.number (l.next - l.fn.low.number);
  within : l.next ≤ l.high.number + 1;
}
