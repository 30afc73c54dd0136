use Rattle.std.proofs.Common.{◌≡◌, ◌<◌, ◌-◌, ◌++◌, map}
use Rattle.std.specs.List.{range_with_len}
use Rattle.goldilocks.specs.declared.Felt.{Felt}
use Rattle.sorted_lists.proofs.keys.push_range.Given as goal

abbrev pub invariant-loop-number : goal.invariant-loop-number
invariant-loop-number l = record {
  pushed : map (λ (x : Felt). x.number) l.found.items ≡ map (λ (x : Felt). x.number) l.fn.found.items ++ range_with_len l.fn.from (l.number - l.fn.from);
  empty : l.fn.to < l.number → l.number ≡ l.fn.from;
}
