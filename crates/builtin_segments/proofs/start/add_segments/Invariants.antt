use Rattle.std.proofs.Common.{◌≡◌, ◌+◌, ◌-◌, ◌≤◌, length}
use Rattle.segments.specs.Memory.{segment_limit}
use Rattle.builtin_segments.specs.Start.{with_segments}
use Rattle.builtin_segments.proofs.start.add_segments.Given as goal

abbrev pub invariant-loop : goal.invariant-loop
invariant-loop l = record {
  room : length l.memory.sizes + (l.more - l.counter) ≤ segment_limit;
  rest : with_segments (l.more - l.counter) l.memory ≡ with_segments l.more l.fn.memory;
}
