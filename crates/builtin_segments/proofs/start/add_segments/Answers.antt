use Rattle.std.proofs.Common.{◌+◌, ◌-◌, ◌≤◌, length, sym, subst, ap, ◌∙◌, arith}
use Rattle.segments.specs.Memory.{RunMemory, segment_limit}
use Rattle.builtin_segments.specs.Start.{with_segments}
use Rattle.builtin_segments.proofs.StartMemory.{more_segments, no_more_segments, room_for_one}
use Rattle.builtin_segments.proofs.start.add_segments.Goals as goal

pub add_segment-requires : goal.add_segment-requires
add_segment-requires c = omega (arith, c.loop.invariant.room)

pub loop-preserved : goal.loop-preserved
loop-preserved c = record {
  room =
      subst (λ (m : RunMemory). length m.sizes + (c.args.more - (c.loop.counter + 1)) ≤ segment_limit) (sym c.in_ok-add_segment.ensures.ok)
      (room_for_one c.loop.memory c.args.more c.loop.counter (omega arith) c.loop.invariant.room);
  rest =
      ap (λ (m : RunMemory). with_segments (c.args.more - (c.loop.counter + 1)) m) c.in_ok-add_segment.ensures.ok
      ∙ (sym (more_segments c.loop.memory c.args.more c.loop.counter (omega arith)) ∙ c.loop.invariant.rest);
}

pub returns : goal.returns
returns c = sym (no_more_segments c.loop.memory c.args.more c.loop.counter (omega arith)) ∙ c.loop.invariant.rest
