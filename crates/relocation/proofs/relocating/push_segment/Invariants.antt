use Rattle.std.proofs.Common.{◌≡◌}
use Rattle.segments.specs.Values.{place}
use Rattle.relocation.specs.Walk.{cells_before}
use Rattle.relocation.proofs.relocating.push_segment.Given as goal

abbrev pub invariant-loop-off : goal.invariant-loop-off
invariant-loop-off l = l.cells.items ≡ cells_before l.memory (place l.seg l.off)
