use Rattle.std.proofs.Common.{◌≡◌}
use Rattle.segments.specs.Values.{place}
use Rattle.relocation.specs.Walk.{cells_before}
use Rattle.relocation.proofs.relocating.relocated_cells.Given as goal

abbrev pub invariant-loop-seg : goal.invariant-loop-seg
invariant-loop-seg l = l.cells.items ≡ cells_before l.memory (place l.seg 0)
