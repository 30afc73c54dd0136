use Rattle.std.proofs.Common.{◌≡◌, arith}
use Rattle.segments.specs.Memory.{size}
use Rattle.relocation.proofs.Cells.{cells-segment}
use Rattle.relocation.proofs.relocating.push_segment.Goals as goal

pub returns : goal.returns
returns c =
    let end : c.loop-off.off ≡ size c.args.memory.now c.args.seg = omega (arith, c.size-off-end.ensures.size) in
    cells-segment c.args.memory.now c.args.seg c.loop-off.off c.loop-off.cells.items c.size-off-end.ensures.memory end c.loop-off.invariant
