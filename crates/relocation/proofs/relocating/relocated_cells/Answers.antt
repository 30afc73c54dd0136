use Rattle.std.proofs.Common.{◌≡◌, List, length, sym, ◌∙◌, subst, arith}
use Rattle.goldilocks.specs.declared.Pair.{Pair}
use Rattle.segments.specs.Memory.{IsMemory}
use Rattle.trace_files.specs.CellList.{listed, CanBeListed}
use Rattle.relocation.specs.Relocated.{relocated_cells}
use Rattle.relocation.proofs.Cells.{cells-first, cells-all}
use Rattle.relocation.proofs.CellMemory.{can_be_listed, if_some}
use Rattle.relocation.proofs.relocating.relocated_cells.Goals as goal

pub loop-seg-init : goal.loop-seg-init
loop-seg-init c = c.in_ok-cells.ensures.items ∙ cells-first c.args.memory.now

pub unwrap-requires : goal.unwrap-requires
unwrap-requires c =
    let is : IsMemory c.args.memory.now = c.count-seg-end.ensures.memory in
    let end : c.loop-seg.seg ≡ length c.args.memory.now.sizes = omega (arith, c.count-seg-end.ensures.count) in
    let whole : c.loop-seg.cells.items ≡ relocated_cells c.args.memory.now = cells-all c.args.memory.now c.loop-seg.seg c.loop-seg.cells.items is end c.loop-seg.invariant in
    c.new.ensures.some.1 (subst (λ (cells : List Pair). CanBeListed cells) (sym whole) (can_be_listed c.args.memory.now is))

pub returns : goal.returns
returns c =
    let is : IsMemory c.args.memory.now = c.count-seg-end.ensures.memory in
    let end : c.loop-seg.seg ≡ length c.args.memory.now.sizes = omega (arith, c.count-seg-end.ensures.count) in
    let whole : c.loop-seg.cells.items ≡ relocated_cells c.args.memory.now = cells-all c.args.memory.now c.loop-seg.seg c.loop-seg.cells.items is end c.loop-seg.invariant in
    if_some (λ list. listed list ≡ c.loop-seg.cells.items) c.new.result c.unwrap.result c.unwrap.ensures c.new.ensures.same ∙ whole
