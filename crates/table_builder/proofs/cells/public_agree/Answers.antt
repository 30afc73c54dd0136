use Rattle.std.proofs.Common.{Option, refl}
use Rattle.goldilocks.specs.declared.Pair.{Pair}
use Rattle.table_builder.specs.Findings.{Finding, cell_finding}
use Rattle.table_builder.proofs.Told.{handed_on}
use Rattle.table_builder.proofs.Loops.{nothing_more, found_here, nothing_found}
use Rattle.table_builder.proofs.cells.public_agree.Goals as goal

pub loop-cell-init : goal.loop-cell-init
loop-cell-init g c = refl

pub returns-in_err-cell_agrees : goal.returns-in_err-cell_agrees
returns-in_err-cell_agrees g c =
    let f : Pair → Option Finding = λ x. cell_finding x (g.M.Reads.cells c.args.m.now x.addr.number) in
    handed_on (f c.cell-item.result) _ _ c.from_residual.result c.in_err-cell_agrees.field-0.0 c.from_residual.ensures.1
    (found_here f c.args.cells.now c.loop-cell.cell-index c.cell-item.result c.loop-cell-test.true c.cell-item.is c.loop-cell.invariant)
    c.in_err-cell_agrees.ensures

pub loop-cell-preserved : goal.loop-cell-preserved
loop-cell-preserved g c =
    let f : Pair → Option Finding = λ x. cell_finding x (g.M.Reads.cells c.args.m.now x.addr.number) in
    nothing_more f c.args.cells.now c.loop-cell.cell-index c.cell-item.result c.loop-cell-test.true c.cell-item.is c.loop-cell.invariant c.in_ok-cell_agrees.ensures.0

pub returns : goal.returns
returns g c =
    let f : Pair → Option Finding = λ x. cell_finding x (g.M.Reads.cells c.args.m.now x.addr.number) in
    (nothing_found f c.args.cells.now c.loop-cell.cell-index c.loop-cell-test.false c.loop-cell.invariant, tt)
