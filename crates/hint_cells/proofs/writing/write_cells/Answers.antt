use Rattle.std.proofs.Common.{sym, arith}
use Rattle.hint_cells.specs.Format.{cell_json}
use Rattle.json_fields.proofs.WrittenTokens.{one_more, ended}
use Rattle.hint_cells.proofs.WrittenHints.{fit_more, fit_all}
use Rattle.hint_cells.proofs.writing.write_cells.Goals as goal

pub loop-cell-preserved : goal.loop-cell-preserved
loop-cell-preserved c = record {
  written =
      one_more cell_json c.args.cells.now c.args.out.now c.loop-cell.cell-index c.cell-item.result c.loop-cell.out c.write_cell.new.out (omega arith) (sym c.cell-item.is)
      c.loop-cell.invariant.written c.in_ok-write_cell.ensures.written;
  fit = fit_more c.args.cells.now c.loop-cell.cell-index c.cell-item.result (omega arith) (sym c.cell-item.is) c.loop-cell.invariant.fit c.in_ok-write_cell.ensures.fits;
}

pub returns-clause-written : goal.returns-clause-written
returns-clause-written c =
    ended cell_json c.args.cells.now c.args.out.now c.loop-cell.cell-index c.loop-cell.out c.end_array.new.self c.end_array.result (omega arith) c.loop-cell.invariant.written c.end_array.ensures

pub returns-clause-fit : goal.returns-clause-fit
returns-clause-fit c = fit_all c.end_array.result c.args.cells.now c.loop-cell.cell-index (omega arith) c.loop-cell.invariant.fit
