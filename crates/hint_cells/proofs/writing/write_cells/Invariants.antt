use Rattle.std.proofs.Common.{take, All}
use Rattle.hint_cells.specs.Fits.{FitsPlaces}
use Rattle.hint_cells.specs.Format.{cell_json}
use Rattle.json_fields.proofs.WrittenTokens.{IsWriting}
use Rattle.hint_cells.proofs.writing.write_cells.Given as goal

-- so many of the cells have been written, and they are cells of the code
abbrev pub invariant-loop-cell : goal.invariant-loop-cell
invariant-loop-cell l = record {
  written : IsWriting cell_json l.cells l.cell-index l.fn.out l.out;
  fit : All FitsPlaces (take l.cell-index l.cells);
}
