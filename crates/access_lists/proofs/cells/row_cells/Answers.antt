use Rattle.std.proofs.Common.{rules}
use Rattle.access_lists.specs.Accesses.{row_cells}
use Rattle.access_lists.proofs.cells.row_cells.Goals as goal

pub returns : goal.returns
unfolding row_cells
returns c = search rules
