use Rattle.std.proofs.Common.{◌≡◌, ◌+◌, ◌%◌, ◌++◌, map, take}
use Rattle.goldilocks.specs.Field.{prime}
use Rattle.goldilocks.specs.Cells.{cells_from}
use Rattle.access_lists.proofs.cells.push_range_cells.Given as goal

abbrev pub invariant-loop-row : goal.invariant-loop-row
invariant-loop-row l = record {
  address : l.addr.number ≡ (l.fn.begin.number + l.row-index) % prime;
  items : l.all.items ≡ l.initial.all.items ++ cells_from l.fn.begin.number (map (λ r. r.value) (take l.row-index l.rows));
}
