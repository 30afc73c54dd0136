use Rattle.std.proofs.Common.{◌≡◌, ◌+◌, ◌%◌, ◌++◌, take}
use Rattle.goldilocks.specs.Field.{prime}
use Rattle.goldilocks.specs.Cells.{cells_from}
use Rattle.access_lists.proofs.cells.push_cells_from.Given as goal

abbrev pub invariant-loop-value : goal.invariant-loop-value
invariant-loop-value l = record {
  address : l.addr.number ≡ (l.fn.begin.number + l.value-index) % prime;
  items : l.all.items ≡ l.initial.all.items ++ cells_from l.fn.begin.number (take l.value-index l.values);
}
