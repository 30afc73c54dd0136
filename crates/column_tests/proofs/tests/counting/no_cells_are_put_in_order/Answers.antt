use Rattle.memory_columns.proofs.Cells.{pair_equal}
use Rattle.column_tests.proofs.tests.counting.no_cells_are_put_in_order.Goals as goal

pub put_in_order-requires : goal.put_in_order-requires
put_in_order-requires c = λ after. pair_equal
