use Rattle.memory_columns.proofs.Cells.{pair_equal}
use Rattle.column_tests.proofs.tests.counting.cells_are_compared_in_order.Goals as goal

pub order_difference-requires : goal.order_difference-requires
order_difference-requires c = λ after. pair_equal
