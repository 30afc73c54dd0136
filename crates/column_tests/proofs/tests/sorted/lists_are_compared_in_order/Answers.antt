use Rattle.range_columns.proofs.Values.{felt_equal}
use Rattle.column_tests.proofs.tests.sorted.lists_are_compared_in_order.Goals as goal

pub order_difference-requires : goal.order_difference-requires
order_difference-requires c = λ after. felt_equal
