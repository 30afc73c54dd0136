use Rattle.range_columns.proofs.Values.{numbers_ascend}
use Rattle.column_tests.proofs.tests.sorted.sorted_values.Goals as goal

pub returns : goal.returns
returns c = numbers_ascend c.sort_unstable.new.self.items c.sort_unstable.ensures.sorted
