use Rattle.std.proofs.Common.{ℕ, ◌<◌}
use Rattle.goldilocks.specs.Field.{prime}
use Rattle.file_records.specs.Numbers.{number_at}
use Rattle.table_file.specs.Faults.{value_place}
use Rattle.table_file.proofs.reading.high_value.Given as goal

abbrev pub invariant-loop-k : goal.invariant-loop-k
invariant-loop-k l = (j : ℕ) → j < l.k → number_at l.bytes (value_place j) < prime
