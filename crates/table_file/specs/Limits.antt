-- How many bytes a tables file may have.
use Rattle.std.specs.Prelude.{ℕ}
use Rattle.memory_columns.specs.Filling.{filler_limit}
use Rattle.table_file.specs.Tables.{row_limit, range_row_limit, pair_limit, range_filler_limit}
use Rattle.table_file.specs.Faults.{value_count, value_place}

-- The most bytes that a tables file may have: it ends after the last value of the greatest counts. Own.
abbrev pub tables_limit : ℕ
tables_limit = value_place (value_count row_limit range_row_limit filler_limit pair_limit range_filler_limit)
