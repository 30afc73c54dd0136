-- The tables that bytes can spell: what stands at the places of a tables file.
use Rattle.std.specs.Prelude.{ℕ, ◌+◌, ◌*◌, List, take, drop, Option, Some, None, Result, Ok, Err}
use Rattle.file_records.specs.Records.{records_in, value_of_bytes, row_of_bytes, state_of_bytes, range_row_of_bytes, pair_of_bytes}
use Rattle.table_file.specs.declared.TableFault.{TableFault}
use Rattle.table_file.specs.Faults.{count_in, first_fault}
use Rattle.table_file.specs.Tables.{Contents}

-- The tables of these counts that begin with the bytes, one list after another. Own.
unfoldable pub lists_in : (rows range fillers pairs range_fillers : ℕ) → List ℕ → Contents
lists_in rows range fillers pairs range_fillers bytes =
    let after_rows = drop (264 * rows) bytes in
    let after_last = drop 24 after_rows in
    let after_range = drop (32 * range) after_last in
    let after_fillers = drop (16 * fillers) after_range in
    let after_pairs = drop (16 * pairs) after_fillers in
    let after_range_fillers = drop (8 * range_fillers) after_pairs in
    record {
      rows = records_in 264 row_of_bytes rows bytes;
      last = state_of_bytes (take 24 after_rows);
      range = records_in 32 range_row_of_bytes range after_last;
      fillers = records_in 16 pair_of_bytes fillers after_range;
      pairs = records_in 16 pair_of_bytes pairs after_fillers;
      range_fillers = records_in 8 value_of_bytes range_fillers after_pairs;
      sorted_range = records_in 8 value_of_bytes (3 * rows + 3 * range + range_fillers) after_range_fillers;
    }

-- The only tables that bytes can spell: the lists after the counts, as long as the counts say. Own.
unfoldable pub tables_in : List ℕ → Contents
tables_in bytes =
    lists_in (count_in bytes 0) (count_in bytes 1) (count_in bytes 2) (count_in bytes 3) (count_in bytes 4) (drop 48 bytes)

-- These tables, unless there is a fault. Own.
abbrev pub unless_fault : Contents → Option TableFault → Result Contents TableFault
unless_fault t None = Ok t
unless_fault t (Some fault) = Err fault

-- What bytes are read as: the tables that stand in them, or the first fault. Own.
unfoldable pub reading : List ℕ → Result Contents TableFault
reading bytes = unless_fault (tables_in bytes) (first_fault bytes)
