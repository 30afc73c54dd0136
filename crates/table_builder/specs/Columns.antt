-- The tables of a run: its rows, and the columns of its memory and of its small values.
use Rattle.std.specs.Prelude.{ℕ, List, [], ◌++◌, map, min, max, unwrap_or}
use Rattle.std.specs.List.{reduce}
use Rattle.goldilocks.specs.declared.Felt.{Felt}
use Rattle.goldilocks.specs.declared.Pair.{Pair}
use Rattle.goldilocks.specs.Felts.{felt}
use Rattle.casm_word.specs.Transition.{Memory, Registers}
use Rattle.cpu_rows.specs.declared.Row.{Row}
use Rattle.sorted_lists.specs.Order.{in_order}
use Rattle.memory_columns.specs.Equations.{pair_cmp}
use Rattle.memory_columns.specs.Filling.{unaccessed, filler_at}
use Rattle.range_columns.specs.declared.RangeRow.{RangeRow}
use Rattle.range_columns.specs.Equations.{felt_cmp}
use Rattle.range_columns.specs.Filling.{absent_values}
use Rattle.access_lists.specs.Accesses.{accesses}
use Rattle.access_lists.specs.SmallValues.{small_values}
use Rattle.constraint_checker.specs.Lists.{accessing_with}
use Rattle.program_file.specs.Listing.{Listing}
use Rattle.public_input.specs.Statement.{Statement}
use Rattle.table_file.specs.Tables.{Contents}
use Rattle.goldilocks.specs.Cells.{cell, addresses}
use Rattle.table_builder.specs.Rows.{rows_of, range_rows_of, last_of, as_state}

-- The least of some numbers; 0 where there are none. Own.
unfoldable pub least_of : List ℕ → ℕ
least_of numbers = unwrap_or (reduce min numbers) 0

-- The greatest of some numbers; 0 where there are none. Own.
unfoldable pub greatest_of : List ℕ → ℕ
greatest_of numbers = unwrap_or (reduce max numbers) 0

-- Every access to the memory but the fillers, where these are the rows and the range rows. The whitepaper's memory
-- accesses, with its public memory.
abbrev pub reads_of : Listing → Statement → List Row → List RangeRow → List Pair
reads_of program public rows range = accesses (accessing_with program public rows range [])

-- Every offset and limb of these rows and range rows. The whitepaper's permutation range-checks.
abbrev pub row_small_values : List Row → List RangeRow → List Felt
row_small_values rows range = small_values (record { rows = rows; range_rows = range; fillers = [] })

-- Every access to the memory but the fillers, in a run. Own.
unfoldable pub reads : Listing → Statement → Memory → List Registers → List Pair
reads program public m states = reads_of program public (rows_of m states) (range_rows_of public m)

-- Every offset and limb, in a run. Own.
unfoldable pub run_small_values : Statement → Memory → List Registers → List Felt
run_small_values public m states = row_small_values (rows_of m states) (range_rows_of public m)

-- The addresses between the least and the greatest accessed one that are never accessed, ascending. Own.
unfoldable pub free_addresses : List Pair → List ℕ
free_addresses cells = unaccessed cells (least_of (addresses cells)) (greatest_of (addresses cells))

-- The cells at these addresses, with the memory's values, or 0 where it has none. Own.
unfoldable pub cells_at : Memory → List ℕ → List Pair
cells_at m free = map (λ a. cell (felt (filler_at m a).0) (felt (filler_at m a).1)) free

-- The tables of a run with the public input: the memory fillers lie between the accesses, and the range fillers are the
-- values that no offset and no limb has. Sorted are all accesses with the fillers, and all offsets and limbs with
-- theirs. The whitepaper's columns of the memory and of the range checks.
unfoldable pub tables_of : Listing → Statement → Memory → List Registers → Contents
tables_of program public m states =
    let accessed = reads program public m states in
    let fillers = cells_at m (free_addresses accessed) in
    let small = run_small_values public m states in
    let absent = map felt (absent_values small public.rc_min public.rc_max) in
    record {
      rows = rows_of m states;
      last = as_state (last_of states);
      range = range_rows_of public m;
      fillers = fillers;
      pairs = in_order pair_cmp (accessed ++ fillers);
      range_fillers = absent;
      sorted_range = in_order felt_cmp (small ++ absent);
    }
