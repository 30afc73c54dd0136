-- What the tables of a run are, in words of the run. "The whitepaper" is Cairo's, ePrint 2021/1063.
use Rattle.std.specs.Prelude.{ℕ, ◌≡◌, ◌+◌, ◌<◌, ◌≤◌, List, zip, length, All, Some, slice_get}
use Rattle.goldilocks.specs.Field.{prime}
use Rattle.casm_word.specs.Transition.{Memory, Registers, registers}
use Rattle.casm_word.specs.Run.{steps, LegalRun}
use Rattle.cpu_rows.specs.Columns.{columns}
use Rattle.goldilocks.specs.Felts.{numbers}
use Rattle.cpu_rows.specs.Steps.{IsRowOf}
use Rattle.sorted_lists.specs.Order.{in_order}
use Rattle.memory_columns.specs.Equations.{pair_cmp}
use Rattle.memory_columns.specs.OneMemory.{Holds}
use Rattle.memory_columns.specs.Filling.{AreFillers, filler_limit}
use Rattle.range_columns.specs.Limbs.{limb_limit, IsSplitOf, range_bound}
use Rattle.range_columns.specs.Equations.{felt_cmp, IsWithin}
use Rattle.range_columns.specs.Filling.{absent_values}
use Rattle.program_file.specs.Listing.{Listing}
use Rattle.public_input.specs.Statement.{Statement}
use Rattle.trace_files.specs.TraceFile.{IsState}
use Rattle.table_file.specs.Tables.{Contents}
use Rattle.access_lists.specs.Accesses.{program_cells, range_cells}
use Rattle.constraint_checker.specs.Lists.{accesses, table_small_values}
use Rattle.table_builder.specs.Rows.{last_of}
use Rattle.table_builder.specs.Columns.{reads_of, row_small_values}

-- Each value of the memory is a number of the field. The whitepaper's memory.
abbrev pub HasFieldValues : Memory → Type 0
HasFieldValues m = (a v : ℕ) → m a ≡ Some v → v < prime

-- The registers of each state are numbers of the field. The whitepaper's registers.
abbrev pub AreInField : List Registers → Type 0
AreInField states = All IsState states

-- The tables are those of the run, with this program and this public input. A run has no others by this definition;
-- constraints may be met by others too, with other fillers. The whitepaper's columns of the Cairo machine, of its memory
-- and of its range checks.
pub record AreTablesOf (program : Listing) (public : Statement) (m : Memory) (states : List Registers) (tables : Contents) : Type 0 where
  -- The states are a run in the memory: each is the transition of the one before.
  pub run : LegalRun m states
  -- The run has the public number of steps.
  pub step_count : length states ≡ public.steps + 1
  -- It begins at the program's start, with ap and fp at the public first ap.
  pub first : slice_get states 0 ≡ Some (record { pc = 1 + program.start; ap = public.ap_first.number; fp = public.ap_first.number })
  -- It ends at the program's end, with ap at the public last ap.
  pub last_pc : (last_of states).pc ≡ 1 + program.end
  pub last_ap : (last_of states).ap ≡ public.ap_last.number
  -- The memory has the program's words, at the addresses 1, 2 and on.
  pub has_program : Holds m (program_cells program.words)
  -- The memory has each public cell.
  pub has_public_cells : Holds m public.cells
  -- The memory has the range cells, at the addresses from `range_begin` on.
  pub has_range_cells : Holds m (range_cells public.range_begin.number tables.range)
  -- There are as many rows as steps.
  pub row_count : length tables.rows ≡ public.steps
  -- The row of each step is that of the step in the memory.
  pub rows : All (λ at. IsRowOf m at.0.0 (columns at.1)) (zip (steps states) tables.rows)
  -- The last state is that of the run.
  pub last : registers tables.last ≡ last_of states
  -- There are as many range rows as the public input says.
  pub range_count : length tables.range ≡ public.range_count
  -- Each range row has a number below 2^48 and its three limbs.
  pub range : All (λ row. (row.value.number < range_bound limb_limit) × IsSplitOf limb_limit row.value.number row) tables.range
  -- Every offset and limb lies from `rc_min` to `rc_max`.
  pub small_values : All (IsWithin public.rc_min public.rc_max) (row_small_values tables.rows tables.range)
  -- The fillers are the cells between the accesses, and no more than there may be.
  pub fillers : AreFillers m (reads_of program public tables.rows tables.range) tables.fillers
  pub few_fillers : length tables.fillers ≤ filler_limit
  -- The range fillers are the numbers from `rc_min` to `rc_max` that no offset and no limb has.
  pub range_fillers : numbers tables.range_fillers ≡ absent_values (row_small_values tables.rows tables.range) public.rc_min public.rc_max
  -- The sorted pairs are all accesses, fillers among them, in order.
  pub pairs : tables.pairs ≡ in_order pair_cmp (accesses program public tables)
  -- The sorted range values are all offsets, limbs and range fillers, in order.
  pub sorted_range : tables.sorted_range ≡ in_order felt_cmp (table_small_values tables)
