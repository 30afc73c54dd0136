-- What it means that tables are accepted. "The whitepaper" is Cairo's, ePrint 2021/1063.
use Rattle.std.specs.Prelude.{ℕ, ◌≡◌, ◌+◌, ◌<◌, map, length, All, Some, slice_get}
use Rattle.goldilocks.specs.Field.{field_add}
use Rattle.goldilocks.specs.declared.Felt.{Felt}
use Rattle.casm_word.specs.Transition.{Memory}
use Rattle.casm_word.specs.Run.{LegalRun}
use Rattle.cpu_rows.specs.Columns.{columns}
use Rattle.cpu_rows.specs.Steps.{HasSmallOffsets}
use Rattle.memory_columns.specs.OneMemory.{Holds}
use Rattle.goldilocks.specs.Cells.{memory_of}
use Rattle.range_columns.specs.declared.RangeRow.{RangeRow}
use Rattle.range_columns.specs.Equations.{IsWithin}
use Rattle.program_file.specs.Listing.{Listing}
use Rattle.public_input.specs.Statement.{Statement}
use Rattle.range_columns.specs.Limbs.{limb_limit, range_bound}
use Rattle.table_file.specs.Tables.{Contents}
use Rattle.constraint_checker.specs.Lists.{accesses, table_small_values}
use Rattle.constraint_checker.specs.Constraints.{states, last_state}

-- The memory of the tables: at each address the value at its first place in the sorted pairs. The whitepaper proves of
-- its nondeterministic continuous read-only memory that there is one; here it is read off.
abbrev pub memory_in : Contents → Memory
memory_in tables = memory_of tables.pairs

-- The tables describe a run of the program, with this public input. The whitepaper's statement of what a proof of a run
-- shows.
pub record DescribeRun (program : Listing) (public : Statement) (tables : Contents) : Type 0 where
  -- The memory has word i of the program at the address 1 + i.
  pub has_program : (i : ℕ) (word : Felt) → slice_get program.words i ≡ Some word →
      memory_in tables (1 + i) ≡ Some word.number
  -- The memory has each public cell.
  pub has_public_cells : Holds (memory_in tables) public.cells
  -- The memory has range cell i at the address `range_begin` + i.
  pub has_range_cells : (i : ℕ) (row : RangeRow) → slice_get tables.range i ≡ Some row →
      memory_in tables (field_add public.range_begin.number i) ≡ Some row.value.number
  -- The memory has every access, those of each row among them.
  pub has_accesses : Holds (memory_in tables) (accesses program public tables)
  -- The states of the rows, with the last state, are a run in this memory: each is the transition of the one before.
  pub run : LegalRun (memory_in tables) (states tables)
  -- The run has the public number of steps.
  pub steps : length (states tables) ≡ public.steps + 1
  -- It begins at the program's start, with ap and fp at the public first ap.
  pub first : slice_get (states tables) 0 ≡ Some (record { pc = 1 + program.start; ap = public.ap_first.number; fp = public.ap_first.number })
  -- It ends at the program's end, with ap at the public last ap.
  pub last_pc : (last_state tables).pc ≡ 1 + program.end
  pub last_ap : (last_state tables).ap ≡ public.ap_last.number
  -- Every offset, every limb and every range filler lies from `rc_min` to `rc_max`.
  pub small_values : All (IsWithin public.rc_min public.rc_max) (table_small_values tables)
  -- Each biased offset of a row is below 2^16.
  pub offsets : All HasSmallOffsets (map columns tables.rows)
  -- Each range cell is below 2^48, since it has three limbs, and there are as many as the public input says.
  pub range_cells : All (λ row. row.value.number < range_bound limb_limit) tables.range
  pub range_count : length tables.range ≡ public.range_count
