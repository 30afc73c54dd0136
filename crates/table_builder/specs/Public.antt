-- What is public of a run in one memory of numbers. "The whitepaper" is Cairo's, ePrint 2021/1063.
use Rattle.std.specs.Prelude.{ℕ, ◌≡◌, ◌-◌, ◌+◌, ◌<◌, ◌≤◌, List, length, All, IsSome, Some}
use Rattle.std.specs.List.{range_with_len}
use Rattle.std.specs.List.Sorted.{IsStrictlyIncreasing}
use Rattle.goldilocks.specs.Field.{field_add}
use Rattle.goldilocks.specs.Felts.{felt, numbers}
use Rattle.goldilocks.specs.Cells.{memory_of}
use Rattle.casm_word.specs.Transition.{Memory}
use Rattle.casm_word.specs.Run.{LegalRun}
use Rattle.memory_columns.specs.OneMemory.{Holds}
use Rattle.range_columns.specs.Limbs.{limb_limit, range_bound}
use Rattle.program_file.specs.Listing.{Listing}
use Rattle.public_input.specs.Statement.{Statement}
use Rattle.public_input.specs.Limits.{public_cell_limit, range_cell_limit}
use Rattle.trace_files.specs.TraceFile.{state_limit}
use Rattle.trace_files.specs.MemoryFile.{memory_cell_limit}
use Rattle.access_lists.specs.Accesses.{program_cells}
use Rattle.relocation.specs.Relocated.{RelocatedRun}
use Rattle.table_builder.specs.Rows.{first_of, last_of}
use Rattle.table_builder.specs.Columns.{least_of, greatest_of, cells_at, run_small_values}
use Rattle.table_builder.specs.TablesOf.{AreInField}

-- The memory of a run. Own.
abbrev pub memory_in : RelocatedRun → Memory
memory_in run = memory_of run.cells

-- What a run states of itself, with these limits of its small values. Public are the shown cells, each with its value
-- in the memory. The whitepaper's public input of a run.
unfoldable pub stated_with : ℕ → ℕ → RelocatedRun → Statement
stated_with rc_min rc_max run = record {
  steps = length run.states - 1;
  ap_first = felt (first_of run.states).ap;
  ap_last = felt (last_of run.states).ap;
  rc_min = rc_min;
  rc_max = rc_max;
  range_begin = felt run.range_begin;
  range_count = run.range_count;
  cells = cells_at (memory_in run) run.shown;
}

-- Every offset of the steps of a run, and every limb of its range cells. The limits play no part in them. The
-- whitepaper's permutation range-checks.
unfoldable pub small_numbers : RelocatedRun → List ℕ
small_numbers run = numbers (run_small_values (stated_with 0 0 run) (memory_in run) run.states)

-- The public input of a run: its small values lie between the least and the greatest of them. The whitepaper's public
-- input of a run.
unfoldable pub public_of : RelocatedRun → Statement
public_of run = stated_with (least_of (small_numbers run)) (greatest_of (small_numbers run)) run

-- The memory has range cell i of the run, and its number is below 2^48. Own.
abbrev pub HasRangeCell : RelocatedRun → ℕ → Type 0
HasRangeCell run i = (number : ℕ) × (memory_in run (field_add run.range_begin i) ≡ Some number) × (number < range_bound limb_limit)

-- The run has a public input that is valid: it is legal, its length and its cells keep the limits, and the memory has
-- each shown cell and each range cell. Own.
pub record CanBeStated (run : RelocatedRun) : Type 0 where
  pub legal : LegalRun (memory_in run) run.states
  pub few_states : length run.states ≤ state_limit
  pub few_shown : length run.shown ≤ public_cell_limit
  pub ascending : IsStrictlyIncreasing run.shown
  pub shown_held : All (λ address. IsSome (memory_in run address)) run.shown
  pub few_range_cells : run.range_count ≤ range_cell_limit
  pub range_held : All (HasRangeCell run) (range_with_len 0 run.range_count)

-- The run is one of the program, and its cells lie at low addresses: tables can be built of it. Own.
pub record IsRunOf (program : Listing) (run : RelocatedRun) : Type 0 where
  -- The states are a run in the memory: each is the transition of the one before.
  pub legal : LegalRun (memory_in run) run.states
  pub few_states : length run.states ≤ state_limit
  -- The registers are numbers of the field.
  pub in_field : AreInField run.states
  -- It begins at the program's start, with fp where ap is.
  pub first_pc : (first_of run.states).pc ≡ 1 + program.start
  pub first_fp : (first_of run.states).fp ≡ (first_of run.states).ap
  -- It ends at the program's end.
  pub last_pc : (last_of run.states).pc ≡ 1 + program.end
  -- The memory has the program's words, at the addresses 1, 2 and on.
  pub has_program : Holds (memory_in run) (program_cells program.words)
  -- The memory has each shown cell. Their addresses ascend.
  pub few_shown : length run.shown ≤ public_cell_limit
  pub ascending : IsStrictlyIncreasing run.shown
  pub shown_held : All (λ address. IsSome (memory_in run address)) run.shown
  -- The memory has each range cell, with a number below 2^48.
  pub few_range_cells : run.range_count ≤ range_cell_limit
  pub range_held : All (HasRangeCell run) (range_with_len 0 run.range_count)
  -- All cells lie at the addresses from 1 to 2^21.
  pub low : All (λ c. (1 ≤ c.addr.number) × (c.addr.number ≤ memory_cell_limit)) run.cells
