-- A run of the machine in one memory of numbers: what a run is once its segments have addresses.
use Rattle.std.specs.Prelude.{◌≡◌, ℕ, ◌-◌, ◌≤◌, List, length, map, slice_get, Some}
use Rattle.std.specs.List.{range_with_len}
use Rattle.std.specs.FinMap.{entries}
use Rattle.goldilocks.specs.declared.Pair.{Pair}
use Rattle.goldilocks.specs.Felts.{felt, numbers}
use Rattle.goldilocks.specs.Cells as cells
use Rattle.casm_word.specs.Transition.{Registers, registers}
use Rattle.segments.specs.declared.Place.{Place}
use Rattle.segments.specs.declared.RelState.{RelState}
use Rattle.segments.specs.declared.Value.{Value}
use Rattle.segments.specs.Values.{place}
use Rattle.segments.specs.Memory.{RunMemory, cell}
use Rattle.segments.specs.Relocation.{address, relocated}
use Rattle.program_file.specs.declared.Builtins.{Builtins}
use Rattle.builtin_segments.specs.declared.layout.Stops.{Stops}
use Rattle.builtin_segments.specs.Layout.{execution}
use Rattle.builtin_segments.specs.Start.{start_stack}
use Rattle.run_steps.specs.ValueRun.{registers_at}
use Rattle.trace_files.specs.CellList.{listed}
use Rattle.relocation.specs.declared.run.FieldRun.{FieldRun}

-- The states of a run, the cells of its memory, the addresses of the cells that are shown, and where the range cells
-- begin and how many there are. Own.
pub record RelocatedRun : Type 0 where
  pub states : List Registers
  pub cells : List Pair
  pub shown : List ℕ
  pub range_begin : ℕ
  pub range_count : ℕ

-- A held cell once the segments have addresses: at the address of its place it has its relocated value. Own.
unfoldable pub relocated_cell : List ℕ → Place × Value → Pair
relocated_cell sizes held = cells.cell (felt (address sizes held.0)) (felt (relocated sizes held.1))

-- Every held cell of a memory, relocated, in the order of the places. Own.
unfoldable pub relocated_cells : RunMemory → List Pair
relocated_cells m = map (relocated_cell m.sizes) (entries m.cells)

-- The cell is a held cell of the memory, relocated. Own.
abbrev pub IsHeldCell : RunMemory → Pair → Type 0
IsHeldCell m c =
    (p : Place) × (v : Value) × (cell m p ≡ Some v) × (c.addr.number ≡ address m.sizes p) × (c.value.number ≡ relocated m.sizes v)

-- The places of the cells that are shown: the first cells of the execution segment, as many as the start stack has. Own.
unfoldable pub shown_places : Builtins → List Place
shown_places b = map (place execution) (range_with_len 0 (length (start_stack b)))

-- There is a last state, and so many cells or more lie before its ap. Own.
abbrev pub LeavesCells : ℕ → List RelState → Type 0
LeavesCells count states =
    (last : RelState) × (slice_get states (length states - 1) ≡ Some last) × (count ≤ last.ap.off)

-- The run over numbers that a run over values is, for a program with these builtins that used so much of their segments:
-- all its states and cells are relocated. Until programs with builtins are run, it shows no cell but those of the start
-- stack and has no range cells. Own.
unfoldable pub relocated_run : Builtins → Stops → RunMemory → List RelState → RelocatedRun
relocated_run b stops m states = record {
  states = map (registers_at m.sizes) states;
  cells = relocated_cells m;
  shown = map (address m.sizes) (shown_places b);
  range_begin = 0;
  range_count = 0;
}

-- What a run of the code says. Own.
abbrev pub field_run : FieldRun → RelocatedRun
field_run run = record {
  states = map registers run.states.items;
  cells = listed run.cells;
  shown = numbers run.shown.items;
  range_begin = run.range_begin.number;
  range_count = run.range_count;
}
