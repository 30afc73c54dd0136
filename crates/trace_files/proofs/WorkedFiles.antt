-- The definitions, tried on the files of a worked run of four steps, and on files with faults.
use Rattle.std.proofs.Common.{◌≡◌, ℕ, List, [], ◌∷◌, ◌++◌, take, drop, Ok, Err, refl}
use Rattle.goldilocks.specs.declared.Pair.{Pair}
use Rattle.goldilocks.specs.Felts.{felt}
use Rattle.goldilocks.specs.Cells.{cell}
use Rattle.casm_word.specs.Transition.{Registers}
use Rattle.trace_files.specs.declared.fault.FileFault.TheVariants.{Length, NotField, Order}
use Rattle.file_records.specs.Numbers.{is_number_at, first_failing_place}
use Rattle.trace_files.specs.TraceFile.{state_at, states_in, trace_bytes, trace_reading}
use Rattle.trace_files.specs.MemoryFile.{cell_at, cells_in, memory_bytes, ascends_at, memory_reading}

-- the bytes of the trace file
abbrev worked_trace : List ℕ
worked_trace =
    12 ∷ 0 ∷ 0 ∷ 0 ∷ 0 ∷ 0 ∷ 0 ∷ 0 ∷ 12 ∷ 0 ∷ 0 ∷ 0 ∷ 0 ∷ 0 ∷ 0 ∷ 0 ∷ 1 ∷ 0 ∷ 0 ∷ 0 ∷ 0 ∷ 0 ∷ 0 ∷ 0 ∷
    12 ∷ 0 ∷ 0 ∷ 0 ∷ 0 ∷ 0 ∷ 0 ∷ 0 ∷ 12 ∷ 0 ∷ 0 ∷ 0 ∷ 0 ∷ 0 ∷ 0 ∷ 0 ∷ 3 ∷ 0 ∷ 0 ∷ 0 ∷ 0 ∷ 0 ∷ 0 ∷ 0 ∷
    14 ∷ 0 ∷ 0 ∷ 0 ∷ 0 ∷ 0 ∷ 0 ∷ 0 ∷ 14 ∷ 0 ∷ 0 ∷ 0 ∷ 0 ∷ 0 ∷ 0 ∷ 0 ∷ 7 ∷ 0 ∷ 0 ∷ 0 ∷ 0 ∷ 0 ∷ 0 ∷ 0 ∷
    15 ∷ 0 ∷ 0 ∷ 0 ∷ 0 ∷ 0 ∷ 0 ∷ 0 ∷ 14 ∷ 0 ∷ 0 ∷ 0 ∷ 0 ∷ 0 ∷ 0 ∷ 0 ∷ 9 ∷ 0 ∷ 0 ∷ 0 ∷ 0 ∷ 0 ∷ 0 ∷ 0 ∷
    15 ∷ 0 ∷ 0 ∷ 0 ∷ 0 ∷ 0 ∷ 0 ∷ 0 ∷ 12 ∷ 0 ∷ 0 ∷ 0 ∷ 0 ∷ 0 ∷ 0 ∷ 0 ∷ 5 ∷ 0 ∷ 0 ∷ 0 ∷ 0 ∷ 0 ∷ 0 ∷ 0 ∷ []

-- the bytes of the memory file
abbrev worked_memory : List ℕ
worked_memory =
    1 ∷ 0 ∷ 0 ∷ 0 ∷ 0 ∷ 0 ∷ 0 ∷ 0 ∷ 255 ∷ 127 ∷ 255 ∷ 127 ∷ 1 ∷ 128 ∷ 7 ∷ 4 ∷ 2 ∷ 0 ∷ 0 ∷ 0 ∷ 0 ∷ 0 ∷ 0 ∷ 0 ∷
    0 ∷ 0 ∷ 0 ∷ 0 ∷ 0 ∷ 0 ∷ 0 ∷ 0 ∷ 3 ∷ 0 ∷ 0 ∷ 0 ∷ 0 ∷ 0 ∷ 0 ∷ 0 ∷ 0 ∷ 128 ∷ 1 ∷ 128 ∷ 1 ∷ 128 ∷ 4 ∷ 17 ∷
    4 ∷ 0 ∷ 0 ∷ 0 ∷ 0 ∷ 0 ∷ 0 ∷ 0 ∷ 4 ∷ 0 ∷ 0 ∷ 0 ∷ 0 ∷ 0 ∷ 0 ∷ 0 ∷ 5 ∷ 0 ∷ 0 ∷ 0 ∷ 0 ∷ 0 ∷ 0 ∷ 0 ∷
    255 ∷ 127 ∷ 255 ∷ 127 ∷ 1 ∷ 128 ∷ 7 ∷ 1 ∷ 6 ∷ 0 ∷ 0 ∷ 0 ∷ 0 ∷ 0 ∷ 0 ∷ 0 ∷ 0 ∷ 0 ∷ 0 ∷ 0 ∷ 0 ∷ 0 ∷ 0 ∷ 0 ∷
    7 ∷ 0 ∷ 0 ∷ 0 ∷ 0 ∷ 0 ∷ 0 ∷ 0 ∷ 0 ∷ 128 ∷ 255 ∷ 127 ∷ 1 ∷ 128 ∷ 6 ∷ 72 ∷ 8 ∷ 0 ∷ 0 ∷ 0 ∷ 0 ∷ 0 ∷ 0 ∷ 0 ∷
    25 ∷ 0 ∷ 0 ∷ 0 ∷ 0 ∷ 0 ∷ 0 ∷ 0 ∷ 9 ∷ 0 ∷ 0 ∷ 0 ∷ 0 ∷ 0 ∷ 0 ∷ 0 ∷ 254 ∷ 127 ∷ 255 ∷ 127 ∷ 255 ∷ 127 ∷ 139 ∷ 32 ∷
    10 ∷ 0 ∷ 0 ∷ 0 ∷ 0 ∷ 0 ∷ 0 ∷ 0 ∷ 12 ∷ 0 ∷ 0 ∷ 0 ∷ 0 ∷ 0 ∷ 0 ∷ 0 ∷ 11 ∷ 0 ∷ 0 ∷ 0 ∷ 0 ∷ 0 ∷ 0 ∷ 0 ∷
    0 ∷ 0 ∷ 0 ∷ 0 ∷ 0 ∷ 0 ∷ 0 ∷ 0 ∷ 12 ∷ 0 ∷ 0 ∷ 0 ∷ 0 ∷ 0 ∷ 0 ∷ 0 ∷ 12 ∷ 0 ∷ 0 ∷ 0 ∷ 0 ∷ 0 ∷ 0 ∷ 0 ∷
    13 ∷ 0 ∷ 0 ∷ 0 ∷ 0 ∷ 0 ∷ 0 ∷ 0 ∷ 5 ∷ 0 ∷ 0 ∷ 0 ∷ 0 ∷ 0 ∷ 0 ∷ 0 ∷ 14 ∷ 0 ∷ 0 ∷ 0 ∷ 0 ∷ 0 ∷ 0 ∷ 0 ∷
    25 ∷ 0 ∷ 0 ∷ 0 ∷ 0 ∷ 0 ∷ 0 ∷ 0 ∷ []

abbrev state : ℕ → ℕ → ℕ → Registers
state pc ap fp = record { pc = pc; ap = ap; fp = fp }

abbrev at : ℕ → ℕ → Pair
at addr value = cell (felt addr) (felt value)

-- the states of the trace
abbrev worked_states : List Registers
worked_states = state 1 12 12 ∷ state 3 12 12 ∷ state 7 14 14 ∷ state 9 15 14 ∷ state 5 15 12 ∷ []

-- the cells of the memory
abbrev worked_cells : List Pair
worked_cells = at 1 290341444919459839 ∷ at 2 0 ∷ at 3 1226245742482522112 ∷ at 4 4 ∷ at 5 74168662805676031 ∷ at 6 0 ∷ at 7 5189976364521848832 ∷ at 8 25 ∷ at 9 2345108766317314046 ∷ at 10 12 ∷ at 11 0 ∷ at 12 12 ∷ at 13 5 ∷ at 14 25 ∷ []

-- the trace spells its five states, and the memory its fourteen cells
pub trace_is_read : trace_reading worked_trace ≡ Ok worked_states
unfolding trace_reading first_failing_place is_number_at states_in state_at
trace_is_read = refl

pub trace_is_written : trace_bytes worked_states ≡ worked_trace
trace_is_written = refl

pub memory_is_read : memory_reading worked_memory ≡ Ok worked_cells
unfolding memory_reading first_failing_place is_number_at ascends_at cells_in cell_at
memory_is_read = refl

pub memory_is_written : memory_bytes worked_cells ≡ worked_memory
memory_is_written = refl

-- no bytes are no trace, and the empty memory
pub nothing_is_no_trace : trace_reading [] ≡ Err Length
unfolding trace_reading first_failing_place is_number_at states_in
nothing_is_no_trace = refl

pub nothing_is_a_memory : memory_reading [] ≡ Ok []
unfolding memory_reading first_failing_place is_number_at ascends_at cells_in
nothing_is_a_memory = refl

-- a byte less is no whole state, and one state is no step
pub a_cut_trace : trace_reading (take 119 worked_trace) ≡ Err Length
unfolding trace_reading first_failing_place is_number_at states_in
a_cut_trace = refl

pub one_state : trace_reading (take 24 worked_trace) ≡ Err Length
unfolding trace_reading first_failing_place is_number_at states_in
one_state = refl

-- p as it stands in a file
abbrev order_of_field : List ℕ
order_of_field = 1 ∷ 0 ∷ 0 ∷ 0 ∷ 255 ∷ 255 ∷ 255 ∷ 255 ∷ []

-- the first number of p or more is told by its place, and before an address out of order in the same entry
pub p_in_a_trace : trace_reading (take 32 worked_trace ++ order_of_field ++ drop 40 worked_trace) ≡ Err (NotField 32)
unfolding trace_reading first_failing_place is_number_at states_in
p_in_a_trace = refl

pub p_as_a_value : memory_reading (drop 16 (take 32 worked_memory) ++ take 8 worked_memory ++ order_of_field) ≡ Err (NotField 24)
unfolding memory_reading first_failing_place is_number_at ascends_at cells_in
p_as_a_value = refl

-- the addresses 2, 1, and behind them a value of p
pub addresses_fall : memory_reading (drop 16 (take 32 worked_memory) ++ take 16 worked_memory ++ take 8 worked_memory ++ order_of_field) ≡ Err (Order 16)
unfolding memory_reading first_failing_place is_number_at ascends_at cells_in
addresses_fall = refl
