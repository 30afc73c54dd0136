-- Trace files: the states of a run, one after another. Own.
use Rattle.std.specs.Prelude.{◌≡◌, ◌≢◌, ◌⊎◌, ℕ, ◌+◌, ◌*◌, ◌/◌, ◌%◌, ◌<◌, ◌≤◌, ◌^◌, ◌==◌, Bool, ◌&&◌, nat_lt, nat_le, List, length, map, Option, Some, None, Result, Ok, Err, if◌then◌else◌}
use Rattle.std.specs.List.{flat_map, range_with_len, AllByRecursion}
use Rattle.goldilocks.specs.Field.{prime}
use Rattle.file_records.specs.Numbers.{numbers_bytes, number_at, IsFirstNotField, first_not_field}
use Rattle.file_records.specs.Records.{trace_state_values}
use Rattle.casm_word.specs.Transition.{Registers}
use Rattle.trace_files.specs.declared.fault.FileFault.{FileFault}
use Rattle.trace_files.specs.declared.fault.FileFault.TheVariants.{TooMany, Length, NotField, Order, Memory}

-- The most states that a trace file may have: those of 2^20 steps. Own.
abbrev pub state_limit : ℕ
state_limit = 2 ^ 20 + 1

-- The most bytes that a trace file may have. Own.
abbrev pub trace_limit : ℕ
trace_limit = 24 * state_limit

-- A state as it stands in a trace file: ap, fp, pc. Own.
abbrev pub state_bytes : Registers → List ℕ
state_bytes s = numbers_bytes (trace_state_values s)

-- The registers hold numbers of the field. Own.
pub record IsState (s : Registers) : Type 0 where
  pub pc : s.pc < prime
  pub ap : s.ap < prime
  pub fp : s.fp < prime

-- The bytes of the trace file of these states. Own.
abbrev pub trace_bytes : List Registers → List ℕ
trace_bytes states = flat_map state_bytes states

-- The bytes of a trace file spell these states, one after another and nothing else. There are at least two, which
-- is one step, and no more than a trace file may have. Own.
pub record SpellsTrace (bytes : List ℕ) (states : List Registers) : Type 0 where
  pub parts : bytes ≡ trace_bytes states
  pub least : 2 ≤ length states
  pub most : length states ≤ state_limit
  pub numbers : AllByRecursion IsState states

-- So many bytes may be a trace file: whole states, two at least, and no more than it may have. Own.
pub record HasTraceLength (bytes : List ℕ) : Type 0 where
  pub least : 48 ≤ length bytes
  pub most : length bytes ≤ trace_limit
  pub whole : length bytes % 24 ≡ 0

-- The fault of bytes that spell no trace. `TooMany`: they are more than a trace file may have. `Length`: else, they
-- are no whole states, or less than two. `NotField`: else, the first number that is none of the field begins at this
-- place. Own.
abbrev pub IsTraceFault : List ℕ → FileFault → Type 0
IsTraceFault bytes TooMany = trace_limit < length bytes
IsTraceFault bytes Length = (length bytes ≤ trace_limit) × ((length bytes % 24 ≢ 0) ⊎ (length bytes < 48))
IsTraceFault bytes (NotField place) = HasTraceLength bytes × IsFirstNotField bytes place
IsTraceFault bytes (Order place) = ⊥
IsTraceFault bytes Memory = ⊥

-- The state with a number, counted from 0, where the bytes are states one after another. Own.
unfoldable pub state_at : List ℕ → ℕ → Registers
state_at bytes i = record { pc = number_at bytes (24 * i + 16); ap = number_at bytes (24 * i); fp = number_at bytes (24 * i + 8) }

-- The states at their places in the bytes, as many as fit: the only ones that the bytes can spell. Own.
unfoldable pub states_in : List ℕ → List Registers
states_in bytes = map (state_at bytes) (range_with_len 0 (length bytes / 24))

-- Whether so many bytes are whole states, and two at least, as a test. Own.
abbrev pub has_states : ℕ → Bool
has_states size = (size % 24 == 0) && nat_le 48 size

-- The states, unless a number is none of the field. Own.
abbrev pub states_unless : Option ℕ → List Registers → Result (List Registers) FileFault
states_unless None states = Ok states
states_unless (Some place) states = Err (NotField place)

-- What the bytes of a trace file are read as: the states that they spell, or else their fault. Own.
unfoldable pub trace_reading : List ℕ → Result (List Registers) FileFault
trace_reading bytes =
    if nat_lt trace_limit (length bytes) then Err TooMany
    else (if has_states (length bytes) then states_unless (first_not_field bytes) (states_in bytes) else Err Length)
