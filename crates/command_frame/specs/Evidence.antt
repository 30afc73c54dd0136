-- What a call answers and leaves, and the evidence of its status, in words for its contract. Own.
use Rattle.std.specs.Prelude.{◌≡◌, ◌⊎◌, ℕ, ◌+◌, ◌≤◌, min, true, List, [], ◌∷◌, sum_by, Option, Some}
use Rattle.std.specs.Io.KnownBytes.{Appends, Keeps}
use Rattle.std.specs.FinMap.{insert}
use Rattle.file_port.specs.Files.{Name, Files}
use Rattle.file_port.specs.Counts.{Counts, Rose, last_count}
use Rattle.file_port.specs.Ports.{AppendsPrefix, ChangesOnly}
use Rattle.file_port.specs.Seen.{Seen, SinkSeen}
use Rattle.command_frame.specs.declared.status.Status.{Status}
use Rattle.command_frame.specs.declared.status.Status.TheVariants.{Input as Unspelled, Store, Sink, Memory, Limit, Missing}
use Rattle.command_frame.specs.Status.{IsDecided}
use Rattle.command_frame.specs.Answer.{Answer, Input, written, missing, over_limit, unspelled, store_fault_line}

-- The call is answered as the answer says: with its status, its files and its line. Own.
pub record Replied (answer : Answer) (files : Files) (status : Status) (after : Seen) (sink_before sink_after : SinkSeen) : Type 0 where
  pub answers : status ≡ answer.status
  pub writes : after.files ≡ Some (written answer.writes files)
  pub prints : Appends sink_before.written sink_after.written answer.line

-- Neither the store nor the sink counted a fault. Own.
pub record CountsNoFault (before after : Seen) (sink_before sink_after : SinkSeen) : Type 0 where
  pub store : Rose before.faults after.faults → ⊥
  pub sink : Rose sink_before.faults sink_after.faults → ⊥

-- ---- evidence over the inputs

-- The most bytes that are asked for at a time. An input that is over its limit is read at most so far past it.
-- Own.
abbrev pub piece : ℕ
piece = 65536

-- The most bytes that are read of these inputs: each one's limit and a piece. Own.
abbrev pub most_given : List Input → ℕ
most_given inputs = sum_by (λ input. input.limit + piece) inputs

-- More bytes than the limit were given between the two counts, or the count stands at its last value. Own.
abbrev pub GaveMore : ℕ → ℕ → ℕ → Type 0
GaveMore limit before now = min (before + limit + 1) last_count ≤ now

-- The input is over its limit: more bytes than that were given between the two counts, unless it is one that may have
-- too many entries within its limit. Own.
abbrev pub PassesLimit : Input → ℕ → ℕ → Type 0
PassesLimit input before now = (input.may_have_too_many ≡ true) ⊎ GaveMore input.limit before now

-- The line tells of the input at this position that it spells nothing, and of some fault. Own.
abbrev pub TellsUnspelled : (List ℕ → Type 0) → ℕ → Type 0
TellsUnspelled Tells position = (fault : List ℕ) × Tells (unspelled position fault).line

-- P of one of the inputs and of a number: the most bytes that are read by the end of that input. The number that
-- is given says how many are read before the first. Own.
abbrev pub OneOf : (Input → ℕ → Type 0) → ℕ → List Input → Type 0
OneOf P earlier [] = ⊥
OneOf P earlier (input ∷ later) = P input (earlier + (input.limit + piece)) ⊎ OneOf P (earlier + (input.limit + piece)) later

-- P of one of the names. Own.
abbrev pub OneName : (Name → Type 0) → List Name → Type 0
OneName P [] = ⊥
OneName P (name ∷ more) = P name ⊎ OneName P more

-- The fault of the store is reported by the name of an input, or by that of an output where a replace failed. Own.
abbrev pub TellsStoreFault : (List ℕ → Type 0) → List Input → List Name → Seen → Seen → Type 0
TellsStoreFault Tells inputs outputs before after =
    OneOf (λ input most. Tells (store_fault_line input.name)) 0 inputs
    ⊎ (Rose before.torn after.torn × OneName (λ name. Tells (store_fault_line name)) outputs)

-- The evidence of a status, in every store and sink: what the counts show, and what the line tells. Own.
pub record Evidence (inputs : List Input) (outputs : List Name) (before after : Seen) (sink_before sink_after : SinkSeen) (status : Status) : Type 0 where
  -- a fault of the store is answered only where one was counted; where the ending is decided, none was counted
  pub store_fault : status ≡ Store → Rose before.faults after.faults
  pub no_store_fault : IsDecided status → after.faults ≡ before.faults
  pub no_torn_file : IsDecided status → after.torn ≡ before.torn
  pub store_line : status ≡ Store → TellsStoreFault (Appends sink_before.written sink_after.written) inputs outputs before after
  -- a fault of the sink is counted exactly there
  pub sink_faults : Counts sink_before.faults sink_after.faults (status ≡ Sink)
  -- a name is missing only where one was counted; where another ending is decided, none was counted
  pub missing_name : status ≡ Missing → Rose before.absent after.absent
  pub none_missing : IsDecided status → (status ≡ Missing → ⊥) → after.absent ≡ before.absent
  pub missing_line : status ≡ Missing → OneOf (λ input most. Appends sink_before.written sink_after.written (missing input.position).line) 0 inputs
  -- no name was missing where the store failed
  pub none_missing_at_fault : status ≡ Store → after.absent ≡ before.absent
  -- what spells nothing is an input
  pub input_line : status ≡ Unspelled → OneOf (λ input most. TellsUnspelled (Appends sink_before.written sink_after.written) input.position) 0 inputs
  -- an input is over its own limit only where the call was given more bytes than that, those of the inputs before it
  -- among them, or it may have too many entries; no more is read than it and those before it allow
  pub limit : status ≡ Limit → OneOf (λ input most.
      PassesLimit input before.given after.given
      × (after.given ≤ before.given + most)
      × Appends sink_before.written sink_after.written (over_limit input.position).line) 0 inputs
  pub bounded : after.given ≤ before.given + most_given inputs
  -- nothing is printed where memory ran out
  pub memory_line : status ≡ Memory → Keeps sink_before.written sink_after.written

-- ---- what is left where a call failed or memory ran out

-- Some number of outputs, from the first on, were written, and nothing else. Own.
abbrev pub Partly : List (Name × List ℕ) → Files → Option Files → Type 0
Partly [] files left = left ≡ Some files
Partly (output ∷ more) files left = (left ≡ Some files) ⊎ Partly more (insert files output.0 output.1) left

-- Some number of outputs were written, and the next one may hold anything or be missing. Nothing else changed.
-- Own.
abbrev pub Torn : List (Name × List ℕ) → Files → Option Files → Type 0
Torn [] files left = ⊥
Torn (output ∷ more) files left = ChangesOnly output.0 (Some files) left ⊎ Torn more (insert files output.0 output.1) left

-- Outputs are written in their order, and the rest stay: one may be torn only where a replace failed. Own.
abbrev pub LeavesOutputs : List (Name × List ℕ) → Files → Seen → Seen → Type 0
LeavesOutputs writes files before after =
    Partly writes files after.files ⊎ (Rose before.torn after.torn × Torn writes files after.files)

-- What a call leaves, whatever its status: its outputs one after another, of which one may be torn. At a fault of
-- the sink all outputs and a part of the line, or a part of the line of a fault of the store. Own.
pub record Leaves (answer : Answer) (files : Files) (inputs : List Input) (outputs : List Name) (before after : Seen) (sink_before sink_after : SinkSeen) (status : Status) : Type 0 where
  pub partly : LeavesOutputs answer.writes files before after
  pub sink_files : status ≡ Sink → Rose before.faults after.faults ⊎ (after.files ≡ Some (written answer.writes files))
  pub sink_line : status ≡ Sink →
      AppendsPrefix sink_before.written sink_after.written answer.line
      ⊎ (Rose before.faults after.faults × TellsStoreFault (AppendsPrefix sink_before.written sink_after.written) inputs outputs before after)
