-- What the parts of a call say to one another. The contract of the call itself cites none of it. Own.
use Rattle.std.specs.Prelude.{◌≡◌, ◌≢◌, ◌≤◌, ◌⊎◌, ℕ, ◌+◌, ⊤, List, [], length, map, Option, Some, None, Result, Ok, Err, OnOk, IfOk, IfErr, IfSome, string_bytes}
use Rattle.std.specs.Option.{option_map}
use Rattle.std.specs.Io.KnownBytes.{Appends, Keeps}
use Rattle.file_port.specs.Files.{Name}
use Rattle.file_port.specs.Counts.{Counts}
use Rattle.file_port.specs.Ports.{AppendsPrefix}
use Rattle.file_port.specs.Seen.{Seen}
use Rattle.command_frame.specs.declared.status.Status.{Status}
use Rattle.command_frame.specs.declared.status.Status.TheVariants.{Done, Refused, Run, Sink, Store as StoreFailed, Memory as NoMemory}
use Rattle.command_frame.specs.declared.ending.Conclusion.{Conclusion}
use Rattle.command_frame.specs.declared.ending.Conclusion.TheVariants.{Done as IsDone, Refused as IsRefused, RunRefused as IsRunRefused}
use Rattle.command_frame.specs.declared.ending.Refusal.{Refusal}
use Rattle.command_frame.specs.declared.ending.Refusal.TheVariants.{Usage, Unspelled, OverLimit, Missing, StoreFault, OutOfMemory}
use Rattle.command_frame.specs.declared.ending.Work.{Work}
use Rattle.command_frame.specs.declared.ending.Output.{Output}
use Rattle.command_frame.specs.declared.formats.Unread.{Unread as CodeUnread}
use Rattle.command_frame.specs.declared.formats.Unread.TheVariants.{TooMuch as TooMuchRead, Faulty as FaultRead, OutOfMemory as NoMemoryRead}
use Rattle.command_frame.specs.declared.pieces.Input.{Input as CodeInput}
use Rattle.command_frame.specs.Status.{IsDecided}
use Rattle.command_frame.specs.Answer.{Answer, Input, Task, says, usage, missing, over_limit, unspelled, written, store_fault_line}
use Rattle.command_frame.specs.Formats.{Unread, TooMuch, Faulty, within}
use Rattle.command_frame.specs.Evidence.{PassesLimit, OneOf, OneName, LeavesOutputs, most_given}

-- ---- endings as answers

-- An input of the code. Own.
abbrev pub input_of : CodeInput → Input
input_of input = record { position = input.position; name = input.name.now; limit = input.limit; may_have_too_many = input.may_have_too_many }

-- The outputs of the code. Own.
abbrev pub outputs_in : List Output → List (Name × List ℕ)
outputs_in outputs = map (λ output. (output.name.now, output.bytes.items)) outputs

-- The status of a command's own ending. Own.
abbrev pub status_of : Conclusion → Status
status_of IsDone = Done
status_of IsRefused = Refused
status_of IsRunRefused = Run

-- What a command that came to an ending of its own is answered with. Own.
abbrev pub work_answer : Work → Answer
work_answer work = record { status = status_of work.conclusion; writes = outputs_in work.outputs.items; line = string_bytes work.line }

-- What a refusal is answered with. Own.
abbrev pub refusal_answer : Refusal → Answer
refusal_answer Usage = usage
refusal_answer (Unspelled position fault) = unspelled position (string_bytes fault)
refusal_answer (OverLimit position) = over_limit position
refusal_answer (Missing position) = missing position
refusal_answer (StoreFault name) = says StoreFailed (store_fault_line name.now)
refusal_answer OutOfMemory = says NoMemory []

-- What a call is answered with that has come so far: a command's own ending, or a refusal. Own.
abbrev pub ending_answer : Result Work Refusal → Answer
ending_answer (Ok work) = work_answer work
ending_answer (Err refusal) = refusal_answer refusal

-- ---- what is read of an input

-- The bytes are read as this says: as the value, or as none for this reason, unless memory ran out. Own.
abbrev pub ReadsAs : {X V : Type 0} → (X → V) → Result V Unread → Result X CodeUnread → Type 0
ReadsAs meaning reading (Ok x) = reading ≡ Ok (meaning x)
ReadsAs meaning reading (Err TooMuchRead) = reading ≡ Err TooMuch
ReadsAs meaning reading (Err (FaultRead text)) = reading ≡ Err (Faulty (string_bytes text))
ReadsAs meaning reading (Err NoMemoryRead) = ⊤

-- The code's reason is this one, unless memory ran out. Own.
abbrev pub IsReason : Unread → CodeUnread → Type 0
IsReason TooMuch TooMuchRead = ⊤
IsReason (Faulty text) (FaultRead fault) = string_bytes fault ≡ text
IsReason why NoMemoryRead = ⊤
IsReason why _ = ⊥

-- The reason is a fault of this text, unless memory ran out. Own.
abbrev pub IsToldAs : List ℕ → CodeUnread → Type 0
IsToldAs text TooMuchRead = ⊥
IsToldAs text (FaultRead fault) = string_bytes fault ≡ text
IsToldAs text NoMemoryRead = ⊤

-- The reason is that bytes spell too much. Own.
abbrev pub IsTooMuch : CodeUnread → Type 0
IsTooMuch TooMuchRead = ⊤
IsTooMuch _ = ⊥

-- The refusal of the input at this position, whose bytes are read as no value for this reason. Own.
abbrev pub refusal_of : ℕ → CodeUnread → Refusal
refusal_of position TooMuchRead = OverLimit position
refusal_of position (FaultRead text) = Unspelled position text
refusal_of position NoMemoryRead = OutOfMemory

-- A part of a command gives what this part of the reply says, unless the store failed or memory ran out. Own.
abbrev pub Gives : {X Y : Type 0} → (X → Y) → Result X Refusal → Result Y Answer → Type 0
Gives view (Ok x) said = said ≡ Ok (view x)
Gives view (Err refusal) said = IsDecided (refusal_answer refusal).status → said ≡ Err (refusal_answer refusal)

-- The taker has taken the bytes of an input, which are within its limit. They are the bytes that the input is known to
-- have, where these are known. Own.
pub record HasTaken {T : Type 0} (Took : List ℕ → T → Type 0) (input : Input) (known : Option (Option (List ℕ))) (taker : T) : Type 0 where
  pub bytes : List ℕ
  pub took : Took bytes taker
  pub short : length bytes ≤ input.limit
  pub same : IfSome known (λ held. within input held ≡ Ok bytes)

-- An input is taken, or refused as this part of the reply says, unless the store failed or memory ran out. Own.
abbrev pub TakesInput : {T : Type 0} → (List ℕ → T → Type 0) → Input → Option (Option (List ℕ)) → Result T Refusal → Type 0
TakesInput Took input known (Ok taker) = HasTaken Took input known taker
TakesInput Took input known (Err refusal) = IfSome known (λ held. IsDecided (refusal_answer refusal).status → within input held ≡ Err (refusal_answer refusal))

-- ---- what the parts use

-- A command has worked out this answer, or ends by it there, unless the store failed or memory ran out. Own.
abbrev pub WorksOut : Result Work Refusal → Answer → Type 0
WorksOut (Ok work) answer = answer ≡ work_answer work
WorksOut (Err refusal) answer = IsDecided (refusal_answer refusal).status → answer ≡ refusal_answer refusal

-- The refusal is that the store failed. Own.
abbrev pub IsFault : Refusal → Type 0
IsFault (StoreFault name) = ⊤
IsFault _ = ⊥

-- The refusal is that an input is missing. Own.
abbrev pub IsAbsence : Refusal → Type 0
IsAbsence (Missing position) = ⊤
IsAbsence _ = ⊥

-- The part ended by a fault of the store. Own.
abbrev pub IsStoreFault : {X : Type 0} → Result X Refusal → Type 0
IsStoreFault (Ok x) = ⊥
IsStoreFault (Err refusal) = IsFault refusal

-- The part ended because an input is missing. Own.
abbrev pub IsMissing : {X : Type 0} → Result X Refusal → Type 0
IsMissing (Ok x) = ⊥
IsMissing (Err refusal) = IsAbsence refusal

-- The refusal blames one of the inputs, by its position or its name, and where that is over its limit the bytes
-- that were given show it. A command never blames the words. Own.
abbrev pub BlamesInput : List Input → Seen → Seen → Refusal → Type 0
BlamesInput inputs before after (OverLimit position) = OneOf (λ input most. (position ≡ input.position) × PassesLimit input before.given after.given × (after.given ≤ before.given + most)) 0 inputs
BlamesInput inputs before after (Missing position) = OneOf (λ input most. position ≡ input.position) 0 inputs
BlamesInput inputs before after (Unspelled position fault) = OneOf (λ input most. position ≡ input.position) 0 inputs
BlamesInput inputs before after (StoreFault name) = OneOf (λ input most. name.now ≡ input.name) 0 inputs
BlamesInput inputs before after Usage = ⊥
BlamesInput inputs before after OutOfMemory = ⊤

-- What a part uses that reads these inputs: it writes nothing, its counts tell its refusal, and it reads no more
-- than their limits and a piece of each. Own.
pub record ReadsInputs {X : Type 0} (inputs : List Input) (before after : Seen) (result : Result X Refusal) : Type 0 where
  pub files : after.files ≡ before.files
  pub torn : after.torn ≡ before.torn
  pub faults : Counts before.faults after.faults (IsStoreFault result)
  pub absent : Counts before.absent after.absent (IsMissing result)
  pub given : before.given ≤ after.given
  pub bounded : after.given ≤ before.given + most_given inputs
  pub blames : IfErr result (BlamesInput inputs before after)

-- An answer writes all outputs of these names, in their order, or is not done and writes nothing. Own.
abbrev pub WritesAll : List Name → Answer → Type 0
WritesAll names answer = (map (λ write. write.0) answer.writes ≡ names) ⊎ ((answer.writes ≡ []) × (answer.status ≢ Done))

-- What a command uses: it reads its inputs, and what it has worked out to write is all its outputs, or nothing where it
-- is refused. Own.
pub record Uses (task : Task) (before after : Seen) (result : Result Work Refusal) : Type 0 where
  pub reads : ReadsInputs task.inputs before after result
  pub names : IfOk result (λ work. WritesAll task.outputs (work_answer work))

-- What the planning of a call uses: words that are an unknown command leave all as it was. Own.
abbrev pub Plans : Option Task → Seen → Seen → Result Work Refusal → Type 0
Plans None before after result = (result ≡ Err Usage) × (after ≡ before)
Plans (Some task) before after result = Uses task before after result

-- ---- what is written and printed

-- The refusal is that the store failed at one of the outputs, or that memory ran out. Own.
abbrev pub BlamesOutput : List (Name × List ℕ) → Refusal → Type 0
BlamesOutput outputs (StoreFault name) = OneName (λ output. name.now ≡ output) (map (λ output. output.0) outputs)
BlamesOutput outputs OutOfMemory = ⊤
BlamesOutput outputs _ = ⊥

-- What the writing of outputs does: all are written, or so many from the first on. Own.
pub record WritesOutputs {X : Type 0} (outputs : List (Name × List ℕ)) (before after : Seen) (result : Result X Refusal) : Type 0 where
  pub done : OnOk result (after.files ≡ option_map (written outputs) before.files)
  pub left : IfSome before.files (λ files. LeavesOutputs outputs files before after)
  pub faults : Counts before.faults after.faults (IsStoreFault result)
  pub torn : Counts before.torn after.torn (IsStoreFault result)
  pub blames : IfErr result (BlamesOutput outputs)
  pub nothing_else : after ≡ record before { files = after.files; reading = after.reading; faults = after.faults; torn = after.torn }

-- A command's outputs are written and it is handed on, or the writing is refused. Nothing is done at a refusal. Own.
abbrev pub WritesWork : Result Work Refusal → Seen → Seen → Result Work Refusal → Type 0
WritesWork (Ok work) before after result = WritesOutputs (outputs_in work.outputs.items) before after result × IfOk result (λ same. same ≡ work)
WritesWork (Err refusal) before after result = (result ≡ Err refusal) × (after ≡ before)

-- What printing an answer's line leaves and is answered with: the line, and the answer's status; a prefix of it,
-- where the sink failed; nothing, where memory ran out. Own.
abbrev pub Prints : Status → Answer → Option (List ℕ) → Option (List ℕ) → Type 0
Prints Sink answer before now = AppendsPrefix before now answer.line
Prints NoMemory answer before now = Keeps before now
Prints status answer before now = (status ≡ answer.status) × Appends before now answer.line
