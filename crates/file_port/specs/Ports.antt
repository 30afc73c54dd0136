-- Words for what the calls of a store and of a sink answer and leave. The whitepaper speaks of no files; all
-- of this is the project's own.
use Rattle.std.specs.Prelude.{◌≡◌, ℕ, Bool, true, false, List, take, ⊤, Option, None, Some, is_some, IsSome, Result, Ok, Err, codes}
use Rattle.std.specs.Io.KnownBytes.{Appends}
use Rattle.file_port.specs.Files.{Name, Files, file_at}
use Rattle.file_port.specs.declared.ports.PortError.{PortError}
use Rattle.file_port.specs.declared.ports.PortError.TheVariants.{Failed, Memory}

-- What an error prints. Own.
abbrev pub error_text : PortError → List ℕ
error_text Failed = codes "the files or the output failed"
error_text Memory = codes "out of memory"

-- P, where the answer is Ok(true). Own.
abbrev pub OnFound : {E : Type 0} → Result Bool E → Type 0 → Type 0
OnFound (Ok true) P = P
OnFound (Ok false) P = ⊤
OnFound (Err e) P = ⊤

-- P, where the answer is Ok(false). Own.
abbrev pub OnMissing : {E : Type 0} → Result Bool E → Type 0 → Type 0
OnMissing (Ok true) P = ⊤
OnMissing (Ok false) P = P
OnMissing (Err e) P = ⊤

-- P, where the answer is the fault Failed. Own.
abbrev pub OnFailed : {T : Type 0} → Result T PortError → Type 0 → Type 0
OnFailed (Ok x) P = ⊤
OnFailed (Err Failed) P = P
OnFailed (Err Memory) P = ⊤

-- P, where the answer is want of memory. Own.
abbrev pub OnMemory : {T : Type 0} → Result T PortError → Type 0 → Type 0
OnMemory (Ok x) P = ⊤
OnMemory (Err Failed) P = ⊤
OnMemory (Err Memory) P = P

-- The files, where they are told, hold the name, and its bytes are what is left to read. Own.
abbrev pub HoldsWhole : Option Files → Name → Option (List ℕ) → Type 0
HoldsWhole None name left = ⊤
HoldsWhole (Some files) name left = IsSome left × (left ≡ file_at files name)

-- The files, where they are told, have no file of the name. Own.
abbrev pub IsAbsent : Option Files → Name → Type 0
IsAbsent None name = ⊤
IsAbsent (Some files) name = file_at files name ≡ None

-- Files that are told, and are the same but at this name, which may hold anything now or be missing. Own.
abbrev pub ChangesOnly : Name → Option Files → Option Files → Type 0
ChangesOnly name None now = ⊤
ChangesOnly name (Some files) None = ⊥
ChangesOnly name (Some files) (Some now) = (other : Name) → (other ≡ name → ⊥) → file_at now other ≡ file_at files other

-- Known bytes grew by a prefix of bs. Own.
abbrev pub AppendsPrefix : Option (List ℕ) → Option (List ℕ) → List ℕ → Type 0
AppendsPrefix old new bs = (k : ℕ) × Appends old new (take k bs)

-- What is told before a call is told after it, and nothing else is. Own.
abbrev pub TellsAlike : {T : Type 0} → Option T → Option T → Type 0
TellsAlike before now = is_some now ≡ is_some before
