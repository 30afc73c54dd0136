-- `walk TRACE MEMORY`: is each step of a trace the transition of the machine in that memory? Its inputs,
-- its answer, and what its endings mean. Own, but where another source is named.
use Rattle.std.specs.Prelude.{◌≡◌, ◌≢◌, ◌↔◌, ℕ, ◌-◌, All, List, [], ◌∷◌, ◌++◌, length, take, slice_get, Option, Some, None, Ok, codes}
use Rattle.std.specs.Fmt.{decimal}
use Rattle.std.specs.Io.KnownBytes.{Appends}
use Rattle.casm_word.specs.Transition.{Registers, Outcome, outcome, next}
use Rattle.casm_word.specs.Run.{steps, LegalRun, first_refused}
use Rattle.casm_word.specs.Text.{step_text}
use Rattle.goldilocks.specs.Cells.{memory_of}
use Rattle.file_port.specs.Files.{Name, Files}
use Rattle.command_frame.specs.declared.status.Status.{Status}
use Rattle.command_frame.specs.declared.status.Status.TheVariants.{Done, Refused}
use Rattle.command_frame.specs.Answer.{Answer, Task, says}
use Rattle.command_frame.specs.Formats.{◌>>=◌, answered, input_at, read_as}
use Rattle.cairo_commands.specs.RunFiles.{trace_format, HoldsTrace, memory_format, HoldsMemory}

-- ---- its files and its lines

-- The line of a walk along so many legal steps. Own.
abbrev pub steps_line : ℕ → List ℕ
steps_line count = codes "walk: " ++ (decimal count ++ codes " steps\n")

-- The line of a walk that is refused at a step, counted from 0. Own.
abbrev pub refused_line : ℕ → Outcome → List ℕ
refused_line step found = codes "walk: refused at step " ++ (decimal step ++ (codes ": " ++ (step_text found ++ codes "\n")))

-- ---- its answer

-- What `walk` answers of the states and the cells that its files spell. Own.
abbrev pub walked : List Registers → Option (ℕ × Outcome) → Answer
walked states None = says Done (steps_line (length states - 1))
walked states (Some refused) = says Refused (refused_line refused.0 refused.1)

-- Both files are read, the trace first, and then each step is looked at. Own.
unfoldable pub walk_answer : Name → Name → Files → Answer
walk_answer trace memory files = answered (do
  states ← read_as trace_format 1 trace files
  cells ← read_as memory_format 2 memory files
  Ok (walked states (first_refused (memory_of cells) states)))

-- What `walk` reads and answers. Own.
abbrev pub walk_task : Name → Name → Task
walk_task trace memory = record {
  inputs = input_at trace_format 1 trace ∷ input_at memory_format 2 memory ∷ [];
  outputs = [];
  answer = walk_answer trace memory;
}

-- ---- what its endings mean

-- The files have these two, and their bytes spell states and cells. Own.
pub record SpellsWalk (trace_name memory_name : Name) (files : Files) : Type 0 where
  pub trace : HoldsTrace trace_name files
  pub memory : HoldsMemory memory_name files

-- The files spell states and cells, and the states are a legal run in the memory of the cells. After the
-- whitepaper's machine with a read-only memory.
pub record WalksLegally (trace memory : Name) (files : Files) : Type 0 where
  pub spelled : SpellsWalk trace memory files
  pub legal : LegalRun (memory_of spelled.memory.value) spelled.trace.value

-- The files spell states and cells, and one step is the first that isn't the transition. Steps are counted from
-- 0. Each step before it is the transition. It goes from one state to another, and the transition comes to
-- something else, which is the cause. After the whitepaper's machine with a read-only memory.
pub record WalkIsRefused (trace memory : Name) (files : Files) : Type 0 where
  pub spelled : SpellsWalk trace memory files
  pub step : ℕ
  pub from : Registers
  pub to : Registers
  pub found : Outcome
  pub at : slice_get (steps spelled.trace.value) step ≡ Some (from, to)
  pub legal_before : All (λ earlier. next (memory_of spelled.memory.value) earlier.0 ≡ Some earlier.1) (take step (steps spelled.trace.value))
  pub not_next : next (memory_of spelled.memory.value) from ≢ Some to
  pub cause : found ≡ outcome (memory_of spelled.memory.value) from

-- What the endings of `walk` mean. It ends with `Done` exactly where its files spell a legal run, and the line then
-- tells how many steps that has. It ends with `Refused` exactly where they spell states and cells of which some
-- step isn't the transition, and the line tells the first, and why. The last two arguments are the bytes that were
-- written before and now. Own.
pub record WalkMeans (trace memory : Name) (files : Files) (status : Status) (before now : Option (List ℕ)) : Type 0 where
  pub legal : (status ≡ Done) ↔ WalksLegally trace memory files
  pub legal_line : (walk : WalksLegally trace memory files) → Appends before now (steps_line (length walk.spelled.trace.value - 1))
  pub refused : (status ≡ Refused) ↔ WalkIsRefused trace memory files
  pub refused_line : (walk : WalkIsRefused trace memory files) → Appends before now (refused_line walk.step walk.found)
