-- The run of a program with its hints: the hints are placed, and then steps are made until the program ends.
use Rattle.std.specs.Prelude.{ℕ, zero, suc, ◌+◌, Bool, not, ◌&&◌, ◌==◌, List, [], ◌∷◌, ◌++◌, Result, Ok, Err, if◌then◌else◌}
use Rattle.segments.specs.declared.Place.{Place}
use Rattle.segments.specs.declared.RelState.{RelState}
use Rattle.segments.specs.Values.{place}
use Rattle.segments.specs.Memory.{RunMemory}
use Rattle.program_file.specs.Listing.{Listing}
use Rattle.public_input.specs.Limits.{step_limit}
use Rattle.hint_cells.specs.declared.HintCell.{HintCell}
use Rattle.hint_cells.specs.HintList.{HintList}
use Rattle.builtin_segments.specs.declared.layout.Stops.{Stops}
use Rattle.builtin_segments.specs.declared.cells.CellCause.{CellCause}
use Rattle.builtin_segments.specs.Layout.{builtin_count, no_stops}
use Rattle.builtin_segments.specs.Rules.{Rules, adding}
use Rattle.builtin_segments.specs.Start.{start_memory, first_state}
use Rattle.run_steps.specs.declared.cause.StepCause.{StepCause}
use Rattle.run_steps.specs.Causes.{◌>>=◌}
use Rattle.run_steps.specs.Step.{step}
use Rattle.vm_runner.specs.declared.fault.RunFault.{RunFault}
use Rattle.vm_runner.specs.declared.fault.RunFault.TheVariants.{Builtins, Hint, NoSteps, Step, StepLimit}

-- What a run that came to its end leaves: its memory, all its states in their order, and how much of each builtin's
-- segment is used. Own.
pub record Ran : Type 0 where
  pub memory : RunMemory
  pub states : List RelState
  pub stops : Stops

-- ---- the hints

-- The memory with a hint, or the cause against the hint with this index. Own.
unfoldable pub as_hint : ℕ → Result RunMemory CellCause → Result RunMemory RunFault
as_hint i (Ok n) = Ok n
as_hint i (Err cause) = Err (Hint i cause)

-- The memory with these hints, placed in their order, or the first cause against one. The first of them has this index.
-- Own.
unfoldable pub hinted : Rules → ℕ → List HintCell → RunMemory → Result RunMemory RunFault
hinted rules i [] m = Ok m
hinted rules i (hint ∷ hints) m = do
  n ← as_hint i (adding rules m hint.place hint.value)
  hinted rules (i + 1) hints n

-- ---- the steps

-- Whether two places are one. Own.
unfoldable pub same_place : Place → Place → Bool
same_place p q = (p.seg == q.seg) && (p.off == q.off)

-- Whether the program ends in this state: pc is at its last place. Own.
unfoldable pub is_end : Listing → RelState → Bool
is_end p s = same_place s.pc (place 0 p.end)

-- What a step comes to, or the cause against the step with this index. Own.
unfoldable pub as_step : ℕ → Result (RunMemory × RelState) StepCause → Result (RunMemory × RelState) RunFault
as_step i (Ok made) = Ok made
as_step i (Err cause) = Err (Step i cause)

-- A run, with these states before its own. Own.
unfoldable pub after : List RelState → Result Ran RunFault → Result Ran RunFault
after before (Ok r) = Ok (record { memory = r.memory; states = before ++ r.states; stops = r.stops })
after before (Err fault) = Err fault

-- A run that is at its end in this state, with this memory. No builtin has a segment yet. Own.
unfoldable pub ended : RunMemory → RelState → Ran
ended m s = record { memory = m; states = s ∷ []; stops = no_stops }

-- The run from a state on, to the first state in which the program ends. So many steps may be made yet, and the next one
-- has this index. Own.
unfoldable pub run_from : Rules → Listing → ℕ → ℕ → RunMemory → RelState → Result Ran RunFault
run_from rules p zero i m s = if is_end p s then Ok (ended m s) else Err StepLimit
run_from rules p (suc more) i m s =
    if is_end p s then Ok (ended m s)
    else after (s ∷ []) (do
      made ← as_step i (step rules m s)
      run_from rules p more (i + 1) made.0 made.1)

-- ---- the run

-- The run in a memory that has the hints. A program that starts where it ends has none. Own.
unfoldable pub run_in : Rules → Listing → RunMemory → Result Ran RunFault
run_in rules p m = if p.start == p.end then Err NoSteps else run_from rules p step_limit 0 m (first_state p)

-- The run of a program with these hints, or the first cause against it. No program with a builtin has one yet. Own.
unfoldable pub run_of : Rules → Listing → HintList → Result Ran RunFault
run_of rules p h =
    if not (builtin_count p.builtins == 0) then Err Builtins
    else (do
      m ← hinted rules 0 h.cells (start_memory p h.extra)
      run_in rules p m)
