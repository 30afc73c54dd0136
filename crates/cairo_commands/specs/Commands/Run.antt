-- `run PROGRAM HINTS TRACE MEMORY PUBLIC TABLES`: a program is run with its hints, and the run is written. Its inputs, its
-- answer, and what its endings mean. Own, but where another source is named.
use Rattle.std.specs.Prelude.{◌≡◌, ◌↔◌, ℕ, ◌-◌, All, List, [], ◌∷◌, ◌++◌, length, slice_get, Option, Some, Result, Ok, Err, codes}
use Rattle.std.specs.Fmt.{decimal}
use Rattle.std.specs.Io.KnownBytes.{Appends}
use Rattle.goldilocks.specs.Cells.{memory_of}
use Rattle.casm_word.specs.Transition.{Memory}
use Rattle.casm_word.specs.Run.{LegalRun}
use Rattle.segments.specs.declared.Value.{Value}
use Rattle.segments.specs.Values.{place}
use Rattle.segments.specs.Relocation.{address, relocated}
use Rattle.program_file.specs.Listing.{Listing}
use Rattle.hint_cells.specs.HintList.{HintList}
use Rattle.builtin_segments.specs.Layout.{execution}
use Rattle.builtin_segments.specs.Start.{start_stack}
use Rattle.builtin_segments.specs.Rules.{rules_of}
use Rattle.vm_runner.specs.declared.fault.RunFault.{RunFault}
use Rattle.vm_runner.specs.Run.{Ran, run_of}
use Rattle.vm_runner.specs.Shown.{fault_text}
use Rattle.relocation.specs.Relocated.{RelocatedRun, relocated_run}
use Rattle.memory_columns.specs.OneMemory.{Holds}
use Rattle.access_lists.specs.Accesses.{program_cells}
use Rattle.trace_files.specs.TraceFile.{trace_bytes}
use Rattle.trace_files.specs.MemoryFile.{memory_bytes}
use Rattle.public_input.specs.Written.{written as public_bytes}
use Rattle.table_file.specs.Tables.{Contents}
use Rattle.table_file.specs.Spelling.{spelling}
use Rattle.table_builder.specs.Public.{public_of}
use Rattle.table_builder.specs.Columns.{tables_of}
use Rattle.table_builder.specs.TablesOf.{AreTablesOf}
use Rattle.file_port.specs.Files.{Name, Files}
use Rattle.command_frame.specs.declared.status.Status.{Status}
use Rattle.command_frame.specs.declared.status.Status.TheVariants.{Done, Run}
use Rattle.command_frame.specs.Answer.{Answer, Task, says, written}
use Rattle.command_frame.specs.Formats.{◌>>=◌, answered, input_at, read_as}
use Rattle.cairo_commands.specs.Programs.{program_format, HoldsProgram}
use Rattle.cairo_commands.specs.HintFiles.{hints_format, HoldsHints}
use Rattle.cairo_commands.specs.Commands.Walk.{WalksLegally}
use Rattle.cairo_commands.specs.Commands.Check.{MeetsConstraints}

-- ---- its lines

-- The line of a run of so many steps, whose memory has so many cells. Own.
abbrev pub ended_line : ℕ → ℕ → List ℕ
ended_line steps cells = codes "run: " ++ (decimal steps ++ (codes " steps, " ++ (decimal cells ++ codes " cells\n")))

-- The line of a run that is refused. Own.
abbrev pub refused_line : RunFault → List ℕ
refused_line fault = codes "run: " ++ (fault_text fault ++ codes "\n")

-- ---- its files

-- A run of this program that came to its end, once its segments are laid out. Own.
abbrev pub laid_out : Listing → Ran → RelocatedRun
laid_out p ran = relocated_run p.builtins ran.stops ran.memory ran.states

-- The tables of a run of this program that is laid out, with its public input. The whitepaper's columns of the Cairo machine.
abbrev pub run_tables : Listing → RelocatedRun → Contents
run_tables p run = tables_of p (public_of run) (memory_of run.cells) run.states

-- The four files that are written of a run, in their order. Own.
abbrev pub run_files : (trace memory public tables : Name) → Listing → RelocatedRun → List (Name × List ℕ)
run_files trace memory public tables p run =
    (trace, trace_bytes run.states)
    ∷ (memory, memory_bytes run.cells)
    ∷ (public, public_bytes (public_of run))
    ∷ (tables, spelling (run_tables p run))
    ∷ []

-- ---- its answer

-- What `run` answers of the run of a program: its files, or why it is refused. Own.
abbrev pub ended_answer : (trace memory public tables : Name) → Listing → Result Ran RunFault → Answer
ended_answer trace memory public tables p (Ok ran) = record {
  status = Done;
  writes = run_files trace memory public tables p (laid_out p ran);
  line = ended_line (length (laid_out p ran).states - 1) (length (laid_out p ran).cells);
}
ended_answer trace memory public tables p (Err fault) = says Run (refused_line fault)

-- Both files are read, the program first, and then the program is run. Own.
unfoldable pub run_answer : (program hints trace memory public tables : Name) → Files → Answer
run_answer program hints trace memory public tables files = answered (do
  p ← read_as program_format 1 program files
  h ← read_as hints_format 2 hints files
  Ok (ended_answer trace memory public tables p (run_of (rules_of p.builtins) p h)))

-- What `run` reads, writes and answers. Own.
abbrev pub run_task : (program hints trace memory public tables : Name) → Task
run_task program hints trace memory public tables = record {
  inputs = input_at program_format 1 program ∷ input_at hints_format 2 hints ∷ [];
  outputs = trace ∷ memory ∷ public ∷ tables ∷ [];
  answer = run_answer program hints trace memory public tables;
}

-- ---- what its endings mean

-- The files have these two, each within its limit, and they spell a program and hints. Own.
pub record HoldsHinted (program_name hints_name : Name) (files : Files) : Type 0 where
  pub program : HoldsProgram program_name files
  pub hints : HoldsHints hints_name files

-- The files are within their limits and spell a program and hints, and the run of the program with these hints comes to
-- its end. Own.
pub record RunsToEnd (program hints : Name) (files : Files) : Type 0 where
  pub held : HoldsHinted program hints files
  pub ran : Ran
  pub completes : run_of (rules_of held.program.value.builtins) held.program.value held.hints.value ≡ Ok ran

-- That run, once its segments are laid out. Own.
abbrev pub laid : {program hints : Name} {files : Files} → RunsToEnd program hints files → RelocatedRun
laid run = laid_out run.held.program.value run.ran

-- The files are within their limits and spell a program and hints, and the run of the program with these hints is refused
-- for this cause. Own.
pub record RefusesRun (program hints : Name) (files : Files) : Type 0 where
  pub held : HoldsHinted program hints files
  pub fault : RunFault
  pub refused : run_of (rules_of held.program.value.builtins) held.program.value held.hints.value ≡ Err fault

-- A memory holds what a run was given, once its segments are laid out: the program's words from address 1 on, the start
-- stack, and each hint cell. Own.
pub record HoldsGiven (p : Listing) (h : HintList) (sizes : List ℕ) (m : Memory) : Type 0 where
  pub program : Holds m (program_cells p.words)
  pub stack : (off : ℕ) (v : Value) → slice_get (start_stack p.builtins) off ≡ Some v → m (address sizes (place execution off)) ≡ Some (relocated sizes v)
  pub hints : All (λ c. m (address sizes c.place) ≡ Some (relocated sizes c.value)) h.cells

-- What the endings of `run` mean. It ends with `Done` exactly where its files spell a program and hints whose run comes to
-- its end. Then the files are as before, but that the four names have the trace, the memory, the public input and the
-- tables of that run. Its states are a legal run in its memory, which holds what the run was given, and the tables are those of
-- the run. So `walk` ends with `Done` on the files that are left, and `check` accepts them. The line tells how many steps
-- the run has, and how many cells its memory. It ends with `Run` exactly where the files spell a program and hints whose
-- run is refused, and the line tells the cause. At every other ending than `Done` all files are as before. The last two
-- arguments are the bytes that were written before and now. Own.
pub record RunMeans (program hints trace memory public tables : Name) (files : Files) (status : Status) (after : Option Files) (before now : Option (List ℕ)) : Type 0 where
  pub ran : (status ≡ Done) ↔ RunsToEnd program hints files
  pub files_written : (run : RunsToEnd program hints files) →
      after ≡ Some (written (run_files trace memory public tables run.held.program.value (laid run)) files)
  pub legal : (run : RunsToEnd program hints files) → LegalRun (memory_of (laid run).cells) (laid run).states
  pub holds : (run : RunsToEnd program hints files) →
      HoldsGiven run.held.program.value run.held.hints.value run.ran.memory.sizes (memory_of (laid run).cells)
  pub of_run : (run : RunsToEnd program hints files) → AreTablesOf run.held.program.value (public_of (laid run))
      (memory_of (laid run).cells) (laid run).states (run_tables run.held.program.value (laid run))
  pub walked : (run : RunsToEnd program hints files) →
      WalksLegally trace memory (written (run_files trace memory public tables run.held.program.value (laid run)) files)
  pub checked : (run : RunsToEnd program hints files) →
      MeetsConstraints program public tables (written (run_files trace memory public tables run.held.program.value (laid run)) files)
  pub line : (run : RunsToEnd program hints files) →
      Appends before now (ended_line (length (laid run).states - 1) (length (laid run).cells))
  pub refused : (status ≡ Run) ↔ RefusesRun program hints files
  pub refused_line : (run : RefusesRun program hints files) → Appends before now (refused_line run.fault)
  pub unwritten : (status ≡ Done → ⊥) → after ≡ Some files
