-- `tables PROGRAM PUBLIC TRACE MEMORY TABLES`: tables are built of a run, which is given by its trace and its memory. Its
-- inputs, its answer, and what its endings mean. Own.
use Rattle.std.specs.Prelude.{◌≡◌, ◌↔◌, ℕ, List, [], ◌∷◌, ◌++◌, length, Option, Some, Result, Ok, Err, codes}
use Rattle.std.specs.Fmt.{decimal}
use Rattle.std.specs.FinMap.{insert}
use Rattle.std.specs.Io.KnownBytes.{Appends}
use Rattle.goldilocks.specs.Cells.{memory_of}
use Rattle.table_file.specs.Tables.{Contents}
use Rattle.table_file.specs.Spelling.{spelling}
use Rattle.table_builder.specs.TablesOf.{AreTablesOf}
use Rattle.table_builder.specs.Findings.{Finding, FoundFirst, findings}
use Rattle.table_builder.specs.Building.{building}
use Rattle.table_builder.specs.Shown.{finding_text}
use Rattle.file_port.specs.Files.{Name, Files}
use Rattle.command_frame.specs.declared.status.Status.{Status}
use Rattle.command_frame.specs.declared.status.Status.TheVariants.{Done, Refused}
use Rattle.command_frame.specs.Answer.{Answer, Task, says}
use Rattle.command_frame.specs.Formats.{◌>>=◌, answered, input_at, read_as}
use Rattle.cairo_commands.specs.Programs.{program_format, HoldsProgram}
use Rattle.cairo_commands.specs.TableInputs.{public_format, HoldsPublic}
use Rattle.cairo_commands.specs.RunFiles.{trace_format, HoldsTrace, memory_format, HoldsMemory}
use Rattle.cairo_commands.specs.Commands.Check.{MeetsConstraints}

-- ---- its files and its lines

-- The line of tables of so many steps, in a file of so many bytes. Own.
abbrev pub built_line : ℕ → ℕ → List ℕ
built_line steps bytes =
    codes "tables: " ++ (decimal steps ++ (codes " steps, " ++ (decimal bytes ++ codes " bytes\n")))

-- The line of what stands in the way of tables. Own.
abbrev pub refused_line : Finding → List ℕ
refused_line found = codes "tables: refused: " ++ (finding_text found ++ codes "\n")

-- ---- its answer

-- What `tables` answers of the tables that are built, or of what stands in their way. Own.
abbrev pub built_answer : Name → Result Contents Finding → Answer
built_answer tables (Ok columns) = record {
  status = Done;
  writes = (tables, spelling columns) ∷ [];
  line = built_line (length columns.rows) (length (spelling columns));
}
built_answer tables (Err found) = says Refused (refused_line found)

-- All four files are read, in the order of their names, and then the tables are built. Own.
unfoldable pub tables_answer : Name → Name → Name → Name → Name → Files → Answer
tables_answer program public trace memory tables files = answered (do
  p ← read_as program_format 1 program files
  u ← read_as public_format 2 public files
  states ← read_as trace_format 3 trace files
  cells ← read_as memory_format 4 memory files
  Ok (built_answer tables (building p u (memory_of cells) states)))

-- What `tables` reads, writes and answers. Own.
abbrev pub tables_task : Name → Name → Name → Name → Name → Task
tables_task program public trace memory tables = record {
  inputs = input_at program_format 1 program ∷ input_at public_format 2 public ∷ input_at trace_format 3 trace ∷ input_at memory_format 4 memory ∷ [];
  outputs = tables ∷ [];
  answer = tables_answer program public trace memory tables;
}

-- ---- what its endings mean

-- The files have these four, each within its limit, and they spell a program, a public input, states and cells. Own.
pub record HoldsRun (program_name public_name trace_name memory_name : Name) (files : Files) : Type 0 where
  pub program : HoldsProgram program_name files
  pub public : HoldsPublic public_name files
  pub trace : HoldsTrace trace_name files
  pub memory : HoldsMemory memory_name files

-- The files are within their limits and spell a program, a public input, states and cells, and `columns` are the tables
-- of that run. After the whitepaper's columns of the Cairo machine.
pub record BuildsTables (program public trace memory : Name) (files : Files) : Type 0 where
  pub held : HoldsRun program public trace memory files
  pub columns : Contents
  pub of_run : AreTablesOf held.program.value held.public.value (memory_of held.memory.value) held.trace.value columns

-- The files are within their limits and spell a program, a public input, states and cells, and this is the first thing
-- that stands in the way of tables. Own.
pub record RefusesTables (program public trace memory : Name) (files : Files) : Type 0 where
  pub held : HoldsRun program public trace memory files
  pub found : Finding
  pub first : FoundFirst (findings held.program.value held.public.value (memory_of held.memory.value) held.trace.value) found

-- What the endings of `tables` mean. It ends with `Done` exactly where its files are within their limits, and what they
-- spell has tables. The files are then as before, but that the name of the tables has their file. That file, with the
-- program and the public input, meets every written constraint, so `check` accepts it. The line tells how many steps
-- and bytes it has. It ends with `Refused` exactly where the files are within their limits and spell all four, and
-- something stands in the way of tables. The line then tells the first such thing. At every other ending than `Done`
-- all files are as before. The last two arguments are the bytes that were written before and now. Own.
pub record TablesMeans (program public trace memory tables : Name) (files : Files) (status : Status) (after : Option Files) (before now : Option (List ℕ)) : Type 0 where
  pub built : (status ≡ Done) ↔ BuildsTables program public trace memory files
  pub tables_written : (run : BuildsTables program public trace memory files) → after ≡ Some (insert files tables (spelling run.columns))
  pub checked : (run : BuildsTables program public trace memory files) → MeetsConstraints program public tables (insert files tables (spelling run.columns))
  pub unwritten : (status ≡ Done → ⊥) → after ≡ Some files
  pub line : (run : BuildsTables program public trace memory files) → Appends before now (built_line (length run.columns.rows) (length (spelling run.columns)))
  pub refused : (status ≡ Refused) ↔ RefusesTables program public trace memory files
  pub refused_line : (run : RefusesTables program public trace memory files) → Appends before now (refused_line run.found)
