-- `check PROGRAM PUBLIC TABLES`: do tables meet every written constraint, and so describe a run of the program? Its inputs,
-- its answer, and what its endings mean. Own, but where another source is named.
use Rattle.std.specs.Prelude.{◌≡◌, ◌↔◌, ℕ, List, [], ◌∷◌, ◌++◌, length, Option, Ok, codes}
use Rattle.std.specs.Fmt.{decimal}
use Rattle.std.specs.Io.KnownBytes.{Appends}
use Rattle.constraint_checker.specs.declared.Constraint.{Constraint}
use Rattle.constraint_checker.specs.declared.Verdict.{Verdict}
use Rattle.constraint_checker.specs.declared.Verdict.TheVariants as verdict_is
use Rattle.constraint_checker.specs.Shown.{constraint_name}
use Rattle.constraint_checker.specs.Constraints.{MeetsAll}
use Rattle.constraint_checker.specs.Verdict.{verdict}
use Rattle.constraint_checker.specs.Acceptance.{DescribeRun}
use Rattle.file_port.specs.Files.{Name, Files}
use Rattle.command_frame.specs.declared.status.Status.{Status}
use Rattle.command_frame.specs.declared.status.Status.TheVariants.{Done, Refused}
use Rattle.command_frame.specs.Answer.{Answer, Task, says}
use Rattle.command_frame.specs.Formats.{◌>>=◌, answered, input_at, read_as}
use Rattle.cairo_commands.specs.Programs.{program_format, HoldsProgram}
use Rattle.cairo_commands.specs.TableInputs.{public_format, HoldsPublic, tables_format, HoldsColumns}

-- ---- its files and its lines

-- The line of tables of so many steps that are accepted. Own.
abbrev pub accepted_line : ℕ → List ℕ
accepted_line steps = codes "check: accepted, " ++ (decimal steps ++ codes " steps\n")

-- The line of tables that a constraint refuses at a row. Own.
abbrev pub refused_line : Constraint → ℕ → List ℕ
refused_line constraint row =
    codes "check: refused: " ++ (constraint_name constraint ++ (codes " row " ++ (decimal row ++ codes "\n")))

-- ---- its answer

-- What `check` answers of a verdict on tables of so many rows. Own.
abbrev pub checked : ℕ → Verdict → Answer
checked rows verdict_is.Accepted = says Done (accepted_line rows)
checked rows (verdict_is.Refused constraint row) = says Refused (refused_line constraint row)

-- All three files are read, in the order of their names, and then the tables have their verdict. Own.
unfoldable pub check_answer : Name → Name → Name → Files → Answer
check_answer program public tables files = answered (do
  p ← read_as program_format 1 program files
  u ← read_as public_format 2 public files
  t ← read_as tables_format 3 tables files
  Ok (checked (length t.rows) (verdict p u t)))

-- What `check` reads and answers. Own.
abbrev pub check_task : Name → Name → Name → Task
check_task program public tables = record {
  inputs = input_at program_format 1 program ∷ input_at public_format 2 public ∷ input_at tables_format 3 tables ∷ [];
  outputs = [];
  answer = check_answer program public tables;
}

-- ---- what its endings mean

-- The files have these three, each within its limit, and they spell a program, a public input and tables. Own.
pub record HoldsTables (program_name public_name tables_name : Name) (files : Files) : Type 0 where
  pub program : HoldsProgram program_name files
  pub public : HoldsPublic public_name files
  pub tables : HoldsColumns tables_name files

-- The files are within their limits and spell a program, a public input and tables, and the tables meet every written
-- constraint. Own.
pub record MeetsConstraints (program public tables : Name) (files : Files) : Type 0 where
  pub held : HoldsTables program public tables files
  pub meets : MeetsAll held.program.value held.public.value held.tables.value

-- The files are within their limits and spell a program, a public input and tables, and this constraint is the first
-- that fails, at this row. Own.
pub record BreaksConstraint (program public tables : Name) (files : Files) : Type 0 where
  pub held : HoldsTables program public tables files
  pub constraint : Constraint
  pub row : ℕ
  pub first : verdict held.program.value held.public.value held.tables.value ≡ verdict_is.Refused constraint row

-- What the endings of `check` mean. It ends with `Done` exactly where its files are within their limits and spell a
-- program, a public input and tables, and the tables meet every written constraint. Then they describe a run of the
-- program with this public input, and the line tells how many steps it has. It ends with `Refused` exactly where the
-- files are within their limits and spell all three, and some constraint fails. The line then tells the first one, and
-- its row. The last two arguments are the bytes that were written before and now. The whitepaper's statement of what a
-- proof of a run shows.
pub record CheckMeans (program public tables : Name) (files : Files) (status : Status) (before now : Option (List ℕ)) : Type 0 where
  pub accepted : (status ≡ Done) ↔ MeetsConstraints program public tables files
  pub describes : (check : MeetsConstraints program public tables files) → DescribeRun check.held.program.value check.held.public.value check.held.tables.value
  pub accepted_line : (check : MeetsConstraints program public tables files) → Appends before now (accepted_line (length check.held.tables.value.rows))
  pub refused : (status ≡ Refused) ↔ BreaksConstraint program public tables files
  pub refused_line : (check : BreaksConstraint program public tables files) → Appends before now (refused_line check.constraint check.row)
