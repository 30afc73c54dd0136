-- The verdict on tables.
use Rattle.std.specs.Prelude.{ℕ, ◌≡◌, false, not, IsTrue, List, take, All, find, Option, Some, None, slice_get}
use Rattle.program_file.specs.Listing.{Listing}
use Rattle.public_input.specs.Statement.{Statement}
use Rattle.table_file.specs.Tables.{Contents}
use Rattle.constraint_checker.specs.declared.Constraint.{Constraint}
use Rattle.constraint_checker.specs.declared.Verdict.{Verdict}
use Rattle.constraint_checker.specs.declared.Verdict.TheVariants.{Accepted, Refused}
use Rattle.constraint_checker.specs.Constraints.{Condition, condition, conditions}

-- The first condition that fails, where one does. Own.
abbrev pub first_failing : List Condition → Option Condition
first_failing asked = find (λ c. not c.holds) asked

-- Refused by the condition that fails, at its row, or accepted where none does. Own.
abbrev pub refused_by : Option Condition → Verdict
refused_by None = Accepted
refused_by (Some failing) = Refused failing.constraint failing.row

-- The verdict on conditions one after another: refused by the first that fails, or accepted where none does. Own.
abbrev pub verdict_on : List Condition → Verdict
verdict_on asked = refused_by (first_failing asked)

-- The verdict on tables: the first written constraint that fails, with its row, or accepted where none fails. Own.
unfoldable pub verdict : Listing → Statement → Contents → Verdict
verdict program public tables = verdict_on (conditions program public tables)

-- The constraint fails at the row, and all conditions before it hold. Own.
pub record FailsFirst (asked : List Condition) (constraint : Constraint) (row : ℕ) : Type 0 where
  pub place : ℕ
  pub fails : slice_get asked place ≡ Some (condition constraint row false)
  pub before : All (λ c. IsTrue c.holds) (take place asked)

-- The verdict is this one on these conditions: accepted where all hold, or refused by the first that fails. Own.
unfoldable pub IsVerdict : List Condition → Verdict → Type 0
IsVerdict asked Accepted = All (λ c. IsTrue c.holds) asked
IsVerdict asked (Refused constraint row) = FailsFirst asked constraint row
