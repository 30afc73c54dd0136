-- Built tables are valid, and they meet every constraint.
use Rattle.std.proofs.Common.{◌≡◌, ℕ, ◌<◌, ◌≤◌, List, length, Some, Ok, sym, subst}
use Rattle.std.specs.Prelude.{All}
use Rattle.goldilocks.specs.Field.{prime}
use Rattle.casm_word.specs.Transition.{Memory, Registers}
use Rattle.program_file.specs.Listing.{Listing, IsProgram}
use Rattle.public_input.specs.Statement.{Statement}
use Rattle.public_input.specs.Valid.{KeepsLimits}
use Rattle.trace_files.specs.TraceFile.{IsState}
use Rattle.table_file.specs.Tables.{Contents, AreValid}
use Rattle.constraint_checker.specs.Constraints.{MeetsAll}
use Rattle.table_builder.specs.Columns.{tables_of}
use Rattle.table_builder.specs.Findings.{first_found, findings}
use Rattle.table_builder.specs.Building.{building}
use Rattle.table_builder.proofs.Findings.{building-ok}
use Rattle.table_builder.proofs.NothingFound.{Answered, answered}
use Rattle.table_builder.proofs.Made.{made_valid, made_sixteen, made_meets}

module _ (program : Listing) (public : Statement) (m : Memory) (states : List Registers)
    (values : (a v : ℕ) → m a ≡ Some v → v < prime)
    (registers_small : All IsState states)
    (is_program : IsProgram program) (limits : KeepsLimits public) (some : 2 ≤ length states)
    (tables : Contents) (built : building program public m states ≡ Ok tables) where
  answers : Answered program public m states
  unfolding building
  answers = answered program public m states (building-ok (first_found (findings program public m states)) (tables_of program public m states) tables built).0

  made : tables ≡ tables_of program public m states
  unfolding building
  made = (building-ok (first_found (findings program public m states)) (tables_of program public m states) tables built).1

  pub built_valid : AreValid tables
  built_valid = subst AreValid (sym made) (made_valid program public m states values registers_small some answers is_program limits)

  pub built_sixteen : All (λ r. length r.tilde ≡ 16) tables.rows
  built_sixteen = subst (λ (t : Contents). All (λ r. length r.tilde ≡ 16) t.rows) (sym made) (made_sixteen program public m states values registers_small some answers)

  pub built_meets : MeetsAll program public tables
  built_meets = subst (MeetsAll program public) (sym made) (made_meets program public m states values registers_small some answers limits)
