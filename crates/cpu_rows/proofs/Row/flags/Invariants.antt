use Rattle.std.proofs.Common.{◌≡◌, ℕ, ◌<◌, length, get_or, false}
use Rattle.cpu_rows.specs.Columns.{columns}
use Rattle.cpu_rows.specs.Equations.{flag}
use Rattle.cpu_rows.specs.Steps.{zero_or_one}
use Rattle.cpu_rows.proofs.Row.flags.Given as goal

abbrev pub invariant-loop-place : goal.invariant-loop-place
invariant-loop-place l = (length l.set ≡ 15) × ((k : ℕ) → k < l.place → flag (columns l.self) k ≡ zero_or_one (get_or l.set k false))
