use Rattle.std.proofs.Common.{◌≡◌, ℕ, ◌<◌, map, Some, None}
use Rattle.std.specs.Prelude.{slice_get}
use Rattle.casm_word.specs.Transition.{registers}
use Rattle.cpu_rows.specs.Columns.{columns}
use Rattle.cpu_rows.specs.Table.{faults}
use Rattle.cpu_rows.proofs.FaultsOfRows.{IsStepAt}
use Rattle.cpu_rows.proofs.table.first_fault.Given as goal

abbrev pub invariant-loop-place : goal.invariant-loop-place
invariant-loop-place l = record {
  no_fault : (k : ℕ) → k < l.place → slice_get (faults (map columns l.rows) (registers l.last)) k ≡ Some None;
  steps : (k : ℕ) → k < l.place → IsStepAt (map columns l.rows) (registers l.last) k;
}
