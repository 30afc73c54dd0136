-- Rows that meet the equations are steps, one after another, and so a run.
use Rattle.std.proofs.Common.{◌≡◌, ℕ, ◌+◌, ◌<◌, ◌∙◌, inl, inr, List, [], length, get_or, map, refl, sym, ap, arith, lit<}
use Rattle.std.specs.Prelude.{All}
use Rattle.std.proofs.lemmas.Bool.{cases_eq}
use Rattle.std.proofs.lemmas.List.{length-map, get_or_default}
use Rattle.std.proofs.Math.ListN.{get_or-map}
use Rattle.goldilocks.specs.declared.Felt.{Felt}
use Rattle.casm_word.specs.declared.State.{State}
use Rattle.casm_word.specs.Transition.{Registers, registers}
use Rattle.cpu_rows.specs.declared.Row.{Row}
use Rattle.cpu_rows.specs.Columns.{Columns, columns, state_of}
use Rattle.cpu_rows.specs.Equations.{Meets}
use Rattle.cpu_rows.specs.Table.{states_of, with_next}
use Rattle.cpu_rows.proofs.Faults.{step_where_met}
use Rattle.cpu_rows.proofs.FaultsOfRows.{IsStepAt, step-of_row, meet_at, run_in, get_or-states_of, get_or-last}
use Rattle.table_file.specs.Tables.{Contents}
use Rattle.constraint_checker.specs.Constraints.{rows_with_next}
use Rattle.constraint_checker.specs.Parts.{RunsAnywhere}

zero_felt : Felt
zero_felt = record { number = 0; in_field = lit< tt }

-- any row
zero_row : Row
zero_row = record {
  pc = zero_felt;
  ap = zero_felt;
  fp = zero_felt;
  inst = zero_felt;
  tilde = [];
  off_dst = zero_felt;
  off_op0 = zero_felt;
  off_op1 = zero_felt;
  dst_addr = zero_felt;
  op0_addr = zero_felt;
  op1_addr = zero_felt;
  dst = zero_felt;
  op0 = zero_felt;
  op1 = zero_felt;
  mul = zero_felt;
  res = zero_felt;
  t0 = zero_felt;
  t1 = zero_felt;
}

-- the state that a row begins in
state_in : Row → State
state_in r = record { pc = r.pc; ap = r.ap; fp = r.fp }

registers-state_in : (r : Row) → registers (state_in r) ≡ state_of (columns r)
unfolding registers state_in state_of columns
registers-state_in r = refl

module _ (rows : List Row) (last : State) (sixteen : All (λ r. length r.tilde ≡ 16) rows) (meets : All (λ row. Meets row.0 row.1) (with_next (map columns rows) (registers last))) where
  abbrev all : List Columns
  all = map columns rows

  abbrev end : Registers
  end = registers last

  -- the state behind a row is one of the code's
  state_behind : (k : ℕ) → k < length rows → (s : State) × (registers s ≡ get_or (states_of all end) (k + 1) end)
  state_behind k lt =
      elim (cases_eq (k + 1) (length rows)) [
        | inl at ↦
            let long : k + 1 ≡ length all = omega (arith, length-map rows columns) in
            (last, sym (ap (λ i. get_or (states_of all end) i end) long ∙ get_or-last all end end))
        | inr ne ↦
            let inside : k + 1 < length all = omega (arith, length-map rows columns) in
            let next : Row = get_or rows (k + 1) zero_row in
            let here : get_or (states_of all end) (k + 1) end ≡ state_of (columns next) =
            get_or-states_of all end (k + 1) (columns zero_row) end inside ∙ ap state_of (get_or-map columns rows (k + 1) zero_row) in
            (state_in next, registers-state_in next ∙ sym here)
      ]

  step_at : (k : ℕ) → k < length rows → IsStepAt all end k
  step_at k lt =
      let row : Row = get_or rows k zero_row in
      let behind = state_behind k lt in
      let met : Meets (get_or all k (columns zero_row)) (get_or (states_of all end) (k + 1) end) = meet_at all end (columns zero_row) end k (omega (arith, length-map rows columns)) meets in
      let met_here : Meets (columns row) (registers behind.0) = rw (get_or-map columns rows k zero_row, ← behind.1) at met in
      step-of_row rows end k row (registers behind.0) lt (get_or_default rows k zero_row row lt) behind.1
      (λ small. step_where_met row behind.0 (sixteen k zero_row lt) small met_here)

pub runs_where_met : (tables : Contents) → All (λ r. length r.tilde ≡ 16) tables.rows → All (λ row. Meets row.0 row.1) (rows_with_next tables) → RunsAnywhere tables
runs_where_met tables sixteen meets some small m cells =
    run_in tables.rows (registers tables.last) some (step_at tables.rows tables.last sixteen meets) small m cells
