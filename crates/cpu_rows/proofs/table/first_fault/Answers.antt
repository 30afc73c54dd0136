use Rattle.std.proofs.Common.{◌≡◌, true, false, below_more, Some, None, refl, arith}
use Rattle.casm_word.specs.Transition.{registers}
use Rattle.cpu_rows.proofs.FaultsOfRows.{faults-of_row, step-of_row, all_meet_in, not_all_meet_in, run_in}
use Rattle.cpu_rows.proofs.table.first_fault.Goals as goal

pub returns-in-Some-clause-first : goal.returns-in-Some-clause-first
returns-in-Some-clause-first c = record {
  here =
      faults-of_row c.args.rows.now (registers c.args.last) c.loop-place.place c.index-rows-place.result (registers c.state_after.result) (Some c.in-Some.number)
      (omega arith) c.index-rows-place.is c.state_after.ensures c.in-Some.ensures.value;
  before = c.loop-place.invariant.no_fault;
}

pub returns-in-Some-clause-none : goal.returns-in-Some-clause-none
returns-in-Some-clause-none c = (
  (λ e. absurd (differ e)),
  (λ all.
      absurd
      (not_all_meet_in c.args.rows.now (registers c.args.last) c.loop-place.place c.in-Some.number (omega arith) (returns-in-Some-clause-first c).here all)),
)
  where
    differ : true ≡ false → ⊥
    differ e = cc

pub loop-place-preserved : goal.loop-place-preserved
loop-place-preserved c = record {
  no_fault =
      below_more _ _ c.loop-place.invariant.no_fault
      (faults-of_row c.args.rows.now (registers c.args.last) c.loop-place.place c.index-rows-place.result (registers c.state_after.result) None
      (omega arith) c.index-rows-place.is c.state_after.ensures c.in_default.ensures.value);
  steps =
      below_more _ _ c.loop-place.invariant.steps
      (step-of_row c.args.rows.now (registers c.args.last) c.loop-place.place c.index-rows-place.result (registers c.state_after.result)
      (omega arith) c.index-rows-place.is c.state_after.ensures (c.in_default.ensures.step refl));
}

pub returns-clause-none : goal.returns-clause-none
returns-clause-none c = ((λ _. all_meet_in c.args.rows.now (registers c.args.last) (λ i h. c.loop-place.invariant.no_fault i (omega arith))), (λ _. refl))

pub returns-clause-run : goal.returns-clause-run
returns-clause-run c =
    λ _ some small m cells.
    run_in c.args.rows.now (registers c.args.last) some (λ k h. c.loop-place.invariant.steps k (omega arith)) small m cells
