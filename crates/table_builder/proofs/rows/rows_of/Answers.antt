use Rattle.std.proofs.Common.{◌≡◌, ◌∙◌, length, map, Some, refl, subst, rules}
use Rattle.std.specs.Prelude.{IsSome}
use Rattle.std.proofs.lemmas.List.{length_push}
use Rattle.goldilocks.proofs.Windows.{windows_turn, windows_end}
use Rattle.casm_word.specs.Transition.{registers, outcome}
use Rattle.casm_word.proofs.RefusedSteps.{refused_here, refused_later, first_refused-end}
use Rattle.table_builder.proofs.RowLoop.{step_goes, step_stays, one_more_row, all_rows, step_refused, no_step_refused}
use Rattle.table_builder.proofs.rows.rows_of.Goals as goal

pub loop-pair-init : goal.loop-pair-init
loop-pair-init g c = record { legal = refl; rows = c.in_ok-rows.ensures.items }

pub refused_step-requires-clause-some : goal.refused_step-requires-clause-some
refused_step-requires-clause-some g c =
    let m = g.M.Reads.cells c.args.m.now in
    let states = c.args.states.now in
    let i = length c.loop-pair.yielded in
    let before = c.index-pair-0.result in
    let at = c.index-pair-1.result in
    let turn = windows_turn states c.into_iter-pair-iterator.result (search rules) (search rules) c.loop-pair.yielded _ c.loop-pair.yielded_by _ _ c.in-Some.pair c.in-Some.is c.next.ensures.steps in
    let refused : Some (i, outcome m (registers before)) ≡ _ =
    refused_here m states i before at (outcome m (registers before)) turn.within (c.index-pair-0.is ∙ turn.first _) (c.index-pair-1.is ∙ turn.second _) refl c.loop-pair.invariant.legal
    (step_stays m (registers before) (registers at) c.in-None-build_row.ensures.some.1) in
    subst (λ o. IsSome o) refused refl

pub returns-in-None-build_row : goal.returns-in-None-build_row
returns-in-None-build_row g c =
    let m = g.M.Reads.cells c.args.m.now in
    let states = c.args.states.now in
    let i = length c.loop-pair.yielded in
    let before = c.index-pair-0.result in
    let at = c.index-pair-1.result in
    let turn = windows_turn states c.into_iter-pair-iterator.result (search rules) (search rules) c.loop-pair.yielded _ c.loop-pair.yielded_by _ _ c.in-Some.pair c.in-Some.is c.next.ensures.steps in
    let refused : Some (i, outcome m (registers before)) ≡ _ =
    refused_here m states i before at (outcome m (registers before)) turn.within (c.index-pair-0.is ∙ turn.first _) (c.index-pair-1.is ∙ turn.second _) refl c.loop-pair.invariant.legal
    (step_stays m (registers before) (registers at) c.in-None-build_row.ensures.some.1) in
    let found = step_refused m (map registers states) i (registers before) refused in
    rw (c.refused_step.ensures ∙ found) found

pub loop-pair-preserved : goal.loop-pair-preserved
loop-pair-preserved g c =
    let m = g.M.Reads.cells c.args.m.now in
    let states = c.args.states.now in
    let i = length c.loop-pair.yielded in
    let before = c.index-pair-0.result in
    let at = c.index-pair-1.result in
    let turn = windows_turn states c.into_iter-pair-iterator.result (search rules) (search rules) c.loop-pair.yielded _ c.loop-pair.yielded_by _ _ c.in-Some.pair c.in-Some.is c.next.ensures.steps in
    let count = length_push c.loop-pair.yielded c.in-Some.pair in
    record {
      legal =
          rw count
          (refused_later m states i before at (outcome m (registers before)) turn.within (c.index-pair-0.is ∙ turn.first _) (c.index-pair-1.is ∙ turn.second _) refl c.loop-pair.invariant.legal
          (step_goes m (registers before) (registers at) (c.in-Some-build_row.ensures.some.0 refl)));
      rows =
          rw count
          (one_more_row m states i before c.in-Some-build_row.row c.loop-pair.rows.items c.push.new.self.items turn.within (c.index-pair-0.is ∙ turn.first _)
          c.in-Some-build_row.ensures.row c.loop-pair.invariant.rows c.in_ok-push-in-Some-build_row.ensures.items);
    }

pub returns : goal.returns
returns g c =
    let m = g.M.Reads.cells c.args.m.now in
    let states = c.args.states.now in
    let i = length c.loop-pair.yielded in
    let past = windows_end states c.into_iter-pair-iterator.result (search rules) (search rules) c.loop-pair.yielded _ c.loop-pair.yielded_by _ _ c.in-None.is c.next.ensures.steps in (
      no_step_refused m (map registers states) (first_refused-end m states i past c.loop-pair.invariant.legal),
      all_rows m states i c.loop-pair.rows.items past c.loop-pair.invariant.rows,
    )
