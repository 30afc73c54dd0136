use Rattle.std.proofs.Common.{◌≡◌, Some, length, true, ap, sym, ◌∙◌, rules, arith}
use Rattle.std.specs.Option.{option_map}
use Rattle.std.proofs.lemmas.List.{length_push}
use Rattle.goldilocks.proofs.Windows.{numbered_turn, numbered_end}
use Rattle.sorted_lists.proofs.Neighbours.{first_between-none, nothing_so_far, something_here}
use Rattle.range_columns.specs.Equations.{q2_fault, step_fault, fault_at}
use Rattle.range_columns.proofs.InRange.{step-fails, step-holds}
use Rattle.range_columns.proofs.checking.step_fault.Goals as goal

pub returns-then-not-climbs : goal.returns-then-not-climbs
unfolding q2_fault
returns-then-not-climbs c =
    let turn = numbered_turn c.args.sorted.now c.into_iter-row-iterator.result (search rules) (search rules) (search rules) c.loop-row.yielded _ c.loop-row.yielded_by _ _ (c.in-Some.row, c.in-Some.pair) c.in-Some.is c.next.ensures.steps in
    ap (λ row. Some (fault_at 2 row)) turn.0
    ∙ ap (option_map (λ p. fault_at p.1 p.0)) (sym (something_here step_fault c.args.sorted.now (length c.loop-row.yielded) c.loop-row.invariant
    c.index-pair-0.result c.index-pair-1.result turn.1.within (c.index-pair-0.is ∙ turn.1.first _) (c.index-pair-1.is ∙ turn.1.second _) 2
    (step-fails c.index-pair-0.result c.index-pair-1.result (λ e. let holds : c.climbs.result ≡ true = c.climbs.ensures.1 e in cc))))

pub loop-row-preserved : goal.loop-row-preserved
loop-row-preserved c =
    let turn = numbered_turn c.args.sorted.now c.into_iter-row-iterator.result (search rules) (search rules) (search rules) c.loop-row.yielded _ c.loop-row.yielded_by _ _ (c.in-Some.row, c.in-Some.pair) c.in-Some.is c.next.ensures.steps in
    rw (length_push c.loop-row.yielded (c.in-Some.row, c.in-Some.pair))
    (nothing_so_far step_fault c.args.sorted.now (length c.loop-row.yielded) c.loop-row.invariant
    c.index-pair-0.result c.index-pair-1.result turn.1.within (c.index-pair-0.is ∙ turn.1.first _) (c.index-pair-1.is ∙ turn.1.second _)
    (step-holds c.index-pair-0.result c.index-pair-1.result (c.climbs.ensures.0 c.if-not-climbs.false)))

pub returns : goal.returns
unfolding q2_fault
returns c =
    let past = numbered_end c.args.sorted.now c.into_iter-row-iterator.result (search rules) (search rules) (search rules) c.loop-row.yielded _ c.loop-row.yielded_by _ _ c.in-None.is c.next.ensures.steps in
    ap (option_map (λ p. fault_at p.1 p.0)) (sym (first_between-none step_fault c.args.sorted.now (λ k d lt. c.loop-row.invariant k d (omega arith))))
