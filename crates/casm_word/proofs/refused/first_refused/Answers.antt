use Rattle.std.proofs.Common.{Some, length, sym, ap, ◌∙◌, rules}
use Rattle.std.proofs.lemmas.List.{length_push}
use Rattle.goldilocks.proofs.Windows.{numbered_turn, numbered_end}
use Rattle.casm_word.specs.Transition.{outcome_of}
use Rattle.casm_word.proofs.RefusedSteps.{refused_here, refused_later, first_refused-end}
use Rattle.casm_word.proofs.refused.first_refused.Goals as goal

pub returns-then-not-is_next : goal.returns-then-not-is_next
returns-then-not-is_next g c =
    let turn = numbered_turn c.args.states.now c.into_iter-i-iterator.result (search rules) (search rules) (search rules) c.loop-i.yielded _ c.loop-i.yielded_by _ _ (c.in-Some.i, c.in-Some.pair) c.in-Some.is c.next.ensures.steps in
    ap (λ n. Some (n, outcome_of c.step-found.result)) turn.0
    ∙ refused_here (g.M.Reads.cells c.args.memory.now) c.args.states.now (length c.loop-i.yielded) c.index-pair-0.result c.index-pair-1.result (outcome_of c.step-found.result)
    turn.1.within (c.index-pair-0.is ∙ turn.1.first _) (c.index-pair-1.is ∙ turn.1.second _) c.step-found.ensures.outcome c.loop-i.invariant
    (sym c.is_next.ensures ∙ c.if-not-is_next.true)

pub loop-i-preserved : goal.loop-i-preserved
loop-i-preserved g c =
    let turn = numbered_turn c.args.states.now c.into_iter-i-iterator.result (search rules) (search rules) (search rules) c.loop-i.yielded _ c.loop-i.yielded_by _ _ (c.in-Some.i, c.in-Some.pair) c.in-Some.is c.next.ensures.steps in
    rw (length_push c.loop-i.yielded (c.in-Some.i, c.in-Some.pair))
    (refused_later (g.M.Reads.cells c.args.memory.now) c.args.states.now (length c.loop-i.yielded) c.index-pair-0.result c.index-pair-1.result (outcome_of c.step-found.result)
    turn.1.within (c.index-pair-0.is ∙ turn.1.first _) (c.index-pair-1.is ∙ turn.1.second _) c.step-found.ensures.outcome c.loop-i.invariant
    (sym c.is_next.ensures ∙ c.if-not-is_next.false))

pub returns : goal.returns
returns g c =
    let past = numbered_end c.args.states.now c.into_iter-i-iterator.result (search rules) (search rules) (search rules) c.loop-i.yielded _ c.loop-i.yielded_by _ _ c.in-None.is c.next.ensures.steps in
    sym (first_refused-end (g.M.Reads.cells c.args.memory.now) c.args.states.now (length c.loop-i.yielded) past c.loop-i.invariant)
