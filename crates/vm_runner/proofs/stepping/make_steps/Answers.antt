use Rattle.std.proofs.Common.{◌+◌, ◌-◌, Ok, sym, ap, ◌∙◌, arith}
use Rattle.program_file.specs.Listing.{listing}
use Rattle.public_input.specs.Limits.{step_limit}
use Rattle.builtin_segments.specs.Layout.{no_stops}
use Rattle.builtin_segments.specs.Start.{first_state}
use Rattle.vm_runner.specs.Run.{after, run_from}
use Rattle.vm_runner.proofs.HandedOn.{handed_on}
use Rattle.vm_runner.proofs.StepsLeft.{after-none, left-step, left-refused, left-end, left-over}
use Rattle.vm_runner.proofs.stepping.make_steps.Goals as goal

pub loop-index-init : goal.loop-index-init
loop-index-init c =
    let p = listing c.args.program.now in
    record {
      left = λ rules.
          ap (λ states. after states (run_from rules p step_limit 0 c.args.memory.now c.first_state-state.result)) c.new-states.ensures.items
          ∙ (after-none (run_from rules p step_limit 0 c.args.memory.now c.first_state-state.result)
          ∙ ap (λ s. run_from rules p step_limit 0 c.args.memory.now s) c.first_state-state.ensures);
      kept = c.requires;
    }

pub returns-then-is_end-clause-made : goal.returns-then-is_end-clause-made
returns-then-is_end-clause-made c = λ rules.
    let l = c.loop-index in
    sym (l.invariant.left rules)
    ∙ (left-end rules (listing c.args.program.now) step_limit l.index l.memory l.state l.states.items (sym c.is_end.ensures ∙ c.if-is_end.true)
    ∙ ap (λ states. Ok (record { memory = l.memory; states = states; stops = no_stops })) (sym c.in_ok-push_state.ensures))

pub returns-in_err-state-clause-refused : goal.returns-in_err-state-clause-refused
returns-in_err-state-clause-refused c = λ rules.
    let l = c.loop-index in
    let p = listing c.args.program.now in
    let fault = c.in_err-state.field-0.0 in
    handed_on (run_from rules p step_limit 0 c.args.memory.now (first_state p)) c.from_residual-in_err-state.result fault c.from_residual-in_err-state.ensures.1
    (λ told. sym (l.invariant.left rules)
    ∙ left-refused rules p step_limit l.index l.memory l.state l.states.items fault (omega arith) (sym c.is_end.ensures ∙ c.if-is_end.false) (c.in_err-state.ensures.refused rules told))

pub loop-index-preserved : goal.loop-index-preserved
loop-index-preserved c =
    let l = c.loop-index in
    let p = listing c.args.program.now in
    let i = l.index in
    let n = c.make_step.new.memory in
    let t = c.in_ok-state.state in
    record {
      left = λ rules.
          ap (λ states. after states (run_from rules p (step_limit - (i + 1)) (i + 1) n t)) c.in_ok-push_state.ensures
          ∙ (sym (left-step rules p step_limit i l.memory l.state l.states.items n t (omega arith) (sym c.is_end.ensures ∙ c.if-is_end.false) (c.in_ok-state.ensures.made rules))
          ∙ l.invariant.left rules);
      kept = c.in_ok-state.ensures.kept;
    }

pub returns-clause-made : goal.returns-clause-made
returns-clause-made c = λ rules.
    let l = c.loop-index in
    sym (l.invariant.left rules)
    ∙ (left-end rules (listing c.args.program.now) step_limit l.index l.memory l.state l.states.items (sym c.is_end-2.ensures ∙ c.if-not-is_end.false)
    ∙ ap (λ states. Ok (record { memory = l.memory; states = states; stops = no_stops })) (sym c.in_ok-push_state-2.ensures))

pub returns-then-not-is_end-clause-refused : goal.returns-then-not-is_end-clause-refused
returns-then-not-is_end-clause-refused c = λ rules _.
    let l = c.loop-index in
    sym (l.invariant.left rules)
    ∙ left-over rules (listing c.args.program.now) step_limit l.index l.memory l.state l.states.items (omega arith) (sym c.is_end-2.ensures ∙ c.if-not-is_end.true)
