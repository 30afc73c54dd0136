use Rattle.std.proofs.Common.{◌≡◌, Ok, Err, sym, ap, ◌∙◌}
use Rattle.run_steps.specs.declared.cause.StepCause.{StepCause}
use Rattle.run_steps.specs.declared.cause.StepFault.TheVariants.{Refused}
use Rattle.run_steps.specs.Step.{all_placed, greater}
use Rattle.run_steps.proofs.Passing.{same-fault, greater-placed, greater-refused, on_ok}
use Rattle.run_steps.proofs.TableCases.{found-cases}
use Rattle.run_steps.proofs.stepper.find_out.Goals as goal

pub returns-in_err-found-clause-refused : goal.returns-in_err-found-clause-refused
returns-in_err-found-clause-refused c = λ rules cause e.
    let fault = same-fault c.from_residual.result (Refused c.in_err-found.field-0.0) (Refused cause) c.from_residual.ensures.1 e in
    let same : c.in_err-found.field-0.0 ≡ cause = cc in
    greater-refused rules c.args.memory.now c.args.state cause
    (found-cases c.args.memory.now c.args.state ∙ (sym c.in_err-found.ensures ∙ ap (λ (x : StepCause). Err x) same))

pub returns-clause-found : goal.returns-clause-found
returns-clause-found c = λ rules.
    let m = c.args.memory.now in
    let found = c.in_ok-found.found in
    let after = c.place_all.new.memory in
    on_ok c.place_all.result (all_placed rules m found ≡ Ok after) (greater rules m c.args.state ≡ Ok after)
    (greater-placed rules m c.args.state found (Ok after) (found-cases m c.args.state ∙ sym c.in_ok-found.ensures)) (c.place_all.ensures.placed rules)

pub returns-clause-refused : goal.returns-clause-refused
returns-clause-refused c = λ rules cause e.
    greater-placed rules c.args.memory.now c.args.state c.in_ok-found.found _
    (found-cases c.args.memory.now c.args.state ∙ sym c.in_ok-found.ensures) (c.place_all.ensures.refused rules cause e)
