use Rattle.std.proofs.Common.{ap, Err}
use Rattle.run_steps.proofs.Passing.{same-fault, step-not_greater}
use Rattle.run_steps.proofs.stepper.step.Goals as goal

pub returns-in_err-find_out-clause-refused : goal.returns-in_err-find_out-clause-refused
returns-in_err-find_out-clause-refused c = λ rules cause e.
    let fault = same-fault c.from_residual.result c.in_err-find_out.field-0.0 _ c.from_residual.ensures.1 e in
    step-not_greater rules c.args.memory.now c.args.state cause (c.in_err-find_out.ensures.refused rules cause (ap (λ f. Err f) fault))
