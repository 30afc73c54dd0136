use Rattle.std.proofs.Common.{ap}
use Rattle.vm_runner.specs.Run.{as_step}
use Rattle.vm_runner.proofs.stepping.make_step.Goals as goal

pub returns-in-Err-Refused-clause-refused : goal.returns-in-Err-Refused-clause-refused
unfolding as_step
returns-in-Err-Refused-clause-refused c = λ rules _. ap (as_step c.args.index) (c.in-Err-Refused.ensures.refused rules c.in-Err-Refused.cause (cc))
