use Rattle.segments.proofs.Values.{num_is_number}
use Rattle.run_steps.proofs.transition.small_number.Goals as goal

pub returns : goal.returns
returns c = num_is_number _ c.args.n c.from.ensures
