use Rattle.run_steps.proofs.Sums.{never-no_pointer}
use Rattle.run_steps.proofs.laws.sum_law.Goals as goal

pub returns : goal.returns
returns c = never-no_pointer
