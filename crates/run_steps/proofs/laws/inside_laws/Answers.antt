use Rattle.run_steps.proofs.Inside.{next_in_segments, run_inside}
use Rattle.run_steps.proofs.laws.inside_laws.Goals as goal

pub returns : goal.returns
returns c = record { next = next_in_segments; run = run_inside }
