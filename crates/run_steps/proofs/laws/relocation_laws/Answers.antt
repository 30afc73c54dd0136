use Rattle.run_steps.proofs.Relocated.{step_at, run_at}
use Rattle.run_steps.proofs.laws.relocation_laws.Goals as goal

pub returns : goal.returns
returns c = record {
  step = step_at;
  run = run_at;
}
