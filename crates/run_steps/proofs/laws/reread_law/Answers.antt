use Rattle.run_steps.proofs.Reread.{reread}
use Rattle.run_steps.proofs.laws.reread_law.Goals as goal

pub returns : goal.returns
returns c = reread
