use Rattle.std.proofs.Common.{arith}
use Rattle.std.proofs.lemmas.Grind.{common_steps}
use Rattle.command_frame.proofs.outputs.+write_outputs.Goals as goal

pub returns-in-Ok : goal.returns-in-Ok
returns-in-Ok g t c = grind (arith, common_steps)
