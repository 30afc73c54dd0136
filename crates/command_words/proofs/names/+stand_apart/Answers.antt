use Rattle.std.proofs.Common.{arith}
use Rattle.std.proofs.lemmas.Grind.{common_steps}
use Rattle.command_words.proofs.names.+stand_apart.Goals as goal

pub returns-then-not-is_output : goal.returns-then-not-is_output
returns-then-not-is_output t c = grind (arith, common_steps)
