use Rattle.std.proofs.Common.{arith}
use Rattle.std.proofs.lemmas.Grind.{common_steps}
use Rattle.command_words.proofs.words.workers_named.Goals as goal

pub returns-in_err-workers-in-len2 : goal.returns-in_err-workers-in-len2
returns-in_err-workers-in-len2 c = grind (arith, common_steps)

pub returns-in_ok-workers-in-len2 : goal.returns-in_ok-workers-in-len2
returns-in_ok-workers-in-len2 c = grind (arith, common_steps)
