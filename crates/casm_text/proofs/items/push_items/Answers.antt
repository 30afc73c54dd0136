use Rattle.std.proofs.Common.{arith}
use Rattle.std.proofs.lemmas.Grind.{common_steps}
use Rattle.casm_text.proofs.items.push_items.Goals as goal

pub returns-in_ok-push-2 : goal.returns-in_ok-push-2
returns-in_ok-push-2 c = grind (arith, common_steps)

pub returns-in_default-phrase : goal.returns-in_default-phrase
returns-in_default-phrase c = grind (arith, common_steps)
