use Rattle.std.proofs.Common.{rules}
use Rattle.casm_word.specs.Transition.{registers}
use Rattle.casm_word.proofs.Word.op1_address.Goals as goal

pub returns : goal.returns
unfolding registers
returns c = search rules
