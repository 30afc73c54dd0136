use Rattle.std.proofs.Common.{arith}
use Rattle.std.proofs.lemmas.Grind.{common_steps}
use Rattle.casm_grammar.specs.Readers.{nothing_in}
use Rattle.casm_grammar.proofs.marks.nothing.Goals as goal

pub returns-in-None : goal.returns-in-None
unfolding nothing_in
returns-in-None c = grind (arith, common_steps)
