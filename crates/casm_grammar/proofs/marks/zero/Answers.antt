use Rattle.std.proofs.Common.{arith}
use Rattle.std.proofs.lemmas.Grind.{common_steps}
use Rattle.casm_grammar.specs.Readers.{zero_in}
use Rattle.casm_grammar.proofs.marks.zero.Goals as goal

pub returns-else-value-eq0 : goal.returns-else-value-eq0
unfolding zero_in
returns-else-value-eq0 c = grind (arith, common_steps)
