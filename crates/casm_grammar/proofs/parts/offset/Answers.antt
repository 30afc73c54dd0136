use Rattle.std.proofs.Common.{arith, rules}
use Rattle.casm_grammar.specs.Readers.{offset_in}
use Rattle.casm_grammar.proofs.parts.offset.Goals as goal

pub overflow_cast-result : goal.overflow_cast-result
unfolding offset_in
overflow_cast-result c = omega (arith, c.in_ok-size.ensures.within)

pub returns-in_err-size : goal.returns-in_err-size
unfolding offset_in
returns-in_err-size c = search rules

pub returns-in_ok-size : goal.returns-in_ok-size
unfolding offset_in
returns-in_ok-size c = search rules
