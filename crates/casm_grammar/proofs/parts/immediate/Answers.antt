use Rattle.std.proofs.Common.{rules}
use Rattle.casm_grammar.specs.Readers.{imm_in}
use Rattle.casm_grammar.proofs.parts.immediate.Goals as goal

pub returns-in_ok-value : goal.returns-in_ok-value
unfolding imm_in
returns-in_ok-value c = search rules
