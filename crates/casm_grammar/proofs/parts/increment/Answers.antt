use Rattle.std.proofs.Common.{rules}
use Rattle.casm_grammar.specs.Readers.{increment_in}
use Rattle.casm_grammar.proofs.parts.increment.Goals as goal

pub returns : goal.returns
unfolding increment_in
returns c = search rules
