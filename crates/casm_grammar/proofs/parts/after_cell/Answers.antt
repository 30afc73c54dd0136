use Rattle.std.proofs.Common.{rules}
use Rattle.casm_grammar.specs.Readers.{after_cell}
use Rattle.casm_grammar.proofs.parts.after_cell.Goals as goal

pub returns-in_ok-term : goal.returns-in_ok-term
unfolding after_cell
returns-in_ok-term c = search rules
