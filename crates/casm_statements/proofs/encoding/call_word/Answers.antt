use Rattle.std.proofs.Common.{rules}
use Rattle.casm_statements.proofs.encoding.call_word.Goals as goal

pub returns : goal.returns
returns c = search rules
