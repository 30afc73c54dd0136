use Rattle.std.proofs.Common.{rules}
use Rattle.casm_word.proofs.Flags.res.Goals as goal

pub returns-then-self-2 : goal.returns-then-self-2
returns-then-self-2 c = search rules
