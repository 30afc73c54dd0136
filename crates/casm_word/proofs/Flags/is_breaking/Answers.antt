use Rattle.std.proofs.Common.{rules}
use Rattle.casm_word.specs.Word.{breaks}
use Rattle.casm_word.proofs.Flags.is_breaking.Goals as goal

pub returns-in-Res : goal.returns-in-Res
unfolding breaks
returns-in-Res c = search rules
