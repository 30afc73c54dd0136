use Rattle.std.proofs.Common.{rules}
use Rattle.command_words.specs.Forms.{forms}
use Rattle.command_words.proofs.table.forms.Goals as goal

pub returns : goal.returns
unfolding forms
returns c = search rules
