use Rattle.std.proofs.Common.{rules}
use Rattle.command_words.proofs.names.are_names.Goals as goal

pub returns-then-not-is_output : goal.returns-then-not-is_output
returns-then-not-is_output c = search rules
