use Rattle.std.proofs.Common.{length}
use Rattle.command_words.proofs.names.+stand_apart.Given as goal

abbrev pub decreases-stand_apart : goal.decreases-stand_apart
decreases-stand_apart l = length l.later_parts.now
