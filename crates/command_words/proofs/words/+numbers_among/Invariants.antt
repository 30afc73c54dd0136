use Rattle.std.proofs.Common.{length}
use Rattle.command_words.proofs.words.+numbers_among.Given as goal

abbrev pub decreases-numbers_among : goal.decreases-numbers_among
decreases-numbers_among l = length l.parts.now
