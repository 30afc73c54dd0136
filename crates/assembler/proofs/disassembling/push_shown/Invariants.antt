use Rattle.std.proofs.Common.{◌+◌, ◌^◌, ◌<◌, length}
use Rattle.assembler.proofs.ShownLemmas.{ShowsSoFar}
use Rattle.assembler.proofs.disassembling.push_shown.Given as goal

abbrev pub invariant-words : goal.invariant-words
invariant-words l = record {
  room : length l.items.items + length l.left < 2 ^ 31;
  shows : ShowsSoFar l.initial.items.items l.words l.left l.items.items;
}

abbrev pub decreases-words : goal.decreases-words
decreases-words l = length l.left
