use Rattle.std.proofs.Common.{◌≡◌, take}
use Rattle.std.specs.List.{AllByRecursion}
use Rattle.casm_text.specs.Meaning.{bodies}
use Rattle.assembler.specs.Views.{KeepsOffsets}
use Rattle.assembler.specs.Assembly.{words_from}
use Rattle.assembler.proofs.Unknowns.{FoundIn}
use Rattle.assembler.proofs.words.words_of.Given as goal

abbrev pub invariant-loop-item : goal.invariant-loop-item
invariant-loop-item l = record {
  written : l.words.items ≡ words_from l.labels.entries 0 (bodies (take l.item-index l.items));
  offsets : AllByRecursion KeepsOffsets (bodies (take l.item-index l.items));
  known : FoundIn l.labels.entries l.items l.item-index;
}
