use Rattle.std.proofs.Common.{◌≡◌, max, fold, take}
use Rattle.goldilocks.specs.Felts.{numbers}
use Rattle.table_builder.proofs.columns.greatest_of.Given as goal

abbrev pub invariant-loop-value : goal.invariant-loop-value
invariant-loop-value l = l.greatest ≡ fold max l.initial.greatest (numbers (take l.value-index l.values))
