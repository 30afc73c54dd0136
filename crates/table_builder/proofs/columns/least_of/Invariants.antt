use Rattle.std.proofs.Common.{◌≡◌, min, fold, take}
use Rattle.goldilocks.specs.Felts.{numbers}
use Rattle.table_builder.proofs.columns.least_of.Given as goal

abbrev pub invariant-loop-value : goal.invariant-loop-value
invariant-loop-value l = l.least ≡ fold min l.initial.least (numbers (take l.value-index l.values))
