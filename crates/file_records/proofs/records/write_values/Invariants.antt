use Rattle.std.proofs.Common.{◌≡◌, ◌++◌, take}
use Rattle.goldilocks.specs.Felts.{numbers}
use Rattle.file_records.specs.Numbers.{numbers_bytes}
use Rattle.file_records.proofs.records.write_values.Given as goal

abbrev pub invariant-loop-value : goal.invariant-loop-value
invariant-loop-value l = l.out.items ≡ l.initial.out.items ++ numbers_bytes (numbers (take l.value-index l.values))
