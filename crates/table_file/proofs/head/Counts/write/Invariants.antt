use Rattle.std.proofs.Common.{◌≡◌, ◌++◌, take}
use Rattle.file_records.specs.Numbers.{numbers_bytes}
use Rattle.table_file.specs.Parts.{counts_of}
use Rattle.table_file.proofs.head.Counts.write.Given as goal

abbrev pub invariant-loop-count : goal.invariant-loop-count
invariant-loop-count l = record {
  counts : l.count-items ≡ counts_of l.self;
  bytes : l.out.items ≡ l.initial.out.items ++ numbers_bytes (take l.count-index l.count-items);
}
