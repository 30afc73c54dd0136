use Rattle.std.proofs.Common.{◌≡◌, length}
use Rattle.table_file.specs.Parts.{HasCounts}
use Rattle.table_file.proofs.Heads.{AreCounts}
use Rattle.table_file.proofs.head.read_counts.Given as goal

abbrev pub invariant-loop-k : goal.invariant-loop-k
invariant-loop-k l = record {
  five : length l.counts ≡ 5;
  has : HasCounts l.bytes l.k;
  same : AreCounts l.bytes l.k l.counts;
}
