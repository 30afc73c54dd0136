use Rattle.std.proofs.Common.{◌*◌}
use Rattle.file_records.specs.Numbers.{AreNumbersBefore}
use Rattle.trace_files.proofs.trace_file.check.Given as goal

abbrev pub invariant-loop-k : goal.invariant-loop-k
invariant-loop-k l = AreNumbersBefore l.bytes (8 * l.k)
