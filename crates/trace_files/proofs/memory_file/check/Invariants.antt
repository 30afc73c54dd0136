use Rattle.std.proofs.Common.{◌*◌}
use Rattle.file_records.specs.Numbers.{AreNumbersBefore}
use Rattle.trace_files.specs.MemoryFile.{AscendsBefore}
use Rattle.trace_files.proofs.memory_file.check.Given as goal

abbrev pub invariant-loop-i : goal.invariant-loop-i
invariant-loop-i l = record {
  numbers : AreNumbersBefore l.bytes (16 * l.i);
  ascends : AscendsBefore l.bytes (16 * l.i);
}
