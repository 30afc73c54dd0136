use Rattle.std.proofs.Common.{arith}
use Rattle.trace_files.proofs.MemoryFile.{entries_end}
use Rattle.trace_files.proofs.memory_file.check.Goals as goal

pub returns-clause-spells : goal.returns-clause-spells
returns-clause-spells c =
    entries_end c.args.bytes.now c.loop-i.i (record { most = omega arith; whole = omega arith }) (omega arith) c.loop-i.invariant.numbers c.loop-i.invariant.ascends
