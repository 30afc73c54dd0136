use Rattle.std.proofs.Common.{arith}
use Rattle.trace_files.specs.TraceFile.{HasTraceLength}
use Rattle.trace_files.proofs.TraceFile.{SpellsTrace-from_numbers, numbers_end}
use Rattle.trace_files.proofs.trace_file.check.Goals as goal

pub returns-clause-spells : goal.returns-clause-spells
returns-clause-spells c =
    let size : HasTraceLength c.args.bytes.now = record { least = omega arith; most = omega arith; whole = omega arith } in
    SpellsTrace-from_numbers c.args.bytes.now size (numbers_end c.args.bytes.now c.loop-k.k size (omega arith) c.loop-k.invariant)
