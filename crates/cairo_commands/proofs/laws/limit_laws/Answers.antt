use Rattle.std.proofs.Common.{refl, arith}
use Rattle.trace_files.proofs.TraceFile.{length-spelled_trace}
use Rattle.trace_files.proofs.MemoryFile.{length-spelled_memory}
use Rattle.cairo_commands.proofs.EntryLimits.{trace_is_short, memory_is_short}
use Rattle.cairo_commands.proofs.laws.limit_laws.Goals as goal

pub returns-clause-trace : goal.returns-clause-trace
returns-clause-trace c = λ bytes states spelled. omega (arith, length-spelled_trace bytes states spelled, spelled.most)

pub returns-clause-memory : goal.returns-clause-memory
returns-clause-memory c = λ bytes cells spelled. omega (arith, length-spelled_memory bytes cells spelled, spelled.most)

pub returns-clause-entries : goal.returns-clause-entries
returns-clause-entries c = (refl, refl)

pub returns-clause-states : goal.returns-clause-states
returns-clause-states c = trace_is_short

pub returns-clause-cells : goal.returns-clause-cells
returns-clause-cells c = memory_is_short
