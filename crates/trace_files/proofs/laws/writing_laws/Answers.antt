use Rattle.trace_files.specs.TraceFile.{trace_bytes}
use Rattle.trace_files.specs.MemoryFile.{memory_bytes}
use Rattle.trace_files.proofs.TraceFile.{trace_reading-spelled, SpellsTrace-written}
use Rattle.trace_files.proofs.MemoryFile.{memory_reading-spelled, SpellsMemory-written}
use Rattle.trace_files.proofs.laws.writing_laws.Goals as goal

pub returns-clause-trace : goal.returns-clause-trace
returns-clause-trace c =
    λ states least most fit. trace_reading-spelled (trace_bytes states) states (SpellsTrace-written states least most fit)

pub returns-clause-memory : goal.returns-clause-memory
returns-clause-memory c =
    λ cells most rises. memory_reading-spelled (memory_bytes cells) cells (SpellsMemory-written cells most rises)
