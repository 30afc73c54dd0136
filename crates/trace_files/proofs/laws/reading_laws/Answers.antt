use Rattle.trace_files.proofs.TraceFile.{trace_reading-spelled, trace_reading-fault, SpellsTrace-from_reading, IsTraceFault-from_reading, trace_is_unique}
use Rattle.trace_files.proofs.MemoryFile.{memory_reading-spelled, memory_reading-fault, SpellsMemory-from_reading, IsMemoryFault-from_reading, memory_is_unique}
use Rattle.trace_files.proofs.laws.reading_laws.Goals as goal

pub returns-clause-trace : goal.returns-clause-trace
returns-clause-trace c = λ bytes states. (trace_reading-spelled bytes states, SpellsTrace-from_reading bytes states)

pub returns-clause-trace_fault : goal.returns-clause-trace_fault
returns-clause-trace_fault c =
    λ bytes fault. (trace_reading-fault bytes fault, IsTraceFault-from_reading bytes fault)

pub returns-clause-one_trace : goal.returns-clause-one_trace
returns-clause-one_trace c = trace_is_unique

pub returns-clause-memory : goal.returns-clause-memory
returns-clause-memory c =
    λ bytes cells. (memory_reading-spelled bytes cells, SpellsMemory-from_reading bytes cells)

pub returns-clause-memory_fault : goal.returns-clause-memory_fault
returns-clause-memory_fault c =
    λ bytes fault. (memory_reading-fault bytes fault, IsMemoryFault-from_reading bytes fault)

pub returns-clause-one_memory : goal.returns-clause-one_memory
returns-clause-one_memory c = memory_is_unique
