-- The files of a run, as formats: its trace and its memory. Own.
use Rattle.std.specs.Prelude.{List, false}
use Rattle.goldilocks.specs.declared.Pair.{Pair}
use Rattle.casm_word.specs.Transition.{Registers}
use Rattle.trace_files.specs.declared.fault.FileFault.{FileFault}
use Rattle.trace_files.specs.declared.fault.FileFault.TheVariants.{TooMany, Length, NotField, Order, Memory}
use Rattle.trace_files.specs.Faults.{file_fault_text}
use Rattle.trace_files.specs.TraceFile.{SpellsTrace, trace_reading, trace_limit}
use Rattle.trace_files.specs.MemoryFile.{SpellsMemory, memory_reading, memory_limit}
use Rattle.file_port.specs.Files.{Name, Files}
use Rattle.command_frame.specs.Formats.{Unread, TooMuch, Faulty, Format, Holds, told}

-- Why bytes are no file of a run. Own.
abbrev pub file_unread : FileFault → Unread
file_unread TooMany = TooMuch
file_unread Length = Faulty (file_fault_text Length)
file_unread (NotField place) = Faulty (file_fault_text (NotField place))
file_unread (Order place) = Faulty (file_fault_text (Order place))
file_unread Memory = Faulty (file_fault_text Memory)

-- Trace files. Own.
abbrev pub trace_format : Format (List Registers)
trace_format = record {
  limit = trace_limit;
  may_have_too_many = false;
  reading = λ bytes. told file_unread (trace_reading bytes);
}

-- Memory files. Own.
abbrev pub memory_format : Format (List Pair)
memory_format = record {
  limit = memory_limit;
  may_have_too_many = false;
  reading = λ bytes. told file_unread (memory_reading bytes);
}

-- The files have a file of this name, within the limit of a trace, and its bytes spell states. Own.
abbrev pub HoldsTrace : Name → Files → Type 0
HoldsTrace name files = Holds trace_format SpellsTrace name files

-- The files have a file of this name, within the limit of a memory, and its bytes spell cells. Own.
abbrev pub HoldsMemory : Name → Files → Type 0
HoldsMemory name files = Holds memory_format SpellsMemory name files
