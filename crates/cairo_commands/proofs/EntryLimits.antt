-- Bytes of a run's files that are within their limit are never read as too many entries.
use Rattle.std.proofs.Common.{◌≡◌, ◌≤◌, ℕ, List, length, Result, Ok, Err, refl, arith}
use Rattle.trace_files.specs.declared.fault.FileFault.{FileFault}
use Rattle.trace_files.specs.declared.fault.FileFault.TheVariants.{TooMany, Length, NotField, Order, Memory}
use Rattle.trace_files.specs.TraceFile.{trace_reading, trace_limit}
use Rattle.trace_files.specs.MemoryFile.{memory_reading, memory_limit}
use Rattle.trace_files.proofs.TraceFile.{IsTraceFault-from_reading}
use Rattle.trace_files.proofs.MemoryFile.{IsMemoryFault-from_reading}
use Rattle.command_frame.specs.Formats.{TooMuch, told}
use Rattle.cairo_commands.specs.RunFiles.{file_unread}

too_many : {X : Type 0} (reading : Result X FileFault) → told file_unread reading ≡ Err TooMuch → reading ≡ Err TooMany
too_many (Ok x) is = cc
too_many (Err TooMany) is = refl
too_many (Err Length) is = cc
too_many (Err (NotField place)) is = cc
too_many (Err (Order place)) is = cc
too_many (Err Memory) is = cc

pub trace_is_short : (bytes : List ℕ) → length bytes ≤ trace_limit → told file_unread (trace_reading bytes) ≡ Err TooMuch → ⊥
trace_is_short bytes short is =
    omega (arith, IsTraceFault-from_reading bytes TooMany (too_many (trace_reading bytes) is), short)

pub memory_is_short : (bytes : List ℕ) → length bytes ≤ memory_limit → told file_unread (memory_reading bytes) ≡ Err TooMuch → ⊥
memory_is_short bytes short is =
    omega (arith, IsMemoryFault-from_reading bytes TooMany (too_many (memory_reading bytes) is), short)
