-- How the faults of files are written in printed lines. Own.
use Rattle.std.specs.Prelude.{List, ℕ, ◌++◌, codes}
use Rattle.std.specs.Fmt.{decimal}
use Rattle.trace_files.specs.declared.fault.FileFault.{FileFault}
use Rattle.trace_files.specs.declared.fault.FileFault.TheVariants.{TooMany, Length, NotField, Order, Memory}

-- The name of the fault, and its place in bytes where it has one. Own.
abbrev pub file_fault_text : FileFault → List ℕ
file_fault_text TooMany = codes "TooMany"
file_fault_text Length = codes "Length"
file_fault_text (NotField place) = codes "NotField " ++ decimal place
file_fault_text (Order place) = codes "Order " ++ decimal place
file_fault_text Memory = codes "Memory"
