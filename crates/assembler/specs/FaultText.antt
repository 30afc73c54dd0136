-- How the faults of the assembler are written in printed lines.
use Rattle.std.specs.Prelude.{ℕ, List, ◌++◌, codes}
use Rattle.std.specs.Fmt.{decimal}
use Rattle.assembler.specs.declared.fault.AsmFault.{AsmFault}
use Rattle.assembler.specs.declared.fault.AsmFault.TheVariants.{Duplicate, TooLong, Unknown, NoEnd, StartOutside, EndOutside, Memory}

-- The name of the fault, with the label and the line that it has. Own.
abbrev pub fault_text : AsmFault → List ℕ
fault_text (Duplicate line) = codes "Duplicate " ++ decimal line
fault_text TooLong = codes "TooLong"
fault_text (Unknown name line) = codes "Unknown " ++ (name ++ (codes " " ++ decimal line))
fault_text NoEnd = codes "NoEnd"
fault_text StartOutside = codes "StartOutside"
fault_text EndOutside = codes "EndOutside"
fault_text Memory = codes "Memory"
