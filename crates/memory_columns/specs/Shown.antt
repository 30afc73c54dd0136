-- How a fault is printed.
use Rattle.std.specs.Prelude.{ℕ, List, ◌++◌, codes}
use Rattle.std.specs.Fmt.{decimal}
use Rattle.memory_columns.specs.declared.fault.SortFault.{SortFault}
use Rattle.memory_columns.specs.declared.fault.SortFault.TheVariants.{TooWide, Memory}

-- The text of a fault: its name, and the least and the greatest address. Own.
abbrev pub fault_text : SortFault → List ℕ
fault_text (TooWide least greatest) = codes "TooWide " ++ (decimal least.number ++ (codes " " ++ decimal greatest.number))
fault_text Memory = codes "Memory"
