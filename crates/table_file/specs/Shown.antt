-- How the faults of a tables file are printed.
use Rattle.std.specs.Prelude.{ℕ, List, ◌++◌, codes}
use Rattle.std.specs.Fmt.{decimal}
use Rattle.table_file.specs.declared.TableFault.{TableFault}
use Rattle.table_file.specs.declared.TableFault.TheVariants.{Magic, TooMany, NotField, Length, Memory}

-- A fault as text: its name, and the place of the value that it is about. Own.
abbrev pub fault_text : TableFault → List ℕ
fault_text Magic = codes "Magic"
fault_text TooMany = codes "TooMany"
fault_text (NotField place) = codes "NotField " ++ decimal place
fault_text Length = codes "Length"
fault_text Memory = codes "Memory"
