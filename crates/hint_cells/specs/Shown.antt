-- How the faults of a hint file are printed.
use Rattle.std.specs.Prelude.{ℕ, List, ◌++◌, codes}
use Rattle.std.specs.Fmt.{decimal}
use Rattle.hint_cells.specs.declared.fault.HintKey.{HintKey}
use Rattle.hint_cells.specs.declared.fault.HintKey.TheVariants as key
use Rattle.hint_cells.specs.declared.fault.HintFault.{HintFault}
use Rattle.hint_cells.specs.declared.fault.HintFault.TheVariants as fault

-- The name of a key in the file. Own.
abbrev pub key_name : HintKey → List ℕ
key_name key.Extra = codes "extra"
key_name key.Cells = codes "cells"

-- A fault as text: its name, and the key or the entry that it is about. Own.
abbrev pub fault_text : HintFault → List ℕ
fault_text fault.Json = codes "Json"
fault_text (fault.Key k) = codes "Key " ++ key_name k
fault_text fault.TooMany = codes "TooMany"
fault_text (fault.Cell i) = codes "Cell " ++ decimal i
fault_text fault.Memory = codes "Memory"
