-- How keys and faults are printed.
use Rattle.std.specs.Prelude.{ℕ, List, ◌++◌, codes}
use Rattle.std.specs.Fmt.{decimal}
use Rattle.public_input.specs.declared.fault.PublicKey.{PublicKey}
use Rattle.public_input.specs.declared.fault.PublicKey.TheVariants.{Steps, ApFirst, ApLast, RcMin, RcMax, RangeBegin, RangeCount, Cells}
use Rattle.public_input.specs.declared.fault.PublicFault.{PublicFault}
use Rattle.public_input.specs.declared.fault.PublicFault.TheVariants.{Json, Key, Range, TooMany, Cell, Order, Memory}

-- The name of a key in the file. Own.
abbrev pub key_name : PublicKey → List ℕ
key_name Steps = codes "steps"
key_name ApFirst = codes "ap_first"
key_name ApLast = codes "ap_last"
key_name RcMin = codes "rc_min"
key_name RcMax = codes "rc_max"
key_name RangeBegin = codes "range_begin"
key_name RangeCount = codes "range_count"
key_name Cells = codes "cells"

-- A fault as text: its name, and the key or the number of the entry. Own.
abbrev pub fault_text : PublicFault → List ℕ
fault_text Json = codes "Json"
fault_text (Key key) = codes "Key " ++ key_name key
fault_text (Range key) = codes "Range " ++ key_name key
fault_text TooMany = codes "TooMany"
fault_text (Cell i) = codes "Cell " ++ decimal i
fault_text (Order i) = codes "Order " ++ decimal i
fault_text Memory = codes "Memory"
