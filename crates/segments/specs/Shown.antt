-- How places and values are printed.
use Rattle.std.specs.Prelude.{ℕ, List, ◌++◌, codes}
use Rattle.std.specs.Fmt.{decimal}
use Rattle.segments.specs.declared.Place.{Place}
use Rattle.segments.specs.declared.Value.{Value}
use Rattle.segments.specs.declared.Value.TheVariants.{Num, Ptr}
use Rattle.segments.specs.declared.arithmetic.ArithFault.{ArithFault}
use Rattle.segments.specs.declared.arithmetic.ArithFault.TheVariants.{TwoPointers, OffsetRange, NumberMinusPointer, OtherSegment, PointerProduct, PointerQuotient, DivByZero}
use Rattle.segments.specs.declared.memory.PutFault.{PutFault}
use Rattle.segments.specs.declared.memory.PutFault.TheVariants.{Refused, Memory}
use Rattle.segments.specs.declared.memory.PutCause.{PutCause}
use Rattle.segments.specs.declared.memory.PutCause.TheVariants.{NoSegment, Fixed, CellLimit, Conflict}

-- A place as text: the segment and the offset in decimal digits, with a colon between. Own.
abbrev pub place_text : Place → List ℕ
place_text p = decimal p.seg ++ (codes ":" ++ decimal p.off)

-- A value as text: a number in decimal digits, a pointer as its place. Own.
abbrev pub value_text : Value → List ℕ
value_text (Num x) = decimal x.number
value_text (Ptr p) = place_text p

-- A fault of arithmetic as text: its name. Own.
abbrev pub fault_text : ArithFault → List ℕ
fault_text TwoPointers = codes "TwoPointers"
fault_text OffsetRange = codes "OffsetRange"
fault_text NumberMinusPointer = codes "NumberMinusPointer"
fault_text OtherSegment = codes "OtherSegment"
fault_text PointerProduct = codes "PointerProduct"
fault_text PointerQuotient = codes "PointerQuotient"
fault_text DivByZero = codes "DivByZero"

-- A cause as text: its name, and the value that is kept. Own.
abbrev pub cause_text : PutCause → List ℕ
cause_text NoSegment = codes "NoSegment"
cause_text Fixed = codes "Fixed"
cause_text CellLimit = codes "CellLimit"
cause_text (Conflict kept) = codes "Conflict " ++ value_text kept

-- A fault of a write as text: its cause, or want of memory. Own.
abbrev pub put_text : PutFault → List ℕ
put_text (Refused cause) = cause_text cause
put_text Memory = codes "Memory"
