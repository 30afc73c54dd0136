-- Values while it isn't known where segments will lie: numbers of the field, and pointers. What a sum, a difference,
-- a product and a quotient of them is, by cases on what they are, or why there is none.
use Rattle.std.specs.Prelude.{◌≡◌, ◌<◌, ◌⊎◌, ℕ, ◌%◌, ◌^◌, ℤ, pos, negsuc, ◌+ℤ◌, Bool, false, ◌&&◌, ◌==◌, nat_lt, if◌then◌else◌, Option, Some, None, List, find, unwrap_or, Result, Ok, Err}
use Rattle.std.specs.Ordering.{nat_cmp, ordering_then}
use Rattle.std.specs.declared.cmp.Ordering.{Ordering}
use Rattle.std.specs.List.{range_with_len}
use Rattle.goldilocks.specs.Field.{prime, field_add, field_sub, field_mul}
use Rattle.goldilocks.specs.Felts.{felt}
use Rattle.segments.specs.declared.Place.{Place}
use Rattle.segments.specs.declared.Value.{Value}
use Rattle.segments.specs.declared.Value.TheVariants.{Num, Ptr}
use Rattle.segments.specs.declared.arithmetic.ArithFault.{ArithFault}
use Rattle.segments.specs.declared.arithmetic.ArithFault.TheVariants.{TwoPointers, OffsetRange, NumberMinusPointer, OtherSegment, PointerProduct, PointerQuotient, DivByZero}

-- The order of places: by segment, and then by offset. Own.
abbrev pub place_cmp : Place → Place → Ordering
place_cmp p q = ordering_then (nat_cmp p.seg q.seg) (nat_cmp p.off q.off)

-- The place comes before the other: its segment is an earlier one, or it lies earlier in the same segment. Own.
unfoldable pub IsBefore : Place → Place → Type 0
IsBefore p q = (p.seg < q.seg) ⊎ ((p.seg ≡ q.seg) × (p.off < q.off))

-- The place with this segment and this offset. Own.
abbrev pub place : ℕ → ℕ → Place
place seg off = record { seg = seg; off = off }

-- The numbers below n. Own.
unfoldable pub numbers_below : ℕ → List ℕ
numbers_below n = range_with_len 0 n

-- The quotient of two numbers in the field: the number of the field that gives a when multiplied with b. Where b is 0
-- there is none, and this is 0. Own.
unfoldable pub field_quotient : ℕ → ℕ → ℕ
field_quotient a b = unwrap_or (find (λ q. field_mul q b == a % prime) (numbers_below prime)) 0

-- A number as a value. Own.
unfoldable pub number : ℕ → Value
number n = Num (felt n)

-- The pointer with this segment and offset; an offset of 2^32 or more is out of range. Own.
unfoldable pub pointer : ℕ → ℕ → Result Value ArithFault
pointer seg off = if nat_lt off (2 ^ 32) then Ok (Ptr (place seg off)) else Err OffsetRange

-- The sum: of two numbers; of a pointer and a number in either order, in the pointer's segment. Own.
unfoldable pub value_sum : Value → Value → Result Value ArithFault
value_sum (Num x) (Num y) = Ok (number (field_add x.number y.number))
value_sum (Num x) (Ptr q) = pointer q.seg (field_add q.off x.number)
value_sum (Ptr p) (Num y) = pointer p.seg (field_add p.off y.number)
value_sum (Ptr p) (Ptr q) = Err TwoPointers

-- The difference: of two numbers; of the offsets of two pointers into one segment, a number; of a pointer and a
-- number, in the pointer's segment. Own.
unfoldable pub value_difference : Value → Value → Result Value ArithFault
value_difference (Num x) (Num y) = Ok (number (field_sub x.number y.number))
value_difference (Num x) (Ptr q) = Err NumberMinusPointer
value_difference (Ptr p) (Num y) = pointer p.seg (field_sub p.off y.number)
value_difference (Ptr p) (Ptr q) = if p.seg == q.seg then Ok (number (field_sub p.off q.off)) else Err OtherSegment

-- The product of two numbers. Own.
unfoldable pub value_product : Value → Value → Result Value ArithFault
value_product (Num x) (Num y) = Ok (number (field_mul x.number y.number))
value_product (Num x) (Ptr q) = Err PointerProduct
value_product (Ptr p) v = Err PointerProduct

-- The quotient of two numbers, the second not 0. Own.
unfoldable pub value_quotient : Value → Value → Result Value ArithFault
value_quotient (Num x) (Num y) = if y.number == 0 then Err DivByZero else Ok (number (field_quotient x.number y.number))
value_quotient (Num x) (Ptr q) = Err PointerQuotient
value_quotient (Ptr p) v = Err PointerQuotient

-- The place in a segment at a whole number as offset, where it is one from 0 to 2^32 - 1. Own.
unfoldable pub place_at : ℕ → ℤ → Option Place
place_at seg (pos off) = if nat_lt off (2 ^ 32) then Some (place seg off) else None
place_at seg (negsuc n) = None

-- A place moved by a number of cells. Own.
unfoldable pub moved_place : Place → ℤ → Option Place
moved_place p by = place_at p.seg (pos p.off +ℤ by)

-- Whether two values are the same number or the same pointer. Own.
unfoldable pub same_value : Value → Value → Bool
same_value (Num x) (Num y) = x.number == y.number
same_value (Num x) (Ptr q) = false
same_value (Ptr p) (Num y) = false
same_value (Ptr p) (Ptr q) = (p.seg == q.seg) && (p.off == q.off)
