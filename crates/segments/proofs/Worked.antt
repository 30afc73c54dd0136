-- Worked rows of the definitions, by computation.
use Rattle.std.proofs.Common.{◌≡◌, [], ◌∷◌, Some, None, refl}
use Rattle.std.specs.Prelude.{pos, negsuc, Ok, Err}
use Rattle.std.specs.FinMap.{from_entries}
use Rattle.goldilocks.specs.Field.{field_add, field_sub}
use Rattle.goldilocks.specs.Felts.{felt}
use Rattle.segments.specs.declared.Value.TheVariants.{Ptr}
use Rattle.segments.specs.declared.arithmetic.ArithFault.TheVariants.{TwoPointers, OffsetRange, NumberMinusPointer, OtherSegment, PointerProduct, PointerQuotient, DivByZero}
use Rattle.segments.specs.declared.memory.PutCause.TheVariants.{NoSegment, Fixed, CellLimit, Conflict}
use Rattle.segments.specs.Values.{place, number, pointer, value_sum, value_difference, value_product, value_quotient, place_at, moved_place, same_value}
use Rattle.segments.specs.Memory.{RunMemory, size, has_segment, names_segment, sizes_with, conflict, put_cause}
use Rattle.segments.specs.Relocation.{base, address, relocated, segment_bases}

-- a pointer and p - 2: two cells back
back_by_two : value_sum (Ptr (place 1 5)) (number 18446744069414584319) ≡ Ok (Ptr (place 1 3))
unfolding value_sum number pointer field_add
back_by_two = refl

too_far_back : value_sum (number 18446744069414584319) (Ptr (place 1 1)) ≡ Err OffsetRange
unfolding value_sum number pointer field_add
too_far_back = refl

too_far_on : value_sum (Ptr (place 1 4294967295)) (number 1) ≡ Err OffsetRange
unfolding value_sum number pointer field_add
too_far_on = refl

two_pointers : value_sum (Ptr (place 1 5)) (Ptr (place 1 5)) ≡ Err TwoPointers
unfolding value_sum
two_pointers = refl

-- pointers into one segment differ by a number, here -2
between : value_difference (Ptr (place 2 3)) (Ptr (place 2 5)) ≡ Ok (number 18446744069414584319)
unfolding value_difference field_sub
between = refl

other_segment : value_difference (Ptr (place 1 0)) (Ptr (place 2 0)) ≡ Err OtherSegment
unfolding value_difference
other_segment = refl

number_minus_pointer : value_difference (number 5) (Ptr (place 2 0)) ≡ Err NumberMinusPointer
unfolding value_difference number
number_minus_pointer = refl

below_the_segment : value_difference (Ptr (place 1 3)) (number 4) ≡ Err OffsetRange
unfolding value_difference number pointer field_sub
below_the_segment = refl

minus_minus_one : value_difference (Ptr (place 1 3)) (number 18446744069414584320) ≡ Ok (Ptr (place 1 4))
unfolding value_difference number pointer field_sub
minus_minus_one = refl

pointer_product : value_product (number 5) (Ptr (place 2 0)) ≡ Err PointerProduct
unfolding value_product number
pointer_product = refl

six_by_zero : value_quotient (number 6) (number 0) ≡ Err DivByZero
unfolding value_quotient number
six_by_zero = refl

pointer_by_zero : value_quotient (Ptr (place 2 0)) (number 0) ≡ Err PointerQuotient
unfolding value_quotient
pointer_by_zero = refl

-- a place moved back before its segment, on past the last offset, and to offset 0
moved_back : moved_place (place 1 0) (negsuc 0) ≡ None
unfolding moved_place place_at
moved_back = refl

moved_on : moved_place (place 1 4294967295) (pos 1) ≡ None
unfolding moved_place place_at
moved_on = refl

moved_to_zero : moved_place (place 1 32768) (negsuc 32767) ≡ Some (place 1 0)
unfolding moved_place place_at
moved_to_zero = refl

-- nine words and an added segment that holds 7 at its offset 1
nine_words : RunMemory
nine_words = record { sizes = 9 ∷ 2 ∷ []; cells = from_entries ((place 0 8, number 5) ∷ (place 1 1, number 7) ∷ []) }

past_the_program : put_cause nine_words (place 0 9) (number 5) ≡ Some Fixed
unfolding put_cause nine_words has_segment names_segment size number
past_the_program = refl

no_such_segment : put_cause nine_words (place 2 0) (Ptr (place 5 0)) ≡ Some NoSegment
unfolding put_cause nine_words has_segment names_segment
no_such_segment = refl

pointer_to_none : put_cause nine_words (place 0 9) (Ptr (place 2 0)) ≡ Some NoSegment
unfolding put_cause nine_words has_segment names_segment
pointer_to_none = refl

one_cell_too_many : put_cause nine_words (place 1 2097143) (number 5) ≡ Some CellLimit
unfolding put_cause nine_words has_segment names_segment size sizes_with number
one_cell_too_many = refl

the_last_cell : sizes_with nine_words (place 1 2097142) ≡ 9 ∷ 2097143 ∷ []
unfolding nine_words size sizes_with
the_last_cell = refl

another_value : conflict (Some (number 5)) (number 6) ≡ Some (Conflict (number 5))
unfolding conflict same_value number
another_value = refl

same_value_again : conflict (Some (number 5)) (number 5) ≡ None
unfolding conflict same_value number
same_value_again = refl

three_bases : segment_bases (9 ∷ 5 ∷ 0 ∷ []) ≡ 1 ∷ 10 ∷ 15 ∷ []
unfolding segment_bases base
three_bases = refl

one_base : segment_bases (9 ∷ []) ≡ 1 ∷ []
unfolding segment_bases base
one_base = refl

third_cell : relocated (9 ∷ 5 ∷ 0 ∷ []) (Ptr (place 1 2)) ≡ 12
unfolding relocated address base
third_cell = refl
