-- The definitions on the worked rows, by computation.
use Rattle.std.proofs.Common.{◌≡◌, ℕ, ◌<◌, [], ◌∷◌, Some, None, refl, lit<}
use Rattle.goldilocks.specs.Field.{prime, field_sub, field_mul}
use Rattle.goldilocks.specs.declared.Pair.{Pair}
use Rattle.sorted_lists.specs.Order.{in_order, with_item}
use Rattle.sorted_lists.specs.Difference.{list_difference, shorter_end}
use Rattle.sorted_lists.specs.Climbing.{climb, first_between}
use Rattle.sorted_lists.specs.Gaps.{absent, gaps_between}
use Rattle.memory_columns.specs.Equations.{m1, m2, pair_fault, first_memory_fault, fault_at}
use Rattle.goldilocks.specs.Cells.{memory_of}
use Rattle.memory_columns.specs.Filling.{unaccessed}

abbrev cell : (a v : ℕ) → a < prime → v < prime → Pair
cell a v h k = record { addr = record { number = a; in_field = h }; value = record { number = v; in_field = k } }

abbrev wrap_first : Pair
wrap_first = cell 18446744069414584320 7 (lit< tt) (lit< tt)

abbrev wrap_second : Pair
wrap_second = cell 0 9 (lit< tt) (lit< tt)

abbrev one_five : Pair
one_five = cell 1 5 (lit< tt) (lit< tt)

abbrev one_six : Pair
one_six = cell 1 6 (lit< tt) (lit< tt)

abbrev two_six : Pair
two_six = cell 2 6 (lit< tt) (lit< tt)

abbrev three_six : Pair
three_six = cell 3 6 (lit< tt) (lit< tt)

abbrev four_eight : Pair
four_eight = cell 4 8 (lit< tt) (lit< tt)

-- the addresses may wrap past p - 1
addresses_wrap : first_memory_fault (wrap_first ∷ wrap_second ∷ []) (wrap_first ∷ wrap_second ∷ []) ≡ None
unfolding first_memory_fault pair_fault m1 m2 climb field_sub field_mul first_between list_difference shorter_end in_order with_item
addresses_wrap = refl

nothing_at_all : first_memory_fault [] [] ≡ None
unfolding first_memory_fault pair_fault m1 m2 climb field_sub field_mul first_between list_difference shorter_end in_order with_item
nothing_at_all = refl

two_values : first_memory_fault (one_five ∷ one_six ∷ []) (one_five ∷ one_six ∷ []) ≡ Some (fault_at 2 0)
unfolding first_memory_fault pair_fault m1 m2 climb field_sub field_mul first_between list_difference shorter_end in_order with_item
two_values = refl

one_pair_short : first_memory_fault (one_five ∷ one_five ∷ []) (one_five ∷ []) ≡ Some (fault_at 3 1)
unfolding first_memory_fault pair_fault m1 m2 climb field_sub field_mul first_between list_difference shorter_end in_order with_item
one_pair_short = refl

jump_by_two : first_memory_fault (one_five ∷ three_six ∷ []) (one_five ∷ three_six ∷ []) ≡ Some (fault_at 1 0)
unfolding first_memory_fault pair_fault m1 m2 climb field_sub field_mul first_between list_difference shorter_end in_order with_item
jump_by_two = refl

step_down : first_memory_fault [] (one_five ∷ two_six ∷ one_five ∷ []) ≡ Some (fault_at 1 1)
unfolding first_memory_fault pair_fault m1 m2 climb field_sub field_mul first_between list_difference shorter_end in_order with_item
step_down = refl

-- the other way round in the accesses
other_order : first_memory_fault (two_six ∷ one_five ∷ []) (one_five ∷ two_six ∷ []) ≡ None
unfolding first_memory_fault pair_fault m1 m2 climb field_sub field_mul first_between list_difference shorter_end in_order with_item
other_order = refl

first_place_is_read : memory_of (one_five ∷ one_six ∷ []) 1 ≡ Some 5
unfolding memory_of
first_place_is_read = refl

wrapped_is_read : memory_of (wrap_first ∷ wrap_second ∷ []) 18446744069414584320 ≡ Some 7
unfolding memory_of
wrapped_is_read = refl

missing_is_not_read : memory_of (wrap_first ∷ wrap_second ∷ []) 1 ≡ None
unfolding memory_of
missing_is_not_read = refl

between_one_and_four : unaccessed (one_five ∷ four_eight ∷ []) 1 4 ≡ 2 ∷ 3 ∷ []
unfolding unaccessed gaps_between absent
between_one_and_four = refl
