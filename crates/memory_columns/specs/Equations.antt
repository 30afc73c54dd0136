-- The equations of the memory columns, on all accesses to the memory and on the sorted pairs. "The whitepaper" is
-- Cairo's, ePrint 2021/1063. It compares the two lists by a random product; here they are compared exactly.
use Rattle.std.specs.Prelude.{ℕ, ◌≡◌, ◌⊎◌, ◌+◌, ◌<◌, Bool, ◌&&◌, ◌==◌, List, length, Option, Some, None, option_map, if◌then◌else◌, slice_index_or}
use Rattle.std.specs.List.{AllAdjacentBelow}
use Rattle.std.specs.Option.{option_or}
use Rattle.std.specs.Ordering.{nat_cmp, ordering_then}
use Rattle.std.specs.declared.cmp.Ordering.{Ordering}
use Rattle.goldilocks.specs.Field.{field_sub, field_mul}
use Rattle.goldilocks.specs.declared.Pair.{Pair}
use Rattle.sorted_lists.specs.Order.{in_order, DiffersFirstAt}
use Rattle.sorted_lists.specs.Difference.{list_difference}
use Rattle.sorted_lists.specs.Climbing.{climb, AllNeighbours, first_between}
use Rattle.memory_columns.specs.declared.ListFault.{ListFault}

-- The order of cells: by address, and then by value. Own.
abbrev pub pair_cmp : Pair → Pair → Ordering
pair_cmp x y = ordering_then (nat_cmp x.addr.number y.addr.number) (nat_cmp x.value.number y.value.number)

-- Whether two cells have the same address and the same value. Own.
abbrev pub is_same_pair : Pair → Pair → Bool
is_same_pair x y = (x.addr.number == y.addr.number) && (x.value.number == y.value.number)

-- The left side of M1, (a' - a)(a' - a - 1) with the address a and the next address a'. The whitepaper's
-- nondeterministic continuous read-only memory.
unfoldable pub m1 : Pair → Pair → ℕ
m1 x y = climb x.addr.number y.addr.number

-- The left side of M2, (v' - v)(a' - a - 1) with the values v and v' too. The whitepaper's nondeterministic continuous
-- read-only memory.
unfoldable pub m2 : Pair → Pair → ℕ
m2 x y = field_mul (field_sub y.value.number x.value.number) (field_sub (field_sub y.addr.number x.addr.number) 1)

-- M1: between each sorted pair and the next the address stays or goes up by 1. The whitepaper's nondeterministic
-- continuous read-only memory.
unfoldable pub M1 : List Pair → Type 0
M1 sorted = AllNeighbours (λ x y. m1 x y ≡ 0) sorted

-- M2: where the address stays, the value stays. The whitepaper's nondeterministic continuous read-only memory.
unfoldable pub M2 : List Pair → Type 0
M2 sorted = AllNeighbours (λ x y. m2 x y ≡ 0) sorted

-- M3: the accesses and the sorted pairs, each put in order, are one list. Own, in the place of the whitepaper's
-- random product.
unfoldable pub M3 : List Pair → List Pair → Type 0
M3 accesses sorted = in_order pair_cmp accesses ≡ in_order pair_cmp sorted

-- The failure of an equation at a row. Own.
abbrev pub fault_at : ℕ → ℕ → ListFault
fault_at number row = record { number = number; row = row }

-- The lower number of M1 and M2 that fails between two neighbours. Own.
unfoldable pub pair_fault : Pair → Pair → Option ℕ
pair_fault x y = if m1 x y == 0 then (if m2 x y == 0 then None else Some 2) else Some 1

-- The first place at which accesses and sorted pairs, each put in order, differ, or the length of the shorter list. Own.
abbrev pub pair_difference : List Pair → List Pair → Option ℕ
pair_difference accesses sorted = list_difference is_same_pair (in_order pair_cmp accesses) (in_order pair_cmp sorted)

-- The first failure of M1 and M2, by row and then by number, or else that of M3. Own.
unfoldable pub first_memory_fault : List Pair → List Pair → Option ListFault
first_memory_fault accesses sorted =
    option_or (option_map (λ p. fault_at p.1 p.0) (first_between pair_fault sorted))
    (option_map (λ row. fault_at 3 row) (pair_difference accesses sorted))

-- M1 and M2 hold between each pair and the next up to the pair at the row. Own.
abbrev pub HoldsBefore : List Pair → ℕ → Type 0
HoldsBefore sorted row = AllAdjacentBelow (λ x y. (m1 x y ≡ 0) × (m2 x y ≡ 0)) sorted (row + 1)

-- A relation holds between the pair at the row and the next. Own.
abbrev pub RelatesAt : (Pair → Pair → Type 0) → List Pair → ℕ → Type 0
RelatesAt R sorted row = (row + 1 < length sorted) × ((d : Pair) → R (slice_index_or sorted row d) (slice_index_or sorted (row + 1) d))

-- A relation fails between the pair at the row and the next. Own.
abbrev pub FailsAt : (Pair → Pair → Type 0) → List Pair → ℕ → Type 0
FailsAt R sorted row = RelatesAt (λ x y. R x y → ⊥) sorted row

-- The fault is the first. Of M1 or M2: both hold between all pairs before its row, and M1 fails there, or M1 holds
-- there and M2 fails. Of M3: M1 and M2 hold everywhere, and the two ordered lists agree before its row and differ
-- there. Own.
unfoldable pub IsFirstFault : List Pair → List Pair → ListFault → Type 0
IsFirstFault accesses sorted fault =
    ((fault.number ≡ 1) × HoldsBefore sorted fault.row × FailsAt (λ x y. m1 x y ≡ 0) sorted fault.row)
    ⊎ (((fault.number ≡ 2) × HoldsBefore sorted fault.row × RelatesAt (λ x y. m1 x y ≡ 0) sorted fault.row × FailsAt (λ x y. m2 x y ≡ 0) sorted fault.row)
    ⊎ ((fault.number ≡ 3) × M1 sorted × M2 sorted × DiffersFirstAt (in_order pair_cmp accesses) (in_order pair_cmp sorted) fault.row))
