-- The equations of the range columns, on all small values and on the sorted ones. "The whitepaper" is Cairo's, ePrint
-- 2021/1063. It compares the two lists by a random product; here they are compared exactly.
use Rattle.std.specs.Prelude.{ℕ, ◌≡◌, ◌⊎◌, ◌+◌, ◌-◌, ◌<◌, ◌≤◌, Bool, false, ◌==◌, List, length, Option, Some, None, option_map, if◌then◌else◌, slice_get, slice_index_or}
use Rattle.std.specs.List.{AllAdjacentBelow}
use Rattle.std.specs.Option.{option_or}
use Rattle.std.specs.Ordering.{nat_cmp}
use Rattle.std.specs.declared.cmp.Ordering.{Ordering}
use Rattle.goldilocks.specs.declared.Felt.{Felt}
use Rattle.sorted_lists.specs.Order.{in_order, DiffersFirstAt}
use Rattle.sorted_lists.specs.Difference.{list_difference}
use Rattle.sorted_lists.specs.Climbing.{climb, AllNeighbours, first_between}
use Rattle.range_columns.specs.declared.RangeFault.{RangeFault}

-- The order of values: by their numbers. Own.
abbrev pub felt_cmp : Felt → Felt → Ordering
felt_cmp x y = nat_cmp x.number y.number

-- Whether two values are one number. Own.
abbrev pub is_same_felt : Felt → Felt → Bool
is_same_felt x y = x.number == y.number

-- The first number of a list, where it has one. Own.
abbrev pub first_number : List Felt → Option ℕ
first_number sorted = option_map (λ q. q.number) (slice_get sorted 0)

-- The last number of a list, where it has one. Own.
abbrev pub last_number : List Felt → Option ℕ
last_number sorted = option_map (λ q. q.number) (slice_get sorted (length sorted - 1))

-- Q1: the first sorted value is the least. The whitepaper's permutation range-checks.
unfoldable pub Q1 : List Felt → ℕ → Type 0
Q1 sorted least = first_number sorted ≡ Some least

-- Q2: (q' - q)(q' - q - 1) = 0, so that each sorted value stays or goes up by 1 to the next. The whitepaper's
-- permutation range-checks.
unfoldable pub Q2 : List Felt → Type 0
Q2 sorted = AllNeighbours (λ x y. climb x.number y.number ≡ 0) sorted

-- Q3: the last sorted value is the greatest. The whitepaper's permutation range-checks.
unfoldable pub Q3 : List Felt → ℕ → Type 0
Q3 sorted greatest = last_number sorted ≡ Some greatest

-- Q4: the values and the sorted values, each put in order, are one list. Own, in the place of the whitepaper's random
-- product.
unfoldable pub Q4 : List Felt → List Felt → Type 0
Q4 values sorted = in_order felt_cmp values ≡ in_order felt_cmp sorted

-- The failure of an equation at a row. Own.
abbrev pub fault_at : ℕ → ℕ → RangeFault
fault_at number row = record { number = number; row = row }

-- Whether there is this number. Own.
abbrev pub is_number : ℕ → Option ℕ → Bool
is_number n None = false
is_number n (Some m) = m == n

-- The failure of Q1, at row 0, where it fails. Own.
unfoldable pub q1_fault : List Felt → ℕ → Option RangeFault
q1_fault sorted least = if is_number least (first_number sorted) then None else Some (fault_at 1 0)

-- The number 2 where Q2 fails between two neighbours. Own.
unfoldable pub step_fault : Felt → Felt → Option ℕ
step_fault x y = if climb x.number y.number == 0 then None else Some 2

-- The first failure of Q2. Own.
unfoldable pub q2_fault : List Felt → Option RangeFault
q2_fault sorted = option_map (λ p. fault_at p.1 p.0) (first_between step_fault sorted)

-- The failure of Q3, at the last row, where it fails. Own.
unfoldable pub q3_fault : List Felt → ℕ → Option RangeFault
q3_fault sorted greatest = if is_number greatest (last_number sorted) then None else Some (fault_at 3 (length sorted - 1))

-- The first place at which values and sorted values, each put in order, differ, or the length of the shorter list. Own.
abbrev pub range_difference : List Felt → List Felt → Option ℕ
range_difference values sorted = list_difference is_same_felt (in_order felt_cmp values) (in_order felt_cmp sorted)

-- The failure of Q4, at the first place where the two ordered lists differ, or at the length of the shorter one. Own.
unfoldable pub q4_fault : List Felt → List Felt → Option RangeFault
q4_fault values sorted = option_map (λ row. fault_at 4 row) (range_difference values sorted)

-- The first failure in the order Q1, Q2 by row, Q3, Q4. Own.
unfoldable pub first_range_fault : List Felt → List Felt → ℕ → ℕ → Option RangeFault
first_range_fault values sorted least greatest =
    option_or (q1_fault sorted least) (option_or (q2_fault sorted) (option_or (q3_fault sorted greatest) (q4_fault values sorted)))

-- The value lies from the least to the greatest. Own.
unfoldable pub IsWithin : ℕ → ℕ → Felt → Type 0
IsWithin least greatest x = (least ≤ x.number) × (x.number ≤ greatest)

-- Q2 holds between each value and the next up to the value at the row. Own.
abbrev pub StepsBefore : List Felt → ℕ → Type 0
StepsBefore sorted row = AllAdjacentBelow (λ x y. climb x.number y.number ≡ 0) sorted (row + 1)

-- Q2 fails between the value at the row and the next. Own.
abbrev pub StepFailsAt : List Felt → ℕ → Type 0
StepFailsAt sorted row = (row + 1 < length sorted) × ((d : Felt) → climb (slice_index_or sorted row d).number (slice_index_or sorted (row + 1) d).number ≡ 0 → ⊥)

-- The fault is the first: all equations before it hold, Q2 up to its row, and it fails at its row. Own.
unfoldable pub IsFirstFault : List Felt → List Felt → ℕ → ℕ → RangeFault → Type 0
IsFirstFault values sorted least greatest fault =
    ((fault.number ≡ 1) × (fault.row ≡ 0) × (Q1 sorted least → ⊥))
    ⊎ (((fault.number ≡ 2) × Q1 sorted least × StepsBefore sorted fault.row × StepFailsAt sorted fault.row)
    ⊎ (((fault.number ≡ 3) × (fault.row ≡ length sorted - 1) × Q1 sorted least × Q2 sorted × (Q3 sorted greatest → ⊥))
    ⊎ ((fault.number ≡ 4) × Q1 sorted least × Q2 sorted × Q3 sorted greatest × DiffersFirstAt (in_order felt_cmp values) (in_order felt_cmp sorted) fault.row)))
