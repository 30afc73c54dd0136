-- Fillers of the range, and columns that have no fault.
use Rattle.std.proofs.Common.{◌≡◌, ℕ, ◌+◌, ◌-◌, ◌<◌, ◌≤◌, inl, inr, Bool, true, false, not, eqb, List, [], ◌∷◌, ◌++◌, length, get_or, filter, map, None, refl, sym, ap, ◌∙◌, arith, IsPermutation, IsSorted}
use Rattle.std.specs.Prelude.{All, ◌||◌}
use Rattle.std.specs.Option.{option_map}
use Rattle.std.specs.List.{range_with_len, list_any}
use Rattle.std.specs.List.Sorted.{IsNonDecreasingBy}
use Rattle.std.proofs.lemmas.Bool.{cases_Bool, or_left, or_right}
use Rattle.std.proofs.lemmas.List.{get_or-map, get_or_default, length-map}
use Rattle.std.proofs.lemmas.List.Elements.{All-filter, filter_agree, All-append}
use Rattle.std.proofs.lemmas.List.Folds.{list_any-append}
use Rattle.std.proofs.lemmas.List.FromFn.{length-range_with_len, get_or-range_with_len}
use Rattle.std.proofs.lemmas.List.Sorted.{All-permutation, list_any-IsPermutation, IsPermutation-sym, IsPermutation-append_left, ranks_by}
use Rattle.goldilocks.specs.Field.{prime, field_sub}
use Rattle.goldilocks.specs.declared.Felt.{Felt}
use Rattle.sorted_lists.specs.Order.{in_order}
use Rattle.sorted_lists.specs.Difference.{list_difference}
use Rattle.sorted_lists.specs.Climbing.{first_between}
use Rattle.sorted_lists.specs.Gaps.{absent, is_taken, gaps_between}
use Rattle.sorted_lists.proofs.Absent.{absent-has, any_at, no_gap}
use Rattle.sorted_lists.proofs.Differences.{difference-none}
use Rattle.sorted_lists.proofs.InOrder.{in_order-IsPermutation, in_order-IsSorted, in_order_kept, in_order-IsPermutation_same}
use Rattle.sorted_lists.proofs.Neighbours.{climb_from_step, first_between-none}
use Rattle.range_columns.specs.Equations.{felt_cmp, fault_at, is_same_felt, step_fault, q2_fault, q4_fault, first_range_fault, IsWithin}
use Rattle.range_columns.specs.Filling.{absent_values}
use Rattle.range_columns.proofs.Values.{felt_total, felt_equal, same_felt_tells, numbers_ascend}
use Rattle.range_columns.proofs.InRange.{number_of, q1-holds, q3-holds, step-holds, at_q4}

pub absent_moved : (xs ys : List Felt) (least greatest : ℕ) → IsPermutation xs ys → absent_values xs least greatest ≡ absent_values ys least greatest
unfolding absent_values gaps_between absent
absent_moved xs ys least greatest moved =
    filter_agree (λ n. not (is_taken number_of xs n)) (λ n. not (is_taken number_of ys n)) (λ n. ap not (list_any-IsPermutation (λ x. eqb (number_of x) n) xs ys moved)) (range_with_len least (greatest + 1 - least))

in_range : (low count : ℕ) → All (λ n. (low ≤ n) × (n < low + count)) (range_with_len low count)
in_range low count k d lt =
    let short : k < count = omega (arith, length-range_with_len low count) in
    let e : get_or (range_with_len low count) k d ≡ low + k = get_or-range_with_len low count k d short in
    (omega arith, omega arith)

all_absent : (values : List Felt) (least greatest : ℕ) → All (λ n. (least ≤ n) × (n ≤ greatest)) (absent_values values least greatest)
unfolding absent_values gaps_between absent
all_absent values least greatest k d lt =
    let p : ℕ → Bool = λ n. not (is_taken number_of values n) in
    let range : List ℕ = range_with_len least (greatest + 1 - least) in
    let within : (least ≤ get_or (filter p range) k d) × (get_or (filter p range) k d < least + (greatest + 1 - least)) = All-filter p (λ n. (least ≤ n) × (n < least + (greatest + 1 - least))) range (in_range least (greatest + 1 - least)) k d lt in
    (omega (arith, within.0), omega (arith, within.0, within.1))

has_absent : (values : List Felt) (least greatest n : ℕ) → least ≤ n → n ≤ greatest → is_taken number_of values n ≡ false → list_any (λ a. eqb a n) (absent_values values least greatest) ≡ true
unfolding absent_values gaps_between
has_absent values least greatest n lo hi free = absent-has (is_taken number_of values) n least (greatest + 1 - least) lo (omega arith) free

any-map : {X : Type 0} (f : X → ℕ) (n : ℕ) (xs : List X) → list_any (λ a. eqb a n) (map f xs) ≡ list_any (λ x. eqb (f x) n) xs
any-map f n [] = refl
any-map f n (x ∷ xs) = ap (λ t. eqb (f x) n || t) (any-map f n xs)

near : (a b : ℕ) → a ≤ b → b ≤ a + 1 → b < prime → field_sub b a ≤ 1
unfolding field_sub
near a b p q r = omega arith

module _ (values fill : List Felt) (least greatest : ℕ) (range : least ≤ greatest) (within : All (IsWithin least greatest) values) (made : map number_of fill ≡ absent_values values least greatest) (sorted : List Felt) (ordered : sorted ≡ in_order felt_cmp (values ++ fill)) where
  abbrev all : List Felt
  all = values ++ fill

  fill_within : All (IsWithin least greatest) fill
  unfolding IsWithin
  fill_within k d lt =
      let long : length fill ≡ length (absent_values values least greatest) = sym (length-map fill number_of) ∙ ap length made in
      let at : number_of (get_or fill k d) ≡ get_or (absent_values values least greatest) k (number_of d) = sym (get_or-map number_of fill k d (number_of d) lt) ∙ ap (λ ns. get_or ns k (number_of d)) made in
      let there = all_absent values least greatest k (number_of d) (omega arith) in
      (omega (arith, there.0), omega (arith, there.1))

  -- each number of the range is there
  each_number : (n : ℕ) → least ≤ n → n ≤ greatest → list_any (λ x. eqb (number_of x) n) all ≡ true
  each_number n lo hi =
      let p : Felt → Bool = λ x. eqb (number_of x) n in
      list_any-append p values fill ∙
      elim (cases_Bool (is_taken number_of values n)) [
        | inl here ↦ or_left (list_any p values) (list_any p fill) here
        | inr free ↦ or_right (list_any p values) (list_any p fill) (sym (any-map number_of n fill) ∙ (ap (list_any (λ a. eqb a n)) made ∙ has_absent values least greatest n lo hi free))
      ]

  moved : IsPermutation all sorted
  moved = rw ordered (in_order-IsPermutation felt_cmp all)

  up : IsSorted felt_cmp sorted
  up = rw ordered (in_order-IsSorted felt_cmp (ranks_by felt_total (λ (x : Felt). x)) all)

  sorted_within : All (IsWithin least greatest) sorted
  sorted_within = All-permutation (IsWithin least greatest) all sorted moved (All-append (IsWithin least greatest) values fill within fill_within)

  -- each number of the range is in the sorted list
  somewhere : (n : ℕ) → least ≤ n → n ≤ greatest → (d : Felt) → (k : ℕ) × (k < length sorted) × (number_of (get_or sorted k d) ≡ n)
  somewhere n lo hi d = any_at number_of n sorted d (sym (list_any-IsPermutation (λ x. eqb (number_of x) n) all sorted moved) ∙ each_number n lo hi)

  climbs : (k : ℕ) (d : Felt) → k + 1 < length sorted → step_fault (get_or sorted k d) (get_or sorted (k + 1) d) ≡ None
  unfolding IsWithin
  climbs k d lt =
      let x : Felt = get_or sorted k d in
      let y : Felt = get_or sorted (k + 1) d in
      let rises : IsNonDecreasingBy number_of sorted = numbers_ascend sorted up in
      let low : least ≤ x.number = (sorted_within k d (omega arith)).0 in
      let high : y.number ≤ greatest = (sorted_within (k + 1) d lt).1 in
      let close : y.number ≤ x.number + 1 = no_gap number_of sorted d rises k (k + 1) refl lt (λ n a b. sym (list_any-IsPermutation (λ z. eqb (number_of z) n) all sorted moved) ∙ each_number n (omega arith) (omega arith)) in
      step-holds x y (climb_from_step x.number y.number (near x.number y.number (rises k (k + 1) d (omega arith) lt) close y.in_field))

  pub no_fault : (d : Felt) → first_range_fault all sorted least greatest ≡ None
  unfolding IsWithin q2_fault q4_fault
  no_fault d =
      let rises : IsNonDecreasingBy number_of sorted = numbers_ascend sorted up in
      let first : (k : ℕ) × (k < length sorted) × (number_of (get_or sorted k d) ≡ least) = somewhere least (omega arith) range d in
      let last : (k : ℕ) × (k < length sorted) × (number_of (get_or sorted k d) ≡ greatest) = somewhere greatest range (omega arith) d in
      let some : 0 < length sorted = omega (arith, first.1) in
      let x : Felt = get_or sorted 0 d in
      let y : Felt = get_or sorted (length sorted - 1) d in
      let at_least : x.number ≡ least = omega (arith, first.2, rises 0 (first.0) d (omega arith) (first.1), (sorted_within 0 d some).0) in
      let at_greatest : y.number ≡ greatest = omega (arith, last.2, rises (last.0) (length sorted - 1) d (omega (arith, last.1)) (omega arith), (sorted_within (length sorted - 1) d (omega arith)).1) in
      let neighbours : first_between step_fault sorted ≡ None = first_between-none step_fault sorted (λ k e lt. climbs k e lt) in
      let kept : in_order felt_cmp sorted ≡ sorted = in_order_kept felt_cmp felt_total felt_equal sorted up in
      let order : list_difference is_same_felt (in_order felt_cmp all) (in_order felt_cmp sorted) ≡ None = (difference-none is_same_felt same_felt_tells (in_order felt_cmp all) (in_order felt_cmp sorted)).1 (sym ordered ∙ sym kept) in
      sym (at_q4 all sorted least greatest None
      (q1-holds sorted least x some (get_or_default sorted 0 d x some) at_least)
      (ap (option_map (λ p. fault_at p.1 p.0)) neighbours)
      (q3-holds sorted greatest y some (get_or_default sorted (length sorted - 1) d y (omega arith)) at_greatest)
      (ap (option_map (λ row. fault_at 4 row)) (sym order)))

-- values that were put in order first
module _ (values ordered fill sorted : List Felt) (least greatest : ℕ) (moved : IsPermutation values ordered) (made : map number_of fill ≡ absent_values ordered least greatest) (in_turn : sorted ≡ in_order felt_cmp (ordered ++ fill)) where
  pub made_absent : map number_of fill ≡ absent_values values least greatest
  made_absent = made ∙ absent_moved ordered values least greatest (IsPermutation-sym values ordered moved)

  pub sorted_values : sorted ≡ in_order felt_cmp (values ++ fill)
  sorted_values = in_turn ∙ in_order-IsPermutation_same felt_cmp felt_total felt_equal (ordered ++ fill) (values ++ fill) (IsPermutation-append_left fill ordered values (IsPermutation-sym values ordered moved))

  pub columns_no_fault : least ≤ greatest → All (IsWithin least greatest) values → Felt → first_range_fault (values ++ fill) sorted least greatest ≡ None
  columns_no_fault range within d = no_fault values fill least greatest range within made_absent sorted sorted_values d
