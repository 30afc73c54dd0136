-- Sorted values that go from the least to the greatest by 0 or 1 modulo p, fewer than p times, all lie between.
use Rattle.std.proofs.Common.{◌≡◌, ℕ, zero, suc, ◌+◌, ◌-◌, ◌<◌, ◌≤◌, inl, inr, Bool, true, false, cond, List, [], ◌∷◌, length, get_or, Option, Some, None, refl, ap, ◌∙◌, arith, IsPermutation}
use Rattle.std.specs.Prelude.{All, slice_get}
use Rattle.std.specs.Option.{option_map, option_or, is_some}
use Rattle.std.proofs.lemmas.Bool.{cases_eq, eq-eqb, ne_eqb, eqb-true}
use Rattle.std.proofs.lemmas.Option.{slice_get_read}
use Rattle.std.proofs.lemmas.List.Sorted.{All-permutation, IsPermutation-sym}
use Rattle.goldilocks.specs.Field.{prime, field_sub}
use Rattle.goldilocks.specs.declared.Felt.{Felt}
use Rattle.sorted_lists.specs.Order.{in_order}
use Rattle.sorted_lists.specs.Difference.{list_difference}
use Rattle.sorted_lists.specs.Climbing.{climb, AllNeighbours, first_between}
use Rattle.sorted_lists.proofs.Steps.{distance-ascends}
use Rattle.sorted_lists.proofs.Neighbours.{none_between}
use Rattle.sorted_lists.proofs.Differences.{difference-none}
use Rattle.sorted_lists.proofs.InOrder.{IsPermutation-from_in_order}
use Rattle.range_columns.specs.declared.RangeFault.{RangeFault}
use Rattle.range_columns.specs.Equations.{felt_cmp, is_same_felt, is_number, first_number, last_number, fault_at, q1_fault, q2_fault, q3_fault, q4_fault, step_fault, first_range_fault, IsWithin}
use Rattle.range_columns.proofs.Values.{number_below, same_felt_tells}

abbrev pub number_of : Felt → ℕ
number_of x = x.number

-- numbers at the ends
pub number_at : (xs : List Felt) (k n : ℕ) (d : Felt) → option_map number_of (slice_get xs k) ≡ Some n → (k < length xs) × (number_of (get_or xs k d) ≡ n)
number_at [] k n d e = absurd (cc)
number_at (x ∷ xs) zero n d e = (omega arith, cc)
number_at (x ∷ xs) (suc k) n d e =
    let r : (k < length xs) × (number_of (get_or xs k d) ≡ n) = number_at xs k n d e in
    (omega (arith, r.0), r.1)

pub is_number-from : (n : ℕ) (o : Option ℕ) → is_number n o ≡ true → o ≡ Some n
is_number-from n None e = absurd (cc)
is_number-from n (Some m) e = ap (λ k. Some k) (eqb-true m n e)

-- each fault, where it is and where it isn't
module _ (xs : List Felt) (k n : ℕ) (x : Felt) (lt : k < length xs) (at : x ≡ get_or xs k x) where
  read_number : option_map number_of (slice_get xs k) ≡ Some x.number
  read_number = ap (option_map number_of) (slice_get_read xs (length xs) k x refl lt at)

  pub other_number : (x.number ≡ n → ⊥) → is_number n (option_map number_of (slice_get xs k)) ≡ false
  other_number ne = ap (is_number n) read_number ∙ ne_eqb x.number n ne

  pub same_number : x.number ≡ n → is_number n (option_map number_of (slice_get xs k)) ≡ true
  same_number e = ap (is_number n) read_number ∙ eq-eqb x.number n e

pub q1-fails : (xs : List Felt) (n : ℕ) (x : Felt) → 0 < length xs → x ≡ get_or xs 0 x → (x.number ≡ n → ⊥) → q1_fault xs n ≡ Some (fault_at 1 0)
unfolding q1_fault
q1-fails xs n x lt at ne = rw (other_number xs 0 n x lt at ne) refl

pub q1-holds : (xs : List Felt) (n : ℕ) (x : Felt) → 0 < length xs → x ≡ get_or xs 0 x → x.number ≡ n → q1_fault xs n ≡ None
unfolding q1_fault
q1-holds xs n x lt at e = rw (same_number xs 0 n x lt at e) refl

pub q3-fails : (xs : List Felt) (n : ℕ) (x : Felt) → 0 < length xs → x ≡ get_or xs (length xs - 1) x → (x.number ≡ n → ⊥) → q3_fault xs n ≡ Some (fault_at 3 (length xs - 1))
unfolding q3_fault
q3-fails xs n x lt at ne = rw (other_number xs (length xs - 1) n x (omega arith) at ne) refl

pub q3-holds : (xs : List Felt) (n : ℕ) (x : Felt) → 0 < length xs → x ≡ get_or xs (length xs - 1) x → x.number ≡ n → q3_fault xs n ≡ None
unfolding q3_fault
q3-holds xs n x lt at e = rw (same_number xs (length xs - 1) n x (omega arith) at e) refl

pub step-fails : (x y : Felt) → (climb x.number y.number ≡ 0 → ⊥) → step_fault x y ≡ Some 2
unfolding step_fault
step-fails x y ne = rw (ne_eqb (climb x.number y.number) 0 ne) refl

pub step-holds : (x y : Felt) → climb x.number y.number ≡ 0 → step_fault x y ≡ None
unfolding step_fault
step-holds x y e = rw (eq-eqb (climb x.number y.number) 0 e) refl

pub step_tells : (x y : Felt) → step_fault x y ≡ None → climb x.number y.number ≡ 0
step_tells x y e =
    elim (cases_eq (climb x.number y.number) 0) [
      | inl z ↦ z
      | inr ne ↦ absurd (let h : step_fault x y ≡ Some 2 = step-fails x y ne in cc)
    ]

-- what no fault means

pub none_is : {A : Type 0} (o : Option A) → is_some o ≡ false → o ≡ None
none_is None e = refl
none_is (Some x) e = absurd (cc)

nothing_first : (a b : Option RangeFault) → option_or a b ≡ None → (a ≡ None) × (b ≡ None)
nothing_first None b e = (refl, e)
nothing_first (Some x) b e = absurd (cc)

nothing_mapped : {A B : Type 0} (f : A → B) (o : Option A) → option_map f o ≡ None → o ≡ None
nothing_mapped f None e = refl
nothing_mapped f (Some x) e = absurd (cc)

holds_from : (b : Bool) (f : RangeFault) → cond b None (Some f) ≡ None → b ≡ true
holds_from true f e = refl
holds_from false f e = absurd (cc)

module _ (values sorted : List Felt) (least greatest : ℕ) (e : first_range_fault values sorted least greatest ≡ None) where
  parts : (q1_fault sorted least ≡ None) × (q2_fault sorted ≡ None) × (q3_fault sorted greatest ≡ None) × (q4_fault values sorted ≡ None)
  unfolding first_range_fault
  parts =
      let a = nothing_first (q1_fault sorted least) (option_or (q2_fault sorted) (option_or (q3_fault sorted greatest) (q4_fault values sorted))) e in
      let b = nothing_first (q2_fault sorted) (option_or (q3_fault sorted greatest) (q4_fault values sorted)) (a.1) in
      let c = nothing_first (q3_fault sorted greatest) (q4_fault values sorted) (b.1) in
      (a.0, b.0, c.0, c.1)

  pub q1_holds : first_number sorted ≡ Some least
  unfolding q1_fault
  q1_holds = is_number-from least (first_number sorted) (holds_from (is_number least (first_number sorted)) (fault_at 1 0) parts.0)

  pub q2_holds : AllNeighbours (λ x y. climb x.number y.number ≡ 0) sorted
  unfolding q2_fault
  q2_holds k d lt =
      step_tells (get_or sorted k d) (get_or sorted (k + 1) d) (none_between step_fault sorted (nothing_mapped (λ p. fault_at p.1 p.0) (first_between step_fault sorted) parts.1) k d lt)

  pub q3_holds : last_number sorted ≡ Some greatest
  unfolding q3_fault
  q3_holds = is_number-from greatest (last_number sorted) (holds_from (is_number greatest (last_number sorted)) (fault_at 3 (length sorted - 1)) parts.2)

  pub q4_holds : in_order felt_cmp values ≡ in_order felt_cmp sorted
  unfolding q4_fault
  q4_holds = (difference-none is_same_felt same_felt_tells (in_order felt_cmp values) (in_order felt_cmp sorted)).0 (nothing_mapped (λ row. fault_at 4 row) (list_difference is_same_felt (in_order felt_cmp values) (in_order felt_cmp sorted)) parts.3)

-- a number no further from the least than the greatest is
within_numbers : (least greatest n : ℕ) → least ≤ greatest → greatest < prime → n < prime → field_sub n least ≤ field_sub greatest least → (least ≤ n) × (n ≤ greatest)
unfolding field_sub
within_numbers least greatest n a b c e = (omega arith, omega arith)

pub within_range : (values sorted : List Felt) (least greatest : ℕ) → least ≤ greatest → greatest < prime → length sorted < prime → first_range_fault values sorted least greatest ≡ None → All (IsWithin least greatest) values
unfolding IsWithin
within_range values sorted least greatest range low short e =
    let moved : IsPermutation sorted values = IsPermutation-sym values sorted (IsPermutation-from_in_order felt_cmp values sorted (q4_holds values sorted least greatest e)) in
    All-permutation (λ x. (least ≤ x.number) × (x.number ≤ greatest)) sorted values moved (λ k d lt.
    let first : (0 < length sorted) × (number_of (get_or sorted 0 d) ≡ least) = number_at sorted 0 least d (q1_holds values sorted least greatest e) in
    let last : (length sorted - 1 < length sorted) × (number_of (get_or sorted (length sorted - 1) d) ≡ greatest) = number_at sorted (length sorted - 1) greatest d (q3_holds values sorted least greatest e) in
    let far : field_sub (number_of (get_or sorted k d)) (number_of (get_or sorted 0 d)) ≤ field_sub (number_of (get_or sorted (length sorted - 1) d)) (number_of (get_or sorted 0 d)) =
    distance-ascends number_of number_below sorted d (q2_holds values sorted least greatest e) short k (length sorted - 1) (omega arith) (omega arith) in
    within_numbers least greatest (number_of (get_or sorted k d)) range low (number_below (get_or sorted k d)) (rw (first.1, last.1) at far))

-- the first fault, by where it is
module _ (values sorted : List Felt) (least greatest : ℕ) where
  pub at_q1 : (f : RangeFault) → q1_fault sorted least ≡ Some f → Some f ≡ first_range_fault values sorted least greatest
  unfolding first_range_fault
  at_q1 f e = rw e refl

  pub at_q2 : (f : RangeFault) → q1_fault sorted least ≡ None → q2_fault sorted ≡ Some f → Some f ≡ first_range_fault values sorted least greatest
  unfolding first_range_fault
  at_q2 f e g = rw (e, g) refl

  pub at_q3 : (f : RangeFault) → q1_fault sorted least ≡ None → q2_fault sorted ≡ None → q3_fault sorted greatest ≡ Some f → Some f ≡ first_range_fault values sorted least greatest
  unfolding first_range_fault
  at_q3 f e g h = rw (e, g, h) refl

  pub at_q4 : (o : Option RangeFault) → q1_fault sorted least ≡ None → q2_fault sorted ≡ None → q3_fault sorted greatest ≡ None → o ≡ q4_fault values sorted → o ≡ first_range_fault values sorted least greatest
  unfolding first_range_fault
  at_q4 o e g h i = rw (e, g, h) i
