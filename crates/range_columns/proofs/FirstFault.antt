-- What the first failure is.
use Rattle.std.proofs.Common.{◌≡◌, ◌↔◌, ℕ, ◌+◌, ◌-◌, ◌⊎◌, inl, inr, Bool, true, false, cond, List, length, get_or, Option, Some, None, IfSome, refl, sym, ap, subst, ◌∙◌, lit<}
use Rattle.std.specs.Option.{option_map, option_or, is_some}
use Rattle.std.proofs.lemmas.Bool.{cases_eq, eq-eqb}
use Rattle.goldilocks.specs.declared.Felt.{Felt}
use Rattle.sorted_lists.specs.Order.{in_order}
use Rattle.sorted_lists.specs.Difference.{list_difference}
use Rattle.sorted_lists.specs.Climbing.{climb, first_between}
use Rattle.sorted_lists.proofs.Neighbours.{none_between, some_between, first_between-none}
use Rattle.sorted_lists.proofs.Differences.{difference-none, difference-some}
use Rattle.range_columns.specs.declared.RangeFault.{RangeFault}
use Rattle.range_columns.specs.Equations.{felt_cmp, is_same_felt, is_number, first_number, last_number, fault_at, Q1, Q2, Q3, Q4, q1_fault, q2_fault, q3_fault, q4_fault, step_fault, first_range_fault, IsFirstFault}
use Rattle.range_columns.proofs.Values.{same_felt_tells}
use Rattle.range_columns.proofs.InRange.{none_is, is_number-from, q1_holds, q2_holds, q3_holds, q4_holds, step-fails, step-holds, step_tells, at_q4}

number_is : (n : ℕ) (o : Option ℕ) → o ≡ Some n → is_number n o ≡ true
number_is n o e = ap (is_number n) e ∙ eq-eqb n n refl

other_number_is : (n : ℕ) (o : Option ℕ) → is_number n o ≡ false → o ≡ Some n → ⊥
other_number_is n o e g = let h : is_number n o ≡ true = number_is n o g in cc

no_fault_from : (values sorted : List Felt) (least greatest : ℕ) → Q1 sorted least × Q2 sorted × Q3 sorted greatest × Q4 values sorted → first_range_fault values sorted least greatest ≡ None
unfolding Q1 Q2 Q3 Q4 q1_fault q2_fault q3_fault q4_fault
no_fault_from values sorted least greatest h =
    let neighbours : first_between step_fault sorted ≡ None = first_between-none step_fault sorted (λ k d lt. step-holds (get_or sorted k d) (get_or sorted (k + 1) d) (h.1 k d lt)) in
    let order : list_difference is_same_felt (in_order felt_cmp values) (in_order felt_cmp sorted) ≡ None = (difference-none is_same_felt same_felt_tells (in_order felt_cmp values) (in_order felt_cmp sorted)).1 (h.3) in
    sym (at_q4 values sorted least greatest None
    (rw (number_is least (first_number sorted) (h.0)) refl)
    (ap (option_map (λ p. fault_at p.1 p.0)) neighbours)
    (rw (number_is greatest (last_number sorted) (h.2)) refl)
    (ap (option_map (λ row. fault_at 4 row)) (sym order)))

pub no_fault_exactly : (values sorted : List Felt) (least greatest : ℕ) → (first_range_fault values sorted least greatest ≡ None) ↔ (Q1 sorted least × Q2 sorted × Q3 sorted greatest × Q4 values sorted)
unfolding Q1 Q2 Q3 Q4
no_fault_exactly values sorted least greatest =
    (λ e. (q1_holds values sorted least greatest e, q2_holds values sorted least greatest e, q3_holds values sorted least greatest e, q4_holds values sorted least greatest e), no_fault_from values sorted least greatest)

-- only 2 is found between neighbours
finds_two : (n : ℕ) (x y : Felt) → step_fault x y ≡ Some n → (n ≡ 2) × (climb x.number y.number ≡ 0 → ⊥)
finds_two n x y e =
    elim (cases_eq (climb x.number y.number) 0) [
      | inl z ↦ absurd (let h : step_fault x y ≡ None = step-holds x y z in cc)
      | inr ne ↦ (let h : step_fault x y ≡ Some 2 = step-fails x y ne in cc, ne)
    ]

zero_value : Felt
zero_value = record { number = 0; in_field = lit< tt }

-- the first of two that there is
either : {A : Type 0} (a b : Option A) (y : A) → option_or a b ≡ Some y → (a ≡ Some y) ⊎ ((a ≡ None) × (b ≡ Some y))
either None b y e = inr (refl, e)
either (Some x) b y e = inl e

tested : {A : Type 0} (b : Bool) (x y : A) → cond b None (Some x) ≡ Some y → (b ≡ false) × (x ≡ y)
tested true x y e = absurd (cc)
tested false x y e = (refl, cc)

tested_none : {A : Type 0} (b : Bool) (x : A) → cond b None (Some x) ≡ None → b ≡ true
tested_none true x e = refl
tested_none false x e = absurd (cc)

mapped : {A B : Type 0} (f : A → B) (o : Option A) (y : B) → option_map f o ≡ Some y → (x : A) × (o ≡ Some x) × (f x ≡ y)
mapped f None y e = absurd (cc)
mapped f (Some x) y e = (x, refl, cc)

mapped_none : {A B : Type 0} (f : A → B) (o : Option A) → option_map f o ≡ None → o ≡ None
mapped_none f None e = refl
mapped_none f (Some x) e = absurd (cc)

module _ (values sorted : List Felt) (least greatest : ℕ) where
  abbrev First : RangeFault → Type 0
  First = IsFirstFault values sorted least greatest

  is_q1 : (Q1 sorted least → ⊥) → First (fault_at 1 0)
  unfolding IsFirstFault
  is_q1 h = inl (refl, refl, h)

  is_q2 : Q1 sorted least → (row n : ℕ) → first_between step_fault sorted ≡ Some (row, n) → First (fault_at n row)
  unfolding IsFirstFault
  is_q2 one row n e =
      let found = some_between step_fault sorted row n e in
      let two : n ≡ 2 = (finds_two n (get_or sorted row zero_value) (get_or sorted (row + 1) zero_value) (found.2 zero_value)).0 in
      inr (inl (
        two,
        one,
        (λ k d lt. step_tells (get_or sorted k d) (get_or sorted (k + 1) d) (found.1 k d lt)),
        (found.0, λ d. (finds_two n (get_or sorted row d) (get_or sorted (row + 1) d) (found.2 d)).1),
      ))

  is_q3 : Q1 sorted least → Q2 sorted → (Q3 sorted greatest → ⊥) → First (fault_at 3 (length sorted - 1))
  unfolding IsFirstFault
  is_q3 one two h = inr (inr (inl (refl, refl, one, two, h)))

  is_q4 : Q1 sorted least → Q2 sorted → Q3 sorted greatest → (row : ℕ) → list_difference is_same_felt (in_order felt_cmp values) (in_order felt_cmp sorted) ≡ Some row → First (fault_at 4 row)
  unfolding IsFirstFault
  is_q4 one two three row e =
      inr (inr (inr (refl, one, two, three, difference-some is_same_felt same_felt_tells (in_order felt_cmp values) (in_order felt_cmp sorted) row e)))

  from_q4 : (fault : RangeFault) → Q1 sorted least → Q2 sorted → Q3 sorted greatest → q4_fault values sorted ≡ Some fault → First fault
  unfolding q4_fault
  from_q4 fault one two three e =
      let r : (row : ℕ) × (list_difference is_same_felt (in_order felt_cmp values) (in_order felt_cmp sorted) ≡ Some row) × (fault_at 4 row ≡ fault) = mapped (λ row. fault_at 4 row) (list_difference is_same_felt (in_order felt_cmp values) (in_order felt_cmp sorted)) fault e in
      subst First (r.2) (is_q4 one two three (r.0) (r.1))

  from_q3 : (fault : RangeFault) → Q1 sorted least → Q2 sorted → option_or (q3_fault sorted greatest) (q4_fault values sorted) ≡ Some fault → First fault
  unfolding q3_fault Q3
  from_q3 fault one two e =
      elim (either (q3_fault sorted greatest) (q4_fault values sorted) fault e) [
        | inl here ↦
            let t : (is_number greatest (last_number sorted) ≡ false) × (fault_at 3 (length sorted - 1) ≡ fault) = tested (is_number greatest (last_number sorted)) (fault_at 3 (length sorted - 1)) fault here in
            subst First (t.1) (is_q3 one two (other_number_is greatest (last_number sorted) (t.0)))
        | inr later ↦ from_q4 fault one two (is_number-from greatest (last_number sorted) (tested_none (is_number greatest (last_number sorted)) (fault_at 3 (length sorted - 1)) (later.0))) (later.1)
      ]

  from_q2 : (fault : RangeFault) → Q1 sorted least → option_or (q2_fault sorted) (option_or (q3_fault sorted greatest) (q4_fault values sorted)) ≡ Some fault → First fault
  unfolding q2_fault Q2
  from_q2 fault one e =
      elim (either (q2_fault sorted) (option_or (q3_fault sorted greatest) (q4_fault values sorted)) fault e) [
        | inl here ↦
            let r : (p : ℕ × ℕ) × (first_between step_fault sorted ≡ Some p) × (fault_at p.1 p.0 ≡ fault) = mapped (λ p. fault_at p.1 p.0) (first_between step_fault sorted) fault here in
            subst First (r.2) (is_q2 one (r.0.0) (r.0.1) (r.1))
        | inr later ↦
            from_q3 fault one (λ k d lt. step_tells (get_or sorted k d) (get_or sorted (k + 1) d) (none_between step_fault sorted (mapped_none (λ p. fault_at p.1 p.0) (first_between step_fault sorted) (later.0)) k d lt)) (later.1)
      ]

  pub first_fault_is : (fault : RangeFault) → first_range_fault values sorted least greatest ≡ Some fault → First fault
  unfolding first_range_fault q1_fault Q1
  first_fault_is fault e =
      elim (either (q1_fault sorted least) (option_or (q2_fault sorted) (option_or (q3_fault sorted greatest) (q4_fault values sorted))) fault e) [
        | inl here ↦
            let t : (is_number least (first_number sorted) ≡ false) × (fault_at 1 0 ≡ fault) = tested (is_number least (first_number sorted)) (fault_at 1 0) fault here in
            subst First (t.1) (is_q1 (other_number_is least (first_number sorted) (t.0)))
        | inr later ↦ from_q2 fault (is_number-from least (first_number sorted) (tested_none (is_number least (first_number sorted)) (fault_at 1 0) (later.0))) (later.1)
      ]

-- ---- what an answer says that is the first failure

pub none_of_fault : (values sorted : List Felt) (least greatest : ℕ) (fault : Option RangeFault) → fault ≡ first_range_fault values sorted least greatest → (is_some fault ≡ false) ↔ (Q1 sorted least × Q2 sorted × Q3 sorted greatest × Q4 values sorted)
none_of_fault values sorted least greatest fault is =
    ((λ none. (no_fault_exactly values sorted least greatest).0 (sym is ∙ none_is fault none)), (λ all. ap is_some (is ∙ (no_fault_exactly values sorted least greatest).1 all)))

pub first_of_fault : (values sorted : List Felt) (least greatest : ℕ) (fault : Option RangeFault) → fault ≡ first_range_fault values sorted least greatest → IfSome fault (IsFirstFault values sorted least greatest)
first_of_fault values sorted least greatest None is = tt
first_of_fault values sorted least greatest (Some found) is = first_fault_is values sorted least greatest found (sym is)
