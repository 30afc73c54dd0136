-- The verdict on what is asked of each item of a list, and of each item and the next.
use Rattle.std.proofs.Common.{◌≡◌, ℕ, zero, suc, ◌+◌, ◌<◌, ◌∙◌, inl, inr, List, [], ◌∷◌, length, get_or, map, Option, Some, None, refl, ap, subst, arith, add-zero}
use Rattle.std.specs.List.{zip}
use Rattle.std.proofs.lemmas.Bool.{cases_Bool}
use Rattle.cpu_rows.specs.Equations.{Equation, holds, failing_number as least_failing}
use Rattle.sorted_lists.specs.Climbing.{here_or_later, first_after, first_between}
use Rattle.constraint_checker.specs.declared.Constraint.{Constraint}
use Rattle.constraint_checker.specs.declared.Constraint.TheVariants.{C}
use Rattle.constraint_checker.specs.declared.Verdict.{Verdict}
use Rattle.constraint_checker.specs.declared.Verdict.TheVariants.{Accepted, Refused}
use Rattle.constraint_checker.specs.Constraints.{Condition, condition, at_each, neighbours}
use Rattle.constraint_checker.specs.Verdict.{verdict_on}
use Rattle.constraint_checker.proofs.Verdicts.{first_refused, verdict_on-append, accepted-append, goes_on, stays}

module _ {X : Type 0} (asked : ℕ → X → List Condition) where
  moved : (k j : ℕ) (x : X) (v : Verdict) → verdict_on (asked (k + suc j) x) ≡ v → verdict_on (asked (k + 1 + j) x) ≡ v
  moved k j x v e = subst (λ n. verdict_on (asked n x) ≡ v) (omega arith) e

  -- none of the items is refused
  pub none_refused : (k : ℕ) (items : List X) → ((j : ℕ) (d : X) → j < length items → verdict_on (asked (k + j) (get_or items j d)) ≡ Accepted) → verdict_on (at_each k items asked) ≡ Accepted
  none_refused k [] h = refl
  none_refused k (x ∷ items) h =
      let here : verdict_on (asked k x) ≡ Accepted = rw (add-zero k) at (h 0 x (omega arith)) in
      let later : verdict_on (at_each (k + 1) items asked) ≡ Accepted =
      none_refused (k + 1) items (λ j d lt. moved k j (get_or items j d) Accepted (h (suc j) d (omega arith))) in
      (accepted-append (asked k x) (at_each (k + 1) items asked)).1 (here, later)

  -- each of the items is accepted where the list is
  pub each_accepted : (k : ℕ) (items : List X) → verdict_on (at_each k items asked) ≡ Accepted → (j : ℕ) (d : X) → j < length items → verdict_on (asked (k + j) (get_or items j d)) ≡ Accepted
  each_accepted k [] e j d lt = absurd (omega arith)
  each_accepted k (x ∷ items) e zero d lt =
      let both = (accepted-append (asked k x) (at_each (k + 1) items asked)).0 e in
      rw (add-zero k) both.0
  each_accepted k (x ∷ items) e (suc j) d lt =
      let both = (accepted-append (asked k x) (at_each (k + 1) items asked)).0 e in
      let there : verdict_on (asked (k + 1 + j) (get_or items j d)) ≡ Accepted = each_accepted (k + 1) items both.1 j d (omega arith) in
      subst (λ n. verdict_on (asked n (get_or items j d)) ≡ Accepted) (omega arith) there

  -- an item is refused, and none before it
  pub refused_at : (k i : ℕ) (items : List X) (v : Verdict) → (v ≡ Accepted → ⊥) → i < length items → ((j : ℕ) (d : X) → j < i → verdict_on (asked (k + j) (get_or items j d)) ≡ Accepted) → ((d : X) → verdict_on (asked (k + i) (get_or items i d)) ≡ v) → verdict_on (at_each k items asked) ≡ v
  refused_at k i [] v refusal lt before here = absurd (omega arith)
  refused_at k zero (x ∷ items) v refusal lt before here =
      let at : verdict_on (asked k x) ≡ v = rw (add-zero k) at (here x) in
      verdict_on-append (asked k x) (at_each (k + 1) items asked) ∙ (rw at (stays v (verdict_on (at_each (k + 1) items asked)) refusal))
  refused_at k (suc i) (x ∷ items) v refusal lt before here =
      let first : verdict_on (asked k x) ≡ Accepted = rw (add-zero k) at (before 0 x (omega arith)) in
      verdict_on-append (asked k x) (at_each (k + 1) items asked)
      ∙ (goes_on (verdict_on (asked k x)) (verdict_on (at_each (k + 1) items asked)) first
      ∙ refused_at (k + 1) i items v refusal (omega arith)
      (λ j d below. moved k j (get_or items j d) Accepted (before (suc j) d (omega arith)))
      (λ d. moved k i (get_or items i d) v (here d)))

-- what is asked of a row
abbrev pub of_number : (ℕ → Constraint) → ℕ → Option ℕ → Verdict
of_number name row None = Accepted
of_number name row (Some k) = Refused (name k) row

pub of_number-accepted : (name : ℕ → Constraint) (row : ℕ) (o : Option ℕ) → of_number name row o ≡ Accepted → o ≡ None
of_number-accepted name row None e = refl
of_number-accepted name row (Some k) e = absurd (cc)

abbrev pub of_equations : ℕ → List Equation → List Condition
of_equations row es = map (λ e. condition (C e.number) row (holds e)) es

pub verdict_on-equations : (row : ℕ) (es : List Equation) → verdict_on (of_equations row es) ≡ of_number C row (least_failing es)
unfolding least_failing
verdict_on-equations row [] = refl
verdict_on-equations row (e ∷ es) =
    elim (cases_Bool (holds e)) [
      | inl t ↦ rw t (verdict_on-equations row es)
      | inr f ↦ rw f refl
    ]

-- what is asked of each item and the next
abbrev pub of_place : (ℕ → Constraint) → ℕ → Option (ℕ × ℕ) → Verdict
of_place name k None = Accepted
of_place name k (Some p) = Refused (name p.1) (k + p.0)

module _ {X : Type 0} (name : ℕ → Constraint) (asked : ℕ → X × X → List Condition) (found : X → X → Option ℕ) (each : (k : ℕ) (x y : X) → verdict_on (asked k (x, y)) ≡ of_number name k (found x y)) where
  joined : (k : ℕ) (o : Option ℕ) (later : Option (ℕ × ℕ)) → first_refused (of_number name k o) (of_place name (k + 1) later) ≡ of_place name k (here_or_later o later)
  joined k None None = refl
  joined k None (Some p) = ap (Refused (name p.1)) (omega arith)
  joined k (Some n) later = ap (Refused (name n)) (omega arith)

  after : (k : ℕ) (x : X) (ys : List X) → verdict_on (at_each k (zip (x ∷ ys) ys) asked) ≡ of_place name k (first_after found x ys)
  after k x [] = refl
  after k x (y ∷ ys) =
      verdict_on-append (asked k (x, y)) (at_each (k + 1) (zip (y ∷ ys) ys) asked)
      ∙ (rw (each k x y, after (k + 1) y ys) (joined k (found x y) (first_after found y ys)))

  pub verdict_on-neighbours : (xs : List X) → verdict_on (at_each 0 (neighbours xs) asked) ≡ of_place name 0 (first_between found xs)
  unfolding first_between
  verdict_on-neighbours [] = refl
  verdict_on-neighbours (x ∷ xs) = after 0 x xs
