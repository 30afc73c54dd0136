-- Neighbours that go up by 0 or 1 modulo p.
use Rattle.std.proofs.Common.{◌≡◌, ℕ, zero, suc, ◌+◌, ◌%◌, ◌<◌, ◌≤◌, ◌⊎◌, inl, inr, List, [], ◌∷◌, length, get_or, Option, Some, None, refl, ap, ◌∙◌, arith, add-one}
use native.Mathlib.Numerals.{unary_clauses}
use Rattle.std.specs.List.{AllAdjacentBelow}
use Rattle.std.proofs.Math.Nat.{mod-eq_of_lt}
use Rattle.std.proofs.lemmas.Bool.{cases_eq, cases_lt}
use Rattle.std.proofs.lemmas.List.{get_or_read}
use Rattle.goldilocks.specs.Field.{prime, field_sub}
use Rattle.goldilocks.proofs.FieldLaws.{flag_from_product, product_from_flag, field_sub_below}
use Rattle.sorted_lists.specs.Climbing.{climb, AllNeighbours, here_or_later, first_after, first_between}

-- a climb is 0 exactly where the difference is 0 or 1
pub step_from_climb : (a b : ℕ) → climb a b ≡ 0 → field_sub b a ≤ 1
unfolding climb
step_from_climb a b e =
    let whole : field_sub b a % prime ≡ field_sub b a = mod-eq_of_lt (field_sub_below b a) in
    elim (flag_from_product (field_sub b a) e) [
      | inl z ↦ omega arith
      | inr z ↦ omega arith
    ]

pub climb_from_step : (a b : ℕ) → field_sub b a ≤ 1 → climb a b ≡ 0
unfolding climb
climb_from_step a b h =
    let whole : field_sub b a % prime ≡ field_sub b a = mod-eq_of_lt (field_sub_below b a) in
    let flag : (field_sub b a ≡ 0) ⊎ (field_sub b a ≡ 1) = grind arith in
    product_from_flag (field_sub b a) (elim flag [ inl z ↦ inl (whole ∙ z) | inr z ↦ inr (whole ∙ z) ])

same_from_step : (a b : ℕ) → field_sub b a ≡ 0 → b % prime ≡ a % prime
unfolding field_sub
same_from_step a b e = omega arith

next_from_step : (a b : ℕ) → field_sub b a ≡ 1 → b % prime ≡ (a + 1) % prime
unfolding field_sub
next_from_step a b e = omega arith

step_at_same : (a b : ℕ) → b % prime ≡ a % prime → field_sub b a ≤ 1
unfolding field_sub
step_at_same a b e = omega arith

step_at_next : (a b : ℕ) → b % prime ≡ (a + 1) % prime → field_sub b a ≤ 1
unfolding field_sub
step_at_next a b e = omega arith

pub climb_cases : (a b : ℕ) → climb a b ≡ 0 → (b % prime ≡ a % prime) ⊎ (b % prime ≡ (a + 1) % prime)
climb_cases a b e =
    let low : field_sub b a ≤ 1 = step_from_climb a b e in
    elim (cases_eq (field_sub b a) 0) [
      | inl z ↦ inl (same_from_step a b z)
      | inr nz ↦ inr (next_from_step a b (omega arith))
    ]

pub climb_from_cases : (a b : ℕ) → (b % prime ≡ a % prime) ⊎ (b % prime ≡ (a + 1) % prime) → climb a b ≡ 0
climb_from_cases a b h =
    climb_from_step a b (elim h [
      | inl e ↦ step_at_same a b e
      | inr e ↦ step_at_next a b e
    ])

-- two lists without their first items: what holds of the neighbours of the rest
rest_of : {X : Type 0} (R : X → X → Type 0) (x : X) (ys : List X) (n : ℕ) → AllAdjacentBelow R (x ∷ ys) (suc n) → AllAdjacentBelow R ys n
rest_of R x ys n h k d lt = simp add-one (simp unary_clauses at (h (suc k) d (omega arith)))

module _ {X Y : Type 0} (found : X → X → Option Y) where
  abbrev Nothing : X → X → Type 0
  Nothing x y = found x y ≡ None

  nothing_after : (x : X) (ys : List X) → AllNeighbours Nothing (x ∷ ys) → first_after found x ys ≡ None
  nothing_after x [] h = refl
  nothing_after x (y ∷ ys) h =
      let here : found x y ≡ None = h 0 x (omega arith) in
      let later : first_after found y ys ≡ None = nothing_after y ys (rest_of Nothing x (y ∷ ys) (length (y ∷ ys)) h) in
      rw (here, later) refl

  -- by the place of each item
  pub first_between-none : (xs : List X) → AllNeighbours Nothing xs → first_between found xs ≡ None
  unfolding first_between
  first_between-none [] h = refl
  first_between-none (x ∷ xs) h = nothing_after x xs h

  something_after : (i : ℕ) (x : X) (ys : List X) (z : Y) → i < length ys → AllAdjacentBelow Nothing (x ∷ ys) (i + 1) → ((d : X) → found (get_or (x ∷ ys) i d) (get_or (x ∷ ys) (i + 1) d) ≡ Some z) → first_after found x ys ≡ Some (i, z)
  something_after i x [] z lt before here = absurd (omega arith)
  something_after zero x (y ∷ ys) z lt before here =
      let e : found x y ≡ Some z = here x in
      rw e refl
  something_after (suc i) x (y ∷ ys) z lt before here =
      let none : found x y ≡ None = before 0 x (omega arith) in
      let rest : AllAdjacentBelow Nothing (y ∷ ys) (i + 1) = rest_of Nothing x (y ∷ ys) (i + 1) (simp (unary_clauses, add-one) (simp (unary_clauses, add-one) at before)) in
      let later : first_after found y ys ≡ Some (i, z) = something_after i y ys z (omega arith) rest (λ d. simp add-one (simp unary_clauses at (here d))) in
      rw (none, later) (ap (λ n. Some (n, z)) (add-one i))

  pub first_between-some : (xs : List X) (i : ℕ) (z : Y) → i + 1 < length xs → AllAdjacentBelow Nothing xs (i + 1) → ((d : X) → found (get_or xs i d) (get_or xs (i + 1) d) ≡ Some z) → first_between found xs ≡ Some (i, z)
  unfolding first_between
  first_between-some [] i z lt before here = absurd (omega arith)
  first_between-some (x ∷ xs) i z lt before here = something_after i x xs z (omega arith) before here

  -- what the answer says
  abbrev FirstFound : Option (ℕ × Y) → List X → Type 0
  FirstFound None xs = AllNeighbours Nothing xs
  FirstFound (Some p) xs = (p.0 + 1 < length xs) × AllAdjacentBelow Nothing xs (p.0 + 1) × ((d : X) → found (get_or xs p.0 d) (get_or xs (p.0 + 1) d) ≡ Some p.1)

  -- one item before
  with_first : (x y : X) (ys : List X) (n : ℕ) → found x y ≡ None → AllAdjacentBelow Nothing (y ∷ ys) n → AllAdjacentBelow Nothing (x ∷ y ∷ ys) (suc n)
  with_first x y ys n e h zero d lt = e
  with_first x y ys n e h (suc k) d lt = simp unary_clauses (simp add-one at (h k d (omega arith)))

  found_on : (r : Option Y) (later : Option (ℕ × Y)) (x y : X) (ys : List X) → found x y ≡ r → FirstFound later (y ∷ ys) → FirstFound (here_or_later r later) (x ∷ y ∷ ys)
  found_on (Some z) later x y ys e h = (omega arith, λ k d lt. absurd (omega arith), λ d. e)
  found_on None None x y ys e h = with_first x y ys (length (y ∷ ys)) e h
  found_on None (Some p) x y ys e h = (
    omega (arith, h.0),
    (let more : AllAdjacentBelow Nothing (x ∷ y ∷ ys) (suc (p.0 + 1)) = with_first x y ys (p.0 + 1) e h.1 in λ k d lt. more k d (omega arith)),
    λ d. simp (unary_clauses, add-one) (simp add-one at (h.2 d)),
  )

  found_after : (x : X) (ys : List X) → FirstFound (first_after found x ys) (x ∷ ys)
  found_after x [] = λ k d lt. absurd (omega arith)
  found_after x (y ∷ ys) = found_on (found x y) (first_after found y ys) x y ys refl (found_after y ys)

  found_between : (xs : List X) → FirstFound (first_between found xs) xs
  unfolding first_between
  found_between [] = λ k d lt. absurd (omega arith)
  found_between (x ∷ xs) = found_after x xs

  pub none_between : (xs : List X) → first_between found xs ≡ None → AllNeighbours Nothing xs
  none_between xs e = rw e at (found_between xs)

  pub some_between : (xs : List X) (i : ℕ) (z : Y) → first_between found xs ≡ Some (i, z) → FirstFound (Some (i, z)) xs
  some_between xs i z e = rw e at (found_between xs)

-- a loop over neighbours, at the two that stand at a place and behind it
module _ {X Y : Type 0} (found : X → X → Option Y) (xs : List X) (row : ℕ) (before : AllAdjacentBelow (Nothing found) xs (row + 1)) (x y : X) (within : row + 1 < length xs) (x_is : x ≡ get_or xs row x) (y_is : y ≡ get_or xs (row + 1) y) where
  between_at : (d : X) → found (get_or xs row d) (get_or xs (row + 1) d) ≡ found x y
  between_at d =
      let a : x ≡ get_or xs row d = get_or_read xs row x (omega arith) x_is d in
      let b : y ≡ get_or xs (row + 1) d = get_or_read xs (row + 1) y within y_is d in
      cc

  pub nothing_so_far : found x y ≡ None → AllAdjacentBelow (Nothing found) xs (row + 1 + 1)
  nothing_so_far none k d less =
      elim (cases_lt (k + 1) (row + 1)) [
        | inl earlier ↦ before k d earlier
        | inr later ↦
            let e : k ≡ row = omega arith in
            let here : found (get_or xs row d) (get_or xs (row + 1) d) ≡ found x y = between_at d in
            rw e (here ∙ none)
      ]

  pub something_here : (z : Y) → found x y ≡ Some z → first_between found xs ≡ Some (row, z)
  something_here z some = first_between-some found xs row z within before (λ d. between_at d ∙ some)
