-- A list whose items go up by 0 or 1 modulo p, fewer than p times: how far each item stands from the first.
use Rattle.std.proofs.Common.{◌≡◌, ℕ, zero, suc, ◌+◌, ◌%◌, ◌<◌, ◌≤◌, inl, inr, List, length, get_or, sym, arith}
use Rattle.std.proofs.lemmas.Bool.{cases_eq}
use Rattle.goldilocks.specs.Field.{prime, field_sub}
use Rattle.goldilocks.proofs.FieldLaws.{field_sub_self}
use Rattle.sorted_lists.specs.Climbing.{climb, AllNeighbours}
use Rattle.sorted_lists.proofs.Neighbours.{step_from_climb}

-- one step, in numbers: `start` is the first item
distance_more : (start a b : ℕ) → start < prime → a < prime → b < prime → field_sub b a ≤ 1 → field_sub a start + 1 < prime → field_sub b start ≡ field_sub a start + field_sub b a
unfolding field_sub
distance_more start a b p q r step room = omega arith

pub from_distance : (start a : ℕ) → start < prime → a < prime → a ≡ (start + field_sub a start) % prime
unfolding field_sub
from_distance start a p q = omega arith

module _ {X : Type 0} (f : X → ℕ) (low : (x : X) → f x < prime) (xs : List X) (d : X) where
  -- the number at a place
  abbrev pub at : ℕ → ℕ
  at i = f (get_or xs i d)

  -- how far it stands from the first
  abbrev pub distance : ℕ → ℕ
  distance i = field_sub (at i) (at 0)

  pub distance-first : distance 0 ≡ 0
  distance-first = field_sub_self (at 0)

  pub number_from_distance : (i : ℕ) → at i ≡ (at 0 + distance i) % prime
  number_from_distance i = from_distance (at 0) (at i) (low (get_or xs 0 d)) (low (get_or xs i d))

  module _ (up : AllNeighbours (λ x y. climb (f x) (f y) ≡ 0) xs) (short : length xs < prime) where
    step-le : (i j : ℕ) → j ≡ i + 1 → j < length xs → field_sub (at j) (at i) ≤ 1
    step-le i j e lt =
        let next : field_sub (at (i + 1)) (at i) ≤ 1 = step_from_climb (at i) (at (i + 1)) (up i d (omega arith)) in
        rw e next

    distance-more : (i j : ℕ) → j ≡ i + 1 → j < length xs → distance i ≤ i → distance j ≡ distance i + field_sub (at j) (at i)
    distance-more i j e lt within =
        distance_more (at 0) (at i) (at j) (low (get_or xs 0 d)) (low (get_or xs i d)) (low (get_or xs j d)) (step-le i j e lt) (omega arith)

    -- fewer steps than items, so no wrap
    pub distance-le : (i : ℕ) → i < length xs → distance i ≤ i
    distance-le zero lt = omega (arith, distance-first)
    distance-le (suc i) lt =
        let before : distance i ≤ i = distance-le i (omega arith) in
        let more : distance (suc i) ≡ distance i + field_sub (at (suc i)) (at i) = distance-more i (suc i) (omega arith) lt before in
        let one : field_sub (at (suc i)) (at i) ≤ 1 = step-le i (suc i) (omega arith) lt in
        omega arith

    pub distance-next : (i j : ℕ) → j ≡ i + 1 → j < length xs → distance j ≡ distance i + field_sub (at j) (at i)
    distance-next i j e lt = distance-more i j e lt (distance-le i (omega arith))

    -- it never falls
    pub distance-ascends : (i j : ℕ) → i ≤ j → j < length xs → distance i ≤ distance j
    distance-ascends i zero le lt =
        let e : i ≡ 0 = omega arith in
        rw e (omega arith)
    distance-ascends i (suc j) le lt =
        elim (cases_eq i (suc j)) [
          | inl e ↦ rw e (omega arith)
          | inr ne ↦
              let before : distance i ≤ distance j = distance-ascends i j (omega arith) (omega arith) in
              let more : distance (suc j) ≡ distance j + field_sub (at (suc j)) (at j) = distance-next j (suc j) (omega arith) lt in
              omega arith
        ]

    -- and leaves nothing out
    pub distance-reached : (c j : ℕ) → j < length xs → c ≤ distance j → (k : ℕ) × (k ≤ j) × (distance k ≡ c)
    distance-reached c zero lt within = (0, omega arith, omega (arith, distance-first))
    distance-reached c (suc j) lt within =
        elim (cases_eq c (distance (suc j))) [
          | inl e ↦ (suc j, omega arith, sym e)
          | inr ne ↦
              let more : distance (suc j) ≡ distance j + field_sub (at (suc j)) (at j) = distance-next j (suc j) (omega arith) lt in
              let one : field_sub (at (suc j)) (at j) ≤ 1 = step-le j (suc j) (omega arith) lt in
              let r : (k : ℕ) × (k ≤ j) × (distance k ≡ c) = distance-reached c j (omega arith) (omega arith) in
              (r.0, omega arith, r.2)
        ]
