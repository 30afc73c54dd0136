-- Neighbours in a list of numbers of the field that goes up by 0 or 1 from each to the next.
use Rattle.std.specs.Prelude.{ℕ, ◌+◌, List, [], ◌∷◌, length, Option, Some, None, option_map}
use Rattle.std.specs.List.{AllAdjacentBelow}
use Rattle.goldilocks.specs.Field.{field_sub, field_mul}

-- (b - a)(b - a - 1), which is 0 exactly where b is a or the number after it, modulo p. The left side of the
-- whitepaper's equations of sorted addresses and of sorted range values.
unfoldable pub climb : ℕ → ℕ → ℕ
climb a b = field_mul (field_sub b a) (field_sub (field_sub b a) 1)

-- R holds of each item and the next. Own.
abbrev pub AllNeighbours : {X : Type 0} → (X → X → Type 0) → List X → Type 0
AllNeighbours R xs = AllAdjacentBelow R xs (length xs)

-- What is found here, at place 0, or else what is found later, one place on. Own.
abbrev pub here_or_later : {Y : Type 0} → Option Y → Option (ℕ × Y) → Option (ℕ × Y)
here_or_later (Some y) later = Some (0, y)
here_or_later None later = option_map (λ p. (p.0 + 1, p.1)) later

-- The first place where something is found between an item and the next, where x stands before the list. Own.
abbrev pub first_after : {X Y : Type 0} → (X → X → Option Y) → X → List X → Option (ℕ × Y)
first_after found x [] = None
first_after found x (y ∷ ys) = here_or_later (found x y) (first_after found y ys)

-- The first place where something is found between an item and the next, and what is found there. Own.
unfoldable pub first_between : {X Y : Type 0} → (X → X → Option Y) → List X → Option (ℕ × Y)
first_between found [] = None
first_between found (x ∷ xs) = first_after found x xs
