-- The first place where two lists differ.
use Rattle.std.specs.Prelude.{ℕ, Bool, not, ◌==◌, min, List, length, Option, Some, None, position, if◌then◌else◌}
use Rattle.std.specs.List.{zip}
use Rattle.std.specs.Option.{option_or}

-- Where the shorter of two lists ends; none where both are as long. Own.
unfoldable pub shorter_end : {X : Type 0} → List X → List X → Option ℕ
shorter_end xs ys = if length xs == length ys then None else Some (min (length xs) (length ys))

-- The first place where two lists differ, or else the length of the shorter one; none where they are one list. Own.
unfoldable pub list_difference : {X : Type 0} → (X → X → Bool) → List X → List X → Option ℕ
list_difference same xs ys = option_or (position (λ p. not (same p.0 p.1)) (zip xs ys)) (shorter_end xs ys)
