-- The numbers between ordered items that are the key of none of them.
use Rattle.std.specs.Prelude.{ℕ, ◌+◌, ◌-◌, ◌==◌, Bool, not, List, filter}
use Rattle.std.specs.List.{range_with_len, list_any}

-- Of the `count` numbers from `low` on, those that aren't taken, ascending. Own.
unfoldable pub absent : (ℕ → Bool) → ℕ → ℕ → List ℕ
absent taken low count = filter (λ n. not (taken n)) (range_with_len low count)

-- Whether a number is the key of one of the items. Own.
abbrev pub is_taken : {X : Type 0} → (X → ℕ) → List X → ℕ → Bool
is_taken key items n = list_any (λ x. key x == n) items

-- The numbers from `low` to `high` that are no key of the items, ascending. Own.
unfoldable pub gaps_between : {X : Type 0} → (X → ℕ) → List X → ℕ → ℕ → List ℕ
gaps_between key items low high = absent (is_taken key items) low (high + 1 - low)
