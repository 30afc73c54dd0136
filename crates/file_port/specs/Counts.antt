-- Counts that never fall and stay at the last value of 64 bits. The whitepaper speaks of no files; all of
-- this is the project's own.
use Rattle.std.specs.Prelude.{◌≡◌, ℕ, ◌+◌, ◌-◌, ◌^◌, ◌≤◌, ◌<◌, ◌⊎◌, min, max}

-- The last value of a count, at which it stays. Own.
abbrev pub last_count : ℕ
last_count = 2 ^ 64 - 1

-- The count rose: it is greater than before, or stands at its last value. Own.
abbrev pub Rose : ℕ → ℕ → Type 0
Rose before now = (before < now) ⊎ (now ≡ last_count)

-- A count of the calls where P holds: it never falls, it rises where P holds, and else it stays. Own.
pub record Counts (before now : ℕ) (P : Type 0) : Type 0 where
  pub later : before ≤ now
  pub rose : P → Rose before now
  pub kept : (P → ⊥) → now ≡ before

-- The count of bytes after n more: the sum, or the last value where the sum is greater. A count above the last
-- value would stay, but no count of a program is. Own.
abbrev pub given_after : ℕ → ℕ → ℕ
given_after old n = max old (min (old + n) last_count)
