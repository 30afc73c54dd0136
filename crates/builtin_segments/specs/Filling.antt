-- How the execution segment is filled at the start. Only the code that does it speaks of it.
use Rattle.std.specs.Prelude.{◌≡◌, ℕ, ◌+◌, ◌^◌, ◌<◌, ◌≤◌, List, map, length, sum}
use Rattle.std.specs.List.{range_with_len}
use Rattle.casm_word.specs.Length.{program_word_limit}
use Rattle.segments.specs.declared.Value.{Value}
use Rattle.segments.specs.declared.Value.TheVariants.{Num, Ptr}
use Rattle.segments.specs.Values.{place}
use Rattle.segments.specs.Memory.{RunMemory, IsMemory, size}
use Rattle.builtin_segments.specs.Layout.{execution}

-- The most cells of a start stack: two, and one for each of two builtins. Own.
abbrev pub stack_limit : ℕ
stack_limit = 4

-- So many cells of the execution segment are filled, and the other segments have no more cells than a program may. Own.
pub record IsFilled (m : RunMemory) (count : ℕ) : Type 0 where
  pub memory : IsMemory m
  pub there : execution < length m.sizes
  pub filled : size m execution ≡ count
  pub few : sum m.sizes ≤ program_word_limit + count

-- The value can be held where there are so many segments: a pointer's segment is one of them. Own.
abbrev pub IsNamed : ℕ → Value → Type 0
IsNamed count (Num x) = Unit {0}
IsNamed count (Ptr p) = (p.seg < count) × (p.off < 2 ^ 32)

-- Pointers to the first cells of so many segments from one on. Own.
abbrev pub base_pointers : ℕ → ℕ → List Value
base_pointers first count = map (λ seg. Ptr (place seg 0)) (range_with_len first count)
