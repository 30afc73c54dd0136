-- The memory that sorted pairs make. "The whitepaper" is Cairo's, ePrint 2021/1063.
use Rattle.std.specs.Prelude.{ℕ, ◌≡◌, ◌-◌, ◌<◌, ◌≤◌, ◌↔◌, List, length, Some, IsSome, All, Contains, slice_get}
use Rattle.goldilocks.specs.Field.{prime, field_sub}
use Rattle.goldilocks.specs.declared.Pair.{Pair}
use Rattle.goldilocks.specs.Cells.{memory_of}
use Rattle.casm_word.specs.Transition.{Memory}

-- The memory has the value of each cell at the cell's address. Own.
unfoldable pub Holds : Memory → List Pair → Type 0
Holds m cells = All (λ x. m x.addr.number ≡ Some x.value.number) cells

-- Cells with equal addresses have equal values. Own.
unfoldable pub OneValueEach : List Pair → Type 0
OneValueEach cells = (x y : Pair) → Contains cells x → Contains cells y → x.addr.number ≡ y.addr.number → x.value.number ≡ y.value.number

-- Counting up from `low` by 1, modulo p, the address comes no later than `high`. Own.
unfoldable pub IsBetween : ℕ → ℕ → ℕ → Type 0
IsBetween low high a = (a < prime) × (field_sub a low ≤ field_sub high low)

-- The accesses are to one read-only memory, the one read off the sorted pairs. Equal addresses have equal values, and
-- the memory holds each access. It has a value exactly at the addresses from the first pair's to the last pair's. The
-- whitepaper's nondeterministic continuous read-only memory.
pub record AreOneMemory (accesses sorted : List Pair) : Type 0 where
  pub one_value : OneValueEach accesses
  pub holds : Holds (memory_of sorted) accesses
  pub between : (first last : Pair) → slice_get sorted 0 ≡ Some first → slice_get sorted (length sorted - 1) ≡ Some last →
      (a : ℕ) → IsSome (memory_of sorted a) ↔ IsBetween first.addr.number last.addr.number a
