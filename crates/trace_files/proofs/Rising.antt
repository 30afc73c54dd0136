-- Pairs whose addresses rise, by what is said of each two neighbours.
use Rattle.std.proofs.Common.{◌≡◌, ◌↔◌, ℕ, ◌+◌, ◌<◌, Bool, true, false, nat_lt, List, length, get_or, refl, arith, lit<}
use Rattle.std.specs.List.{IsAllAdjacentAnswer, slice_index}
use Rattle.std.specs.List.Sorted.{IsStrictlyIncreasing}
use Rattle.std.proofs.lemmas.Bool.{false≢true}
use Rattle.std.proofs.lemmas.Bool.Decides.{nat_tests}
use Rattle.goldilocks.specs.declared.Felt.{Felt}
use Rattle.goldilocks.specs.declared.Pair.{Pair}
use Rattle.goldilocks.specs.Cells.{addresses, cell}
use Rattle.trace_files.proofs.MemoryFile.{length-addresses}
use Rattle.trace_files.proofs.MemoryLookup.{address_of_item}

abbrev pub is_below : Pair → Pair → Bool
is_below x y = nat_lt x.addr.number y.addr.number

zero_felt : Felt
zero_felt = record { number = 0; in_field = lit< tt }

zero_cell : Pair
zero_cell = cell zero_felt zero_felt

below : (a b : ℕ) → true ≡ nat_lt a b → a < b
below a b e = grind (arith, nat_tests)

not_below : (a b : ℕ) → false ≡ nat_lt a b → a < b → ⊥
not_below a b e lt = grind (arith, nat_tests)

module _ (pairs : List Pair) (k : ℕ) (within : k + 1 < length pairs) where
  address_here : slice_index (addresses pairs) k ≡ (get_or pairs k zero_cell).addr.number
  address_here = address_of_item pairs k zero_cell (omega arith)

  address_behind : slice_index (addresses pairs) (k + 1) ≡ (get_or pairs (k + 1) zero_cell).addr.number
  address_behind = address_of_item pairs (k + 1) zero_cell within

  rises_here : true ≡ is_below (get_or pairs k zero_cell) (get_or pairs (k + 1) zero_cell) → slice_index (addresses pairs) k < slice_index (addresses pairs) (k + 1)
  rises_here up = omega (arith, address_here, address_behind, below (get_or pairs k zero_cell).addr.number (get_or pairs (k + 1) zero_cell).addr.number up)

  falls_here : false ≡ is_below (get_or pairs k zero_cell) (get_or pairs (k + 1) zero_cell) → IsStrictlyIncreasing (addresses pairs) → ⊥
  falls_here down rises =
      not_below (get_or pairs k zero_cell).addr.number (get_or pairs (k + 1) zero_cell).addr.number down
      (omega (arith, address_here, address_behind, rises k (omega (arith, length-addresses pairs))))

pub rises_exactly : (pairs : List Pair) (answer : Bool) → IsAllAdjacentAnswer (λ x y b. b ≡ is_below x y) pairs answer → (answer ≡ true) ↔ IsStrictlyIncreasing (addresses pairs)
rises_exactly pairs true each = (
  (λ _ k within.
      let inside : k + 1 < length pairs = omega (arith, length-addresses pairs) in
      rises_here pairs k inside (each k zero_cell inside)),
  (λ _. refl),
)
rises_exactly pairs false once = (
  (λ never. absurd (false≢true never)),
  (λ rises. absurd (falls_here pairs once.0 once.1 (once.2 zero_cell) rises)),
)
