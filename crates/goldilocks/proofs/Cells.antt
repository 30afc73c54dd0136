-- What a memory of cells has are numbers of the field.
use Rattle.std.proofs.Common.{◌≡◌, ℕ, ◌<◌, ◌==◌, Bool, true, false, cond, List, [], ◌∷◌, Option, Some, option_map, subst}
use Rattle.std.specs.List.{find}
use Rattle.goldilocks.specs.declared.Pair.{Pair}
use Rattle.goldilocks.specs.Cells.{memory_of}
use Rattle.goldilocks.specs.Field.{prime}

-- the value of the first of several cells, or of one behind it
value_low : (x : Pair) (here : Bool) (later : Option Pair) (v : ℕ) → (option_map (λ (c : Pair). c.value.number) later ≡ Some v → v < prime) → option_map (λ (c : Pair). c.value.number) (cond here (Some x) later) ≡ Some v → v < prime
value_low x true later v behind is =
    let same : x.value.number ≡ v = cc in
    subst (λ n. n < prime) same x.value.in_field
value_low x false later v behind is = behind is

-- each value that the memory of some cells has is below p
pub memory_of-low : (cells : List Pair) (a v : ℕ) → memory_of cells a ≡ Some v → v < prime
unfolding memory_of
memory_of-low [] a v e = cc
memory_of-low (x ∷ cells) a v e =
    value_low x (x.addr.number == a) (find (λ (c : Pair). c.addr.number == a) cells) v (memory_of-low cells a v) e
