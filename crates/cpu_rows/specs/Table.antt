-- Rows one after another, and the first of them with a fault.
use Rattle.std.specs.Prelude.{◌≡◌, ℕ, ◌<◌, List, [], ◌∷◌, ◌++◌, map, drop, zip, Option, Some, None, slice_get}
use Rattle.casm_word.specs.Transition.{Registers}
use Rattle.cpu_rows.specs.Columns.{Columns, state_of}
use Rattle.cpu_rows.specs.Equations.{fault}

-- The states that the rows begin in, and the last state. The whitepaper's register columns.
abbrev pub states_of : List Columns → Registers → List Registers
states_of rows last = map state_of rows ++ last ∷ []

-- Each row with its next state: that of the next row, and for the last row the last state. Own.
abbrev pub with_next : List Columns → Registers → List (Columns × Registers)
with_next rows last = zip rows (drop 1 (states_of rows last))

-- The fault of each row, where it has one. Own.
unfoldable pub faults : List Columns → Registers → List (Option ℕ)
faults rows last = map (λ p. fault p.0 p.1) (with_next rows last)

-- Row i is the first with a fault, and k is its fault. Own.
pub record IsFirstFault (rows : List Columns) (last : Registers) (i k : ℕ) : Type 0 where
  pub here : slice_get (faults rows last) i ≡ Some (Some k)
  pub before : (j : ℕ) → j < i → slice_get (faults rows last) j ≡ Some None
