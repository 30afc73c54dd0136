-- A reading as the list of its faults, line by line: each line gives a value or the first fault.
use Rattle.std.specs.Prelude.{List, [], ◌∷◌, ◌++◌, Bool, true, false, Option, ok_or, Result, Ok, Err, ⊤}

-- First the one, then what follows with its value; the first fault of the two is the answer. Own.
infixl 10 ◌>>=◌
abbrev pub ◌>>=◌ : {A B F : Type 0} → Result A F → (A → Result B F) → Result B F
Ok a >>= f = f a
Err e >>= f = Err e

-- The value, or the fault where there is none. Own.
abbrev pub needed : {A F : Type 0} → F → Option A → Result A F
needed fault found = ok_or found fault

-- The fault, unless the test holds. Own.
abbrev pub demand : {F : Type 0} → F → Bool → Result ⊤ F
demand fault true = Ok tt
demand fault false = Err fault

-- The entries one after another, each read with what those before it gave: all that they give, or the first fault. Own.
unfoldable pub in_turn : {A B F : Type 0} → (List B → A → Result B F) → List B → List A → Result (List B) F
in_turn step before [] = Ok before
in_turn step before (d ∷ ds) = step before d >>= λ b. in_turn step (before ++ b ∷ []) ds
