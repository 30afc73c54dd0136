-- Values of the field, and the whole numbers that they are.
use Rattle.std.specs.Prelude.{ℕ, ◌%◌, List, map}
use Rattle.std.proofs.Common.{lit<}
use Rattle.std.proofs.lemmas.Nat.{mod_below}
use Rattle.goldilocks.specs.Field.{prime}
use Rattle.goldilocks.specs.declared.Felt.{Felt}

-- The value that a whole number is modulo p. Own.
abbrev pub felt : ℕ → Felt
felt n = record { number = n % prime; in_field = mod_below n prime (lit< tt) }

-- The number of each value in a list. Own.
abbrev pub numbers : List Felt → List ℕ
numbers xs = map (λ x. x.number) xs
