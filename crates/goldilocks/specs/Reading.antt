-- What the private parts of reading a text speak of. No public contract cites it.
use Rattle.std.specs.Prelude.{◌≡◌, ℕ, ◌≤◌, List, length, drop, Result, Ok, Err}
use Rattle.std.specs.Str.Parse.{IsNumeral, digits_value}
use Rattle.goldilocks.specs.declared.Felt.{Felt}
use Rattle.goldilocks.specs.declared.text.TextFault.{TextFault}
use Rattle.goldilocks.specs.declared.text.TextFault.TheVariants.{Empty, BadDigit, TooLarge}
use Rattle.goldilocks.specs.Field.{prime}
use Rattle.goldilocks.specs.Text.{IsFirstOther}

-- What reading the digits from a place on, in a base, may answer: the number, or the fault that there is. Own.
abbrev pub IsAnswer : List ℕ → ℕ → ℕ → Result Felt TextFault → Type 0
IsAnswer text start base (Ok value) = IsNumeral base (drop start text) × (digits_value base (drop start text) ≡ value.number)
IsAnswer text start base (Err Empty) = length text ≤ start
IsAnswer text start base (Err (BadDigit i)) = IsFirstOther text start base i
IsAnswer text start base (Err TooLarge) = IsNumeral base (drop start text) × (prime ≤ digits_value base (drop start text))
