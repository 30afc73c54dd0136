-- Numbers of the field as texts in a JSON file.
use Rattle.std.specs.Prelude.{ℕ, ◌++◌, ◌&&◌, false, List, nat_lt, if◌then◌else◌, Option, Some, None, codes}
use Rattle.std.specs.Fmt.{digits}
use Rattle.goldilocks.specs.Field.{prime}
use Rattle.goldilocks.specs.Text.{is_number_text, text_number}
use Rattle.goldilocks.specs.declared.Felt.{Felt}
use Rattle.goldilocks.specs.Felts.{felt}

-- The number of the field that a text writes, where it writes one below p. Own.
unfoldable pub felt_of_text : List ℕ → Option Felt
felt_of_text text = if (is_number_text text && nat_lt (text_number text) prime) then Some (felt (text_number text)) else None

-- The text that is written for a number of the field: `0x` and lower-case hexadecimal digits, without leading zeros. Own.
abbrev pub hex_text : Felt → List ℕ
hex_text x = codes "0x" ++ digits 16 false x.number
