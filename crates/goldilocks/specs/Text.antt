-- How a number of the field is written: decimal digits, or `0x` and hexadecimal digits of either case, with
-- any number of leading zeros.
use Rattle.std.specs.Prelude.{◌≡◌, ℕ, ◌<◌, ◌≤◌, Bool, ◌&&◌, ◌==◌, cond, List, ◌++◌, length, drop, slice_index, nat_lt, codes}
use Rattle.std.specs.Char.{digit_value}
use Rattle.std.specs.List.{list_all}
use Rattle.std.specs.Str.Parse.{IsNumeral, digits_value}
use Rattle.std.specs.Fmt.{decimal}
use Rattle.goldilocks.specs.Field.{prime}
use Rattle.goldilocks.specs.declared.text.TextFault.{TextFault}
use Rattle.goldilocks.specs.declared.text.TextFault.TheVariants.{Empty, BadDigit, TooLarge}

-- Whether the text begins with `0x`. Own.
abbrev pub is_marked : List ℕ → Bool
is_marked text = (slice_index text 0 == 48) && (slice_index text 1 == 120)

-- How many bytes stand before the digits. Own.
abbrev pub mark_len : List ℕ → ℕ
mark_len text = cond (is_marked text) 2 0

-- The base that the text is written in. Own.
abbrev pub base_of : List ℕ → ℕ
base_of text = cond (is_marked text) 16 10

-- The text after its mark. Own.
abbrev pub digit_bytes : List ℕ → List ℕ
digit_bytes text = drop (mark_len text) text

-- The byte at i is the first from `start` on that is no digit in the base. Own.
abbrev pub IsFirstOther : List ℕ → ℕ → ℕ → ℕ → Type 0
IsFirstOther text start base i =
    (start ≤ i)
    × (i < length text)
    × (base ≤ digit_value (slice_index text i))
    × ((k : ℕ) → start ≤ k → k < i → digit_value (slice_index text k) < base)

-- The text is a number: at least one digit, and nothing else after the mark. Own.
unfoldable pub IsNumberText : List ℕ → Type 0
IsNumberText text = IsNumeral (base_of text) (digit_bytes text)

-- Whether the text is a number: decimal digits, or hexadecimal digits after `0x`, at least one and nothing else. Own.
abbrev pub is_number_text : List ℕ → Bool
is_number_text text = nat_lt 0 (length (digit_bytes text)) && list_all (λ b. nat_lt (digit_value b) (base_of text)) (digit_bytes text)

-- The number that the digits write. Own.
unfoldable pub text_number : List ℕ → ℕ
text_number text = digits_value (base_of text) (digit_bytes text)

-- The text writes this number of the field. Own.
unfoldable pub Writes : List ℕ → ℕ → Type 0
Writes text n = IsNumberText text × (text_number text ≡ n) × (n < prime)

-- The text has no digits: it is empty, or `0x` alone. Own.
unfoldable pub HasNoDigits : List ℕ → Type 0
HasNoDigits text = length text ≤ mark_len text

-- The byte at i is the first after the mark that is no digit. Own.
unfoldable pub IsFirstBadDigit : List ℕ → ℕ → Type 0
IsFirstBadDigit text i = IsFirstOther text (mark_len text) (base_of text) i

-- The text is a number of p or more. Own.
unfoldable pub IsTooLarge : List ℕ → Type 0
IsTooLarge text = IsNumberText text × (prime ≤ text_number text)

-- A fault as text: its name, and the index of its byte where it has one. Own.
abbrev pub text_fault_text : TextFault → List ℕ
text_fault_text Empty = codes "Empty"
text_fault_text (BadDigit index) = codes "BadDigit " ++ decimal index
text_fault_text TooLarge = codes "TooLarge"
