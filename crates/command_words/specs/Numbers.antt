-- The numbers among the words of a call. Own.
use Rattle.std.specs.Prelude.{◌≡◌, ◌≤◌, ℕ, ◌&&◌, nat_le, Option, Some, None, if◌then◌else◌}
use Rattle.std.specs.Fmt.{decimal}
use Rattle.std.specs.Str.Parse.{digits_value}
use Rattle.std.specs.Str.{bytes_eq}
use Rattle.file_port.specs.Files.{Name}

-- A word is this number, which is from the least to the most that may be named, in decimal digits without leading
-- zeros. Own.
pub record IsNumber (least most : ℕ) (word : Name) (number : ℕ) : Type 0 where
  pub at_least : least ≤ number
  pub at_most : number ≤ most
  pub written : word ≡ decimal number

-- The number that a word is, if it is one: the only one that it can be is what its digits are worth. Own.
unfoldable pub number_in : ℕ → ℕ → Name → Option ℕ
number_in least most word =
    if bytes_eq word (decimal (digits_value 10 word)) && nat_le least (digits_value 10 word) && nat_le (digits_value 10 word) most
    then Some (digits_value 10 word) else None

-- The most workers that may be named. Own.
abbrev pub worker_limit : ℕ
worker_limit = 64
