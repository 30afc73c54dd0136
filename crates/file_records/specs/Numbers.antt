-- Numbers in files. Own.
use Rattle.std.specs.Prelude.{◌≡◌, ℕ, ◌*◌, ◌/◌, ◌%◌, ◌<◌, Bool, not, ◌&&◌, nat_lt, List, length, map, take, drop, Option}
use Rattle.std.specs.Int.{w64, to_le_bytes, from_le_bytes}
use Rattle.std.specs.List.{flat_map, find, range_with_len}
use Rattle.std.specs.Str.{bytes_eq}
use Rattle.goldilocks.specs.Field.{prime}

-- A number as it stands in a file: eight bytes, the lowest first. Own.
abbrev pub number_bytes : ℕ → List ℕ
number_bytes n = to_le_bytes w64 n

-- The number whose eight bytes begin at a place. Own.
abbrev pub number_at : List ℕ → ℕ → ℕ
number_at bytes place = from_le_bytes w64 (take 8 (drop place bytes))

-- Numbers as they stand in a file, one after another. Own.
abbrev pub numbers_bytes : List ℕ → List ℕ
numbers_bytes ns = flat_map number_bytes ns

-- A number of the field begins at a place: it is below p, and the eight bytes there are its own. A list of bytes is
-- one of whole numbers here. Where each is below 256, the second holds wherever there are eight (`number_laws`). Own.
pub record IsNumberAt (bytes : List ℕ) (place : ℕ) : Type 0 where
  pub below : number_at bytes place < prime
  pub own : take 8 (drop place bytes) ≡ number_bytes (number_at bytes place)

-- A number of the field begins at every eighth byte before a place. Own.
abbrev pub AreNumbersBefore : List ℕ → ℕ → Type 0
AreNumbersBefore bytes end = (place : ℕ) → place < end → place % 8 ≡ 0 → IsNumberAt bytes place

-- Numbers begin at every eighth byte, and the one at this place is the first that is none of the field. Own.
pub record IsFirstNotField (bytes : List ℕ) (place : ℕ) : Type 0 where
  pub eighth : place % 8 ≡ 0
  pub within : place < length bytes
  pub outside : IsNumberAt bytes place → ⊥
  pub before : AreNumbersBefore bytes place

-- Whether a number of the field begins at a place, as a test. Own.
unfoldable pub is_number_at : List ℕ → ℕ → Bool
is_number_at bytes place = nat_lt (number_at bytes place) prime && bytes_eq (take 8 (drop place bytes)) (number_bytes (number_at bytes place))

-- The first place, of those at every w-th byte, that doesn't pass a test. Own.
unfoldable pub first_failing_place : ℕ → (ℕ → Bool) → List ℕ → Option ℕ
first_failing_place w test bytes = find (λ place. not (test place)) (map (λ i. w * i) (range_with_len 0 (length bytes / w)))

-- The place of the first number, at every eighth byte, that is none of the field. Own.
abbrev pub first_not_field : List ℕ → Option ℕ
first_not_field bytes = first_failing_place 8 (is_number_at bytes) bytes
