-- The faults of bytes that are no tables file, and which of them comes first.
use Rattle.std.specs.Prelude.{ℕ, ◌≡◌, ◌≢◌, ◌⊎◌, ◌+◌, ◌-◌, ◌*◌, ◌/◌, ◌%◌, ◌<◌, ◌≤◌, min, Bool, not, ◌&&◌, ◌==◌, nat_lt, nat_le, List, [], ◌∷◌, length, slice_index, slice_get, Option, Some, None, if◌then◌else◌}
use Rattle.std.specs.List.{filter_map, range_with_len}
use Rattle.goldilocks.specs.Field.{prime}
use Rattle.file_records.specs.Numbers.{number_at}
use Rattle.memory_columns.specs.Filling.{filler_limit}
use Rattle.table_file.specs.declared.TableFault.{TableFault}
use Rattle.table_file.specs.declared.TableFault.TheVariants.{Magic, TooMany, NotField, Length, Memory}
use Rattle.table_file.specs.Spelling.{magic}
use Rattle.table_file.specs.Tables.{row_limit, range_row_limit, pair_limit, range_filler_limit}

-- The limits of the counts, in their order. Own.
abbrev pub count_limits : List ℕ
count_limits = row_limit ∷ range_row_limit ∷ filler_limit ∷ pair_limit ∷ range_filler_limit ∷ []

-- Where count k begins; k counts from 0. Own.
abbrev pub count_place : ℕ → ℕ
count_place k = 8 + 8 * k

-- Where value k begins; k counts from 0. Own.
abbrev pub value_place : ℕ → ℕ
value_place k = 48 + 8 * k

-- The count k of a file. Own.
abbrev pub count_in : List ℕ → ℕ → ℕ
count_in bytes k = number_at bytes (count_place k)

-- How many values there are by these counts. Own.
abbrev pub value_count : (rows range fillers pairs range_fillers : ℕ) → ℕ
value_count rows range fillers pairs range_fillers =
    33 * rows + 3 + 4 * range + 2 * fillers + 2 * pairs + range_fillers + (3 * rows + 3 * range + range_fillers)

-- Where a file ends by its counts: after its last value. Where a count is missing this is above the length, too. Own.
unfoldable pub file_end : List ℕ → ℕ
file_end bytes =
    value_place (value_count (count_in bytes 0) (count_in bytes 1) (count_in bytes 2) (count_in bytes 3) (count_in bytes 4))

-- A byte of the file's text is there, and is another one. Own.
pub record IsOtherByte (bytes : List ℕ) (place : ℕ) : Type 0 where
  pub in_text : place < 8
  pub there : place < length bytes
  pub other : slice_index bytes place ≢ slice_index magic place

-- A count is there as a whole, and is above its limit. Own.
pub record IsHighCount (bytes : List ℕ) (place : ℕ) : Type 0 where
  pub k : ℕ
  pub is_count : k < 5
  pub begins : place ≡ count_place k
  pub whole : place + 8 ≤ length bytes
  pub above : slice_index count_limits k < number_at bytes place

-- A value of the file is there as a whole, and is p or more. Own.
pub record IsHighValue (bytes : List ℕ) (place : ℕ) : Type 0 where
  pub k : ℕ
  pub begins : place ≡ value_place k
  pub in_file : place < file_end bytes
  pub whole : place + 8 ≤ length bytes
  pub above : prime ≤ number_at bytes place

-- The bytes end here, and the file would end further on. Own.
pub record EndsEarly (bytes : List ℕ) (place : ℕ) : Type 0 where
  pub ends : place ≡ length bytes
  pub early : length bytes < file_end bytes

-- The file ends here by its counts, and a byte follows. Own.
pub record IsFollowed (bytes : List ℕ) (place : ℕ) : Type 0 where
  pub ends : place ≡ file_end bytes
  pub followed : file_end bytes < length bytes

-- The bytes have this fault at this place. Want of memory is no fault of theirs. Own.
unfoldable pub HasFault : List ℕ → ℕ → TableFault → Type 0
HasFault bytes place Magic = IsOtherByte bytes place
HasFault bytes place TooMany = IsHighCount bytes place
HasFault bytes place (NotField named) = (named ≡ place) × IsHighValue bytes place
HasFault bytes place Length = EndsEarly bytes place ⊎ IsFollowed bytes place
HasFault bytes place Memory = ⊥

-- The fault is the first from the front: the bytes have it at a place, and none at a lesser place. Own.
pub record IsFirstFault (bytes : List ℕ) (fault : TableFault) : Type 0 where
  pub place : ℕ
  pub here : HasFault bytes place fault
  pub first : (other : ℕ) (f : TableFault) → HasFault bytes other f → place ≤ other

-- ---- the same as a test at each place

-- Whether a byte of the file's text is there, and is another one. Own.
unfoldable pub is_other_byte : List ℕ → ℕ → Bool
is_other_byte bytes place = nat_lt place 8 && nat_lt place (length bytes) && not (slice_index bytes place == slice_index magic place)

-- Whether a count is there as a whole, and is above its limit. Own.
unfoldable pub is_high_count : List ℕ → ℕ → Bool
is_high_count bytes place =
    nat_le 8 place && nat_lt place 48 && (place % 8 == 0) && nat_le (place + 8) (length bytes)
    && nat_lt (slice_index count_limits ((place - 8) / 8)) (number_at bytes place)

-- Whether a value of the file is there as a whole, and is p or more. Own.
unfoldable pub is_high_value : List ℕ → ℕ → Bool
is_high_value bytes place =
    nat_le 48 place && nat_lt place (file_end bytes) && (place % 8 == 0) && nat_le (place + 8) (length bytes)
    && nat_le prime (number_at bytes place)

-- Whether the bytes end early here, or the file ends here and a byte follows. Own.
unfoldable pub is_wrong_end : List ℕ → ℕ → Bool
is_wrong_end bytes place = (place == min (length bytes) (file_end bytes)) && not (length bytes == file_end bytes)

-- The fault that the bytes have at a place, where they have one. Own.
unfoldable pub fault_at : List ℕ → ℕ → Option TableFault
fault_at bytes place =
    if is_other_byte bytes place then Some Magic else
    (if is_high_count bytes place then Some TooMany else
    (if is_high_value bytes place then Some (NotField place) else
    (if is_wrong_end bytes place then Some Length else None)))

-- The first fault of the bytes, where they have one: of those at all places from 0 to the length. Own.
unfoldable pub first_fault : List ℕ → Option TableFault
first_fault bytes = slice_get (filter_map (fault_at bytes) (range_with_len 0 (length bytes + 1))) 0
