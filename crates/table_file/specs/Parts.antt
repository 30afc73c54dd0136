-- What the parts of the reader say of the bytes. Only private contracts cite these.
use Rattle.std.specs.Prelude.{ℕ, ◌≡◌, ◌+◌, ◌<◌, ◌≤◌, List, [], ◌∷◌, length, slice_index}
use Rattle.goldilocks.specs.Field.{prime}
use Rattle.file_records.specs.Numbers.{number_at}
use Rattle.memory_columns.specs.Filling.{filler_limit}
use Rattle.table_file.specs.declared.head.Counts.{Counts}
use Rattle.table_file.specs.Spelling.{magic}
use Rattle.table_file.specs.Tables.{row_limit, range_row_limit, pair_limit, range_filler_limit}
use Rattle.table_file.specs.Faults.{count_in, count_limits, count_place, value_count, value_place, file_end}

-- Those of the first eight bytes that are there are the file's text. Own.
abbrev pub HasText : List ℕ → Type 0
HasText bytes = (i : ℕ) → i < 8 → i < length bytes → slice_index bytes i ≡ slice_index magic i

-- The first counts are there as a whole, and none is above its limit. Own.
pub record HasCounts (bytes : List ℕ) (many : ℕ) : Type 0 where
  pub whole : (k : ℕ) → k < many → count_place k + 8 ≤ length bytes
  pub low : (k : ℕ) → k < many → count_in bytes k ≤ slice_index count_limits k

-- The counts are those of the bytes. Own.
pub record IsHead (bytes : List ℕ) (c : Counts) : Type 0 where
  pub rows : c.rows ≡ count_in bytes 0
  pub range : c.range ≡ count_in bytes 1
  pub fillers : c.fillers ≡ count_in bytes 2
  pub pairs : c.pairs ≡ count_in bytes 3
  pub range_fillers : c.range_fillers ≡ count_in bytes 4
  pub has_counts : HasCounts bytes 5

-- No count is above its limit. Own.
pub record AreLow (c : Counts) : Type 0 where
  pub rows : c.rows ≤ row_limit
  pub range : c.range ≤ range_row_limit
  pub fillers : c.fillers ≤ filler_limit
  pub pairs : c.pairs ≤ pair_limit
  pub range_fillers : c.range_fillers ≤ range_filler_limit

-- The counts in their order. Own.
abbrev pub counts_of : Counts → List ℕ
counts_of c = c.rows ∷ c.range ∷ c.fillers ∷ c.pairs ∷ c.range_fillers ∷ []

-- How many values the counts ask for. Own.
abbrev pub values_by : Counts → ℕ
values_by c = value_count c.rows c.range c.fillers c.pairs c.range_fillers

-- Each value that is whole before a place is below p. Own.
abbrev pub HasLowValues : List ℕ → ℕ → Type 0
HasLowValues bytes end = (k : ℕ) → value_place k + 8 ≤ end → number_at bytes (value_place k) < prime

-- The first value, of those that are whole before a place, that is p or more. Own.
pub record IsFirstHighValue (bytes : List ℕ) (end place : ℕ) : Type 0 where
  pub k : ℕ
  pub begins : place ≡ value_place k
  pub whole : place + 8 ≤ end
  pub above : prime ≤ number_at bytes place
  pub before : (j : ℕ) → j < k → number_at bytes (value_place j) < prime

-- The bytes are a whole file of these counts, whose values are all below p. Own.
pub record IsWholeFile (bytes : List ℕ) (c : Counts) : Type 0 where
  pub text : HasText bytes
  pub head : IsHead bytes c
  pub ends : length bytes ≡ file_end bytes
  pub low : HasLowValues bytes (length bytes)
