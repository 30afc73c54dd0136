-- Tables files: which bytes spell which tables.
use Rattle.std.specs.Prelude.{ℕ, ◌≡◌, List, [], ◌∷◌, ◌++◌, length, All, codes}
use Rattle.std.specs.List.{flat_map}
use Rattle.goldilocks.specs.Felts.{numbers}
use Rattle.file_records.specs.Numbers.{numbers_bytes}
use Rattle.file_records.specs.Records.{row_values, state_values, range_row_values, pair_values}
use Rattle.table_file.specs.Tables.{Contents, AreValid}

-- The text that a tables file begins with. Own.
abbrev pub magic : List ℕ
magic = codes "CAIROGT1"

-- The counts: of rows, range rows, memory fillers, sorted pairs and range fillers. Own.
abbrev pub counts : Contents → List ℕ
counts t = length t.rows ∷ length t.range ∷ length t.fillers ∷ length t.pairs ∷ length t.range_fillers ∷ []

-- All values, list after list: the rows, the last state, the range rows, the memory fillers, the sorted pairs, the
-- range fillers and the sorted range values. Own.
unfoldable pub all_values : Contents → List ℕ
all_values t =
    flat_map row_values t.rows
    ++ (state_values t.last
    ++ (flat_map range_row_values t.range
    ++ (flat_map pair_values t.fillers
    ++ (flat_map pair_values t.pairs
    ++ (numbers t.range_fillers
    ++ numbers t.sorted_range)))))

-- The bytes of a tables file: its text, the counts and the values. Own.
unfoldable pub spelling : Contents → List ℕ
spelling t = magic ++ (numbers_bytes (counts t) ++ numbers_bytes (all_values t))

-- The bytes spell these tables: they are those of the tables, and nothing follows. The tables are within the limits of a
-- file, and each row has its sixteen values of tilde, as the code's rows do. Own.
pub record SpellsTables (bytes : List ℕ) (t : Contents) : Type 0 where
  pub parts : bytes ≡ spelling t
  pub valid : AreValid t
  pub sixteen : All (λ r. length r.tilde ≡ 16) t.rows
