-- How long bytes are that spell tables.
use Rattle.std.proofs.Common.{◌≡◌, ℕ, ◌<◌, ◌≤◌, List, length, refl, arith, inl, inr}
use Rattle.std.specs.Prelude.{slice_index}
use Rattle.std.proofs.lemmas.Bool.{cases_lt}
use Rattle.table_file.specs.declared.TableFault.TheVariants.{TooMany, Length}
use Rattle.table_file.specs.Tables.{Contents}
use Rattle.table_file.specs.Spelling.{SpellsTables}
use Rattle.table_file.specs.Faults.{count_limits, count_place, count_in, file_end, HasFault}
use Rattle.table_file.specs.Limits.{tables_limit}
use Rattle.table_file.proofs.FirstFaults.{file_end_least}
use Rattle.table_file.proofs.Spellings.{no_fault}

module _ (bytes : List ℕ) (t : Contents) (spells : SpellsTables bytes t) where
  right_end : length bytes ≡ file_end bytes
  unfolding HasFault
  right_end =
      let none = no_fault bytes t spells in
      elim (cases_lt (length bytes) (file_end bytes)) [
        | inl early ↦ absurd (none (length bytes) Length (inl (record { ends = refl; early = early })))
        | inr late ↦ elim (cases_lt (file_end bytes) (length bytes)) [
          | inl followed ↦ absurd (none (file_end bytes) Length (inr (record { ends = refl; followed = followed })))
          | inr same ↦ omega arith
        ]
      ]

  low_count : (k : ℕ) → k < 5 → count_in bytes k ≤ slice_index count_limits k
  unfolding HasFault
  low_count k few =
      elim (cases_lt (slice_index count_limits k) (count_in bytes k)) [
        | inl above ↦ absurd (no_fault bytes t spells (count_place k) TooMany (record { k = k; is_count = few; begins = refl; whole = omega (arith, right_end, file_end_least bytes); above = above }))
        | inr low ↦ low
      ]

  -- bytes that spell tables are within the limit of a tables file
  pub length-spelled_tables : length bytes ≤ tables_limit
  unfolding file_end
  length-spelled_tables =
      let end = right_end in
      let rows = low_count 0 (omega arith) in
      let range = low_count 1 (omega arith) in
      let fillers = low_count 2 (omega arith) in
      let pairs = low_count 3 (omega arith) in
      let range_fillers = low_count 4 (omega arith) in
      omega arith
