-- The head of a tables file, as the reader goes over it.
use Rattle.std.proofs.Common.{◌≡◌, ◌≢◌, ℕ, ◌+◌, ◌<◌, ◌≤◌, min, inl, inr, List, length, ◌∙◌, set, arith, get_or-set_other, get_or-set_same, below_more}
use Rattle.std.specs.Prelude.{slice_index}
use Rattle.std.proofs.lemmas.Bool.{cases_lt}
use Rattle.table_file.specs.declared.head.Counts.{Counts}
use Rattle.table_file.specs.declared.TableFault.TheVariants.{Length}
use Rattle.table_file.specs.Faults.{count_in, count_limits, count_place, value_place, file_end, IsFirstFault}
use Rattle.table_file.specs.Parts.{HasText, HasCounts, IsHead, values_by, HasLowValues}
use Rattle.table_file.proofs.FirstFaults.{ends_early, is_followed}
use Rattle.table_file.proofs.WholeFiles.{end_of_head}

pub no_counts : (bytes : List ℕ) → HasCounts bytes 0
no_counts bytes = record { whole = λ k inside. absurd (omega arith); low = λ k inside. absurd (omega arith) }

-- one more count
pub more_counts : (bytes : List ℕ) (k : ℕ) → HasCounts bytes k → count_place k + 8 ≤ length bytes → count_in bytes k ≤ slice_index count_limits k → HasCounts bytes (k + 1)
more_counts bytes k has whole low = record { whole = below_more _ _ has.whole whole; low = below_more _ _ has.low low }

-- These are the first counts of the bytes.
abbrev pub AreCounts : List ℕ → ℕ → List ℕ → Type 0
AreCounts bytes many counts = (k : ℕ) → k < many → slice_index counts k ≡ count_in bytes k

pub one_more_count : (bytes counts : List ℕ) (k n : ℕ) → k < length counts → AreCounts bytes k counts → n ≡ count_in bytes k → AreCounts bytes (k + 1) (set counts k n)
one_more_count bytes counts k n inside are here =
    below_more _ _
    (λ j below. let apart : j ≢ k = omega arith in get_or-set_other counts k j n 0 apart ∙ are j below)
    (get_or-set_same counts k n 0 inside ∙ here)

-- bytes of another length than that of their file
pub wrong_length : (bytes : List ℕ) (c : Counts) (m : ℕ) → HasText bytes → IsHead bytes c → m ≡ min (value_place (values_by c)) (length bytes) → HasLowValues bytes m → length bytes ≢ value_place (values_by c) → IsFirstFault bytes Length
wrong_length bytes c m text head least low other =
    let ends = end_of_head bytes c head in
    elim (cases_lt (length bytes) (file_end bytes)) [
      | inl early ↦
          let all : m ≡ length bytes = omega arith in
          ends_early bytes text head.has_counts (λ k whole. low k (omega arith)) early
      | inr late ↦
          let all : m ≡ file_end bytes = omega arith in
          is_followed bytes text head.has_counts (λ k whole. low k (omega arith)) (omega arith)
    ]
