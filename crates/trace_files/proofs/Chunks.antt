-- The numbers of a part of the bytes.
use Rattle.std.proofs.Common.{◌≡◌, ℕ, ◌+◌, ◌<◌, ◌≤◌, ◌%◌, List, take, drop, ap, ◌∙◌}
use Rattle.std.proofs.Math.Nat.{mod-eq_of_lt}
use Rattle.goldilocks.specs.Field.{prime}
use Rattle.file_records.specs.Numbers.{number_at}
use Rattle.file_records.proofs.GoodBytes.{number_at-drop, number_at-take}

-- the number at a place of a part is the number at its place in the whole
pub number_in_chunk : (w a j p : ℕ) (bytes : List ℕ) → j + 8 ≤ w → a + j ≡ p → number_at (take w (drop a bytes)) j ≡ number_at bytes p
number_in_chunk w a j p bytes fits at =
    number_at-take w j (drop a bytes) fits ∙ (number_at-drop a j bytes ∙ ap (number_at bytes) at)

-- and its own remainder where it is one of the field
pub low_number_in_chunk : (w a j p : ℕ) (bytes : List ℕ) → j + 8 ≤ w → a + j ≡ p → number_at bytes p < prime → number_at (take w (drop a bytes)) j % prime ≡ number_at bytes p
low_number_in_chunk w a j p bytes fits at low =
    ap (λ n. n % prime) (number_in_chunk w a j p bytes fits at) ∙ mod-eq_of_lt low
