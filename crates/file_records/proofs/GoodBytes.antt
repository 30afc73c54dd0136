-- Bytes whose numbers are all below p, and what is read of them.
use Rattle.std.proofs.Common.{◌≡◌, ℕ, zero, suc, ◌+◌, ◌-◌, ◌*◌, ◌<◌, ◌≤◌, ◌%◌, List, length, take, drop, get_or, refl, sym, ap, ◌∙◌, subst, arith}
use Rattle.std.proofs.Common.{take-add}
use Rattle.std.proofs.Math.Nat.{mod-eq_of_lt}
use Rattle.std.proofs.lemmas.Grind.{common_steps}
use Rattle.std.proofs.lemmas.List.{drop-drop, length-drop, length-take-le, take-take, drop-take}
use Rattle.std.proofs.lemmas.Nat.{le_bytes_8, from_le_bytes-to_le_bytes_8}
use Rattle.std.specs.Int.{w64, from_le_bytes}
use Rattle.std.specs.List.{flat_map}
use Rattle.goldilocks.specs.declared.Felt.{Felt}
use Rattle.goldilocks.specs.Field.{prime}
use Rattle.goldilocks.proofs.Pairs.{same_felt}
use Rattle.file_records.specs.Numbers.{number_bytes, number_at}
use Rattle.file_records.specs.Records.{records_in, value_of_bytes}

-- each element is a byte
abbrev pub IsBytes : List ℕ → Type 0
IsBytes bytes = (i : ℕ) → get_or bytes i 0 < 256

pub IsBytes-take : (n : ℕ) (bytes : List ℕ) → IsBytes bytes → IsBytes (take n bytes)
IsBytes-take n bytes are_bytes = λ i. grind (arith, common_steps, are_bytes i)

pub IsBytes-drop : (n : ℕ) (bytes : List ℕ) → IsBytes bytes → IsBytes (drop n bytes)
IsBytes-drop n bytes are_bytes = λ i. grind (arith, common_steps, are_bytes (n + i))

-- the first m numbers of the bytes are numbers of the field
pub record IsGood (m : ℕ) (bytes : List ℕ) : Type 0 where
  pub are_bytes : IsBytes bytes
  pub low : (k : ℕ) → k < m → number_at bytes (8 * k) < prime

-- the number at a place of a part is the number at its place in the whole
pub number_at-drop : (n p : ℕ) (bytes : List ℕ) → number_at (drop n bytes) p ≡ number_at bytes (n + p)
number_at-drop n p bytes = ap (λ xs. from_le_bytes w64 (take 8 xs)) (drop-drop p n bytes)

take_inside : (n p : ℕ) (bytes : List ℕ) → p + 8 ≤ n → take 8 (drop p (take n bytes)) ≡ take 8 (drop p bytes)
take_inside n p bytes fits =
    let split : n ≡ p + (n - p) = omega arith in
    ap (λ k. take 8 (drop p (take k bytes))) split
    ∙ (ap (take 8) (drop-take p (n - p) bytes)
    ∙ take-take 8 (n - p) (drop p bytes) (omega arith))

pub number_at-take : (n p : ℕ) (bytes : List ℕ) → p + 8 ≤ n → number_at (take n bytes) p ≡ number_at bytes p
number_at-take n p bytes fits = ap (λ xs. from_le_bytes w64 xs) (take_inside n p bytes fits)

pub good_front : (a b : ℕ) (bytes : List ℕ) → IsGood (a + b) bytes → IsGood a (take (8 * a) bytes)
good_front a b bytes good = record {
  are_bytes = IsBytes-take (8 * a) bytes good.are_bytes;
  low = λ k inside. subst (λ n. n < prime) (sym (number_at-take (8 * a) (8 * k) bytes (omega arith))) (good.low k (omega arith));
}

pub good_back : (a b : ℕ) (bytes : List ℕ) → IsGood (a + b) bytes → IsGood b (drop (8 * a) bytes)
good_back a b bytes good = record {
  are_bytes = IsBytes-drop (8 * a) bytes good.are_bytes;
  low = λ k inside.
      let place : 8 * (a + k) ≡ 8 * a + 8 * k = omega arith in
      subst (λ n. n < prime) (ap (number_at bytes) place ∙ sym (number_at-drop (8 * a) (8 * k) bytes)) (good.low (a + k) (omega arith));
}

pub IsGood-fewer : (m n : ℕ) (bytes : List ℕ) → m ≡ n → IsGood m bytes → IsGood n bytes
IsGood-fewer m n bytes e good = subst (λ k. IsGood k bytes) e good

-- what is read of good bytes spells them
pub spelled_back : {X : Type 0} (m size : ℕ) (item : List ℕ → X) (spell : X → List ℕ) → size ≡ 8 * m → ((chunk : List ℕ) → length chunk ≡ size → IsGood m chunk → spell (item chunk) ≡ chunk) → (n : ℕ) (bytes : List ℕ) → size * n ≤ length bytes → IsGood (m * n) bytes → flat_map spell (records_in size item n bytes) ≡ take (size * n) bytes
unfolding records_in
spelled_back m size item spell eight reads zero bytes fits good =
    let none : size * zero ≡ 0 = omega arith in
    rw none refl
spelled_back m size item spell eight reads (suc n) bytes fits good =
    let sizes : size * suc n ≡ size + size * n = omega arith in
    let numbers : m * suc n ≡ m + m * n = omega arith in
    let split = IsGood-fewer (m * suc n) (m + m * n) bytes numbers good in
    let front : IsGood m (take size bytes) = rw eight (good_front m (m * n) bytes split) in
    let back : IsGood (m * n) (drop size bytes) = rw eight (good_back m (m * n) bytes split) in
    let here = reads (take size bytes) (length-take-le size bytes (omega arith)) front in
    let behind = spelled_back m size item spell eight reads n (drop size bytes) (omega (arith, length-drop size bytes)) back in
    rw (here, behind, sizes, take-add) refl

-- a value is read of its bytes again, and eight good bytes spell the value that is read of them
pub felt_finds : (x : Felt) → value_of_bytes (number_bytes x.number) ≡ x
unfolding value_of_bytes
felt_finds x =
    let number : from_le_bytes w64 (number_bytes x.number) ≡ x.number = from_le_bytes-to_le_bytes_8 x.number (omega (arith, x.in_field)) in
    same_felt (value_of_bytes (number_bytes x.number)) x (ap (λ n. n % prime) number ∙ mod-eq_of_lt x.in_field)

pub felt_reads : (chunk : List ℕ) → length chunk ≡ 8 → IsGood 1 chunk → number_bytes (value_of_bytes chunk).number ≡ chunk
unfolding value_of_bytes
felt_reads chunk eight good =
    let whole : take 8 chunk ≡ chunk = grind (arith, common_steps) in
    let small : from_le_bytes w64 chunk < prime = subst (λ (xs : List ℕ). from_le_bytes w64 xs < prime) whole (good.low 0 (omega arith)) in
    ap (λ n. number_bytes n) (mod-eq_of_lt small) ∙ le_bytes_8 chunk (from_le_bytes w64 chunk) eight good.are_bytes refl
