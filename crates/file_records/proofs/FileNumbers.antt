-- Numbers of eight bytes in a list of bytes.
use Rattle.std.proofs.Common.{◌≡◌, ℕ, All, ◌+◌, ◌*◌, ◌/◌, ◌%◌, ◌^◌, ◌<◌, ◌≤◌, true, false, Option, Some, None, MatchOption, List, ◌++◌, length, take, drop, get_or, refl, arith}
use Rattle.std.proofs.Common.{ap, ◌∙◌, sym, subst, inl, inr}
use Rattle.std.proofs.Math.Seq.{drop-append_seam}
use Rattle.std.proofs.lemmas.Grind.{common_steps}
use Rattle.std.proofs.lemmas.Nat.{le_bytes_8, from_le_bytes-to_le_bytes_8}
use Rattle.std.proofs.lemmas.Bool.{and_parts, and_from, ltb-true, lt-ltb, both_ways, cases_lt, false_from_ne_true}
use Rattle.std.proofs.lemmas.Slice.Eq.{bytes_eq-Decides}
use Rattle.std.proofs.lemmas.List.Elements.{All-from_recursion}
use Rattle.std.specs.Int.{w64, from_le_bytes}
use Rattle.std.specs.List.{flat_map, AllByRecursion}
use Rattle.goldilocks.specs.Field.{prime}
use Rattle.file_records.specs.Numbers.{number_bytes, number_at}
use Rattle.file_records.specs.Numbers.{IsNumberAt, AreNumbersBefore, IsFirstNotField, is_number_at, first_failing_place, first_not_field}
use Rattle.file_records.proofs.Places.{FindsFirst, found, none_found, first_found}
use Rattle.file_records.proofs.Layouts.{item_there, length-spelled}

-- each element is a byte
abbrev pub IsBytes : List ℕ → Type 0
IsBytes bytes = (i : ℕ) → get_or bytes i 0 < 256

pub IsBytes-from_all : (bytes : List ℕ) → All (λ byte. byte < 256) bytes → IsBytes bytes
IsBytes-from_all bytes all = λ i. grind (arith, common_steps, all i 0)

pub IsBytes-part : (bytes : List ℕ) (n p : ℕ) → IsBytes bytes → IsBytes (take n (drop p bytes))
IsBytes-part bytes n p are_bytes = λ i. grind (arith, common_steps, are_bytes (p + i))

-- a number at a place spells the eight bytes there
pub number_reads : (bytes : List ℕ) (p : ℕ) → IsBytes bytes → p + 8 ≤ length bytes → number_bytes (number_at bytes p) ≡ take 8 (drop p bytes)
number_reads bytes p are_bytes fits =
    le_bytes_8 (take 8 (drop p bytes)) _ (grind (arith, common_steps)) (IsBytes-part bytes 8 p are_bytes) refl

-- of bytes, the number at a place is one of the field where it is below p
pub IsNumberAt-from_below : (bytes : List ℕ) (p : ℕ) → IsBytes bytes → p + 8 ≤ length bytes → number_at bytes p < prime → IsNumberAt bytes p
IsNumberAt-from_below bytes p are_bytes fits below =
    record { below = below; own = sym (number_reads bytes p are_bytes fits) }

-- a number that is spelled at a place is read there
pub number_finds : (front : List ℕ) (n : ℕ) (rest : List ℕ) (p : ℕ) → n < 2 ^ 64 → length front ≡ p → number_at (front ++ (number_bytes n ++ rest)) p ≡ n
number_finds front n rest p small at =
    let behind : drop p (front ++ (number_bytes n ++ rest)) ≡ number_bytes n ++ rest = ap (λ k. drop k (front ++ (number_bytes n ++ rest))) (sym at) ∙ drop-append_seam front (number_bytes n ++ rest) in
    ap (λ xs. from_le_bytes w64 (take 8 xs)) behind ∙ from_le_bytes-to_le_bytes_8 n small

-- the test says whether a number of the field begins at a place
IsNumberAt-from_test : (bytes : List ℕ) (p : ℕ) → is_number_at bytes p ≡ true → IsNumberAt bytes p
unfolding is_number_at
IsNumberAt-from_test bytes p holds =
    let both = and_parts _ _ holds in
    record { below = ltb-true _ _ both.0; own = (bytes_eq-Decides _ _).0 both.1 }

test-from_IsNumberAt : (bytes : List ℕ) (p : ℕ) → IsNumberAt bytes p → is_number_at bytes p ≡ true
unfolding is_number_at
test-from_IsNumberAt bytes p is = and_from _ _ (lt-ltb _ _ is.below) ((bytes_eq-Decides _ _).1 is.own)

-- one more number of the field
pub numbers_more : (bytes : List ℕ) (p : ℕ) → p % 8 ≡ 0 → AreNumbersBefore bytes p → IsNumberAt bytes p → AreNumbersBefore bytes (p + 8)
numbers_more bytes p eighth before here = λ place lower multiple.
    elim (cases_lt place p) [
      | inl earlier ↦ before place earlier multiple
      | inr not_earlier ↦ let same : p ≡ place = omega arith in subst (λ x. IsNumberAt bytes x) same here
    ]

-- numbers of the field one after another begin at every eighth byte
pub numbers_stand : (numbers : List ℕ) → AllByRecursion (λ n. n < prime) numbers → AreNumbersBefore (flat_map number_bytes numbers) (length (flat_map number_bytes numbers))
numbers_stand numbers fit = λ place lower multiple.
    let size = length-spelled 8 number_bytes (λ n. refl) numbers in
    let index : 8 * (place / 8) ≡ place = omega arith in
    let within : place / 8 < length numbers = omega arith in
    let there : take 8 (drop place (flat_map number_bytes numbers)) ≡ number_bytes (get_or numbers (place / 8) 0) = subst (λ x. take 8 (drop x (flat_map number_bytes numbers)) ≡ number_bytes (get_or numbers (place / 8) 0)) index (item_there 8 number_bytes (λ n. refl) numbers (place / 8) 0 within) in
    let small : get_or numbers (place / 8) 0 < prime = All-from_recursion (λ n. n < prime) numbers fit (place / 8) 0 within in
    let read : number_at (flat_map number_bytes numbers) place ≡ get_or numbers (place / 8) 0 = ap (λ xs. from_le_bytes w64 xs) there ∙ from_le_bytes-to_le_bytes_8 (get_or numbers (place / 8) 0) (omega (arith, small)) in
    record {
      below = omega (arith, read, small);
      own = there ∙ ap number_bytes (sym read);
    }

-- what is found is the place of the first number that is none of the field
finds_number : (bytes : List ℕ) → FindsFirst (is_number_at bytes) (λ i. 8 * i) 0 (length bytes / 8) (first_not_field bytes)
unfolding first_failing_place
finds_number bytes = found (is_number_at bytes) (λ i. 8 * i) 0 (length bytes / 8)

module _ (bytes : List ℕ) (whole : length bytes % 8 ≡ 0) where
  told_number : (o : Option ℕ) → FindsFirst (is_number_at bytes) (λ i. 8 * i) 0 (length bytes / 8) o → MatchOption o (AreNumbersBefore bytes (length bytes)) (IsFirstNotField bytes)
  told_number None all = λ place lower multiple.
      let index : 8 * (place / 8) ≡ place = omega arith in
      IsNumberAt-from_test bytes place (subst (λ x. is_number_at bytes x ≡ true) index (all (place / 8) (omega arith) (omega arith)))
  told_number (Some x) is =
      let fails : is_number_at bytes x ≡ false = subst (λ y. is_number_at bytes y ≡ false) is.1 is.2.fails in
      record {
        eighth = omega (arith, is.1);
        within = omega (arith, is.1, is.2.within);
        outside = λ number. both_ways _ fails (test-from_IsNumberAt bytes x number);
        before = λ place lower multiple.
            let index : 8 * (place / 8) ≡ place = omega arith in
            IsNumberAt-from_test bytes place (subst (λ y. is_number_at bytes y ≡ true) index (is.2.before (place / 8) (omega arith) (omega (arith, is.1))));
      }

  -- no number, or the first, is outside the field
  pub first_not_field-told : MatchOption (first_not_field bytes) (AreNumbersBefore bytes (length bytes)) (IsFirstNotField bytes)
  first_not_field-told = told_number (first_not_field bytes) (finds_number bytes)

  pub first_not_field-none : AreNumbersBefore bytes (length bytes) → first_not_field bytes ≡ None
  first_not_field-none numbers =
      none_found (is_number_at bytes) (λ i. 8 * i) 0 (length bytes / 8) (first_not_field bytes) (finds_number bytes)
      (λ j from lower. test-from_IsNumberAt bytes (8 * j) (numbers (8 * j) (omega arith) (omega arith)))

  pub first_not_field-some : (p : ℕ) → IsFirstNotField bytes p → first_not_field bytes ≡ Some p
  first_not_field-some p first =
      let index : 8 * (p / 8) ≡ p = omega (arith, first.eighth) in
      first_found (is_number_at bytes) (λ i. 8 * i) 0 (length bytes / 8) (p / 8) (first_not_field bytes) (finds_number bytes)
      (record {
        from = omega arith;
        within = omega (arith, first.within);
        fails = subst (λ x. is_number_at bytes x ≡ false) (sym index) (false_from_ne_true _ (λ holds. first.outside (IsNumberAt-from_test bytes p holds)));
        before = λ j from lower. test-from_IsNumberAt bytes (8 * j) (first.before (8 * j) (omega arith) (omega arith));
      })
      ∙ ap Some index
