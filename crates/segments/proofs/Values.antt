-- Values by their numbers and places, and the quotient in the field.
use Rattle.std.proofs.Common.{◌≡◌, ◌≢◌, ℕ, zero, suc, ◌+◌, ◌<◌, ◌≤◌, ◌%◌, Bool, true, false, cond, nat_eq, Some, refl, sym, ◌∙◌, ap, subst, arith}
use Rattle.std.proofs.Props.{props}
use Rattle.std.proofs.Math.Nat.{mod-eq_of_lt}
use Rattle.std.proofs.lemmas.Bool.Decides.{nat_tests}
use Rattle.std.specs.Prelude.{find, unwrap_or}
use Rattle.std.specs.List.{range_with_len}
use Rattle.goldilocks.specs.declared.Felt.{Felt}
use Rattle.goldilocks.specs.Field.{prime, field_mul}
use Rattle.goldilocks.proofs.FieldLaws.{field_mul_cancel, field_mul_comm}
use Rattle.goldilocks.specs.Felts.{felt}
use Rattle.goldilocks.proofs.Pairs.{same_felt}
use Rattle.segments.specs.declared.Value.{Value}
use Rattle.segments.specs.declared.Value.TheVariants.{Num, Ptr}
use Rattle.segments.specs.Values.{number, numbers_below, field_quotient, place, same_value}

-- a number that is below p is the value of the field that it is
pub num_is_number : (x : Felt) (n : ℕ) → x.number ≡ n → Num x ≡ number n
unfolding number
num_is_number x n e =
    let same : x ≡ felt n = same_felt x (felt n) (sym (mod-eq_of_lt x.in_field) ∙ ap (λ k. k % prime) e) in
    ap (λ t. Num t) same

-- the only number of a range that passes a test is what is found there
find_only : (test : ℕ → Bool) (q low n : ℕ) → low ≤ q → q < low + n → test q ≡ true → ((k : ℕ) → k < low + n → test k ≡ true → k ≡ q) → find test (range_with_len low n) ≡ Some q
find_only test q low zero h k passes only = absurd (omega arith)
find_only test q low (suc n) h k passes only =
    elim (test low) as (λ b. test low ≡ b → cond b (Some low) (find test (range_with_len (low + 1) n)) ≡ Some q) [
      | true ↦ λ e. ap (λ t. Some t) (only low (omega arith) e)
      | false ↦ λ e.
          let apart : low ≢ q = λ f. let g : true ≡ false = sym passes ∙ (ap test (sym f) ∙ e) in cc in
          find_only test q (low + 1) n (omega arith) (omega arith) passes (λ j inside. only j (omega arith))
    ] refl

-- the same from 0 on, for a list of numbers that stays closed
found_only : (test : ℕ → Bool) (q n : ℕ) → q < n → test q ≡ true → ((k : ℕ) → k < n → test k ≡ true → k ≡ q) → unwrap_or (find test (numbers_below n)) 0 ≡ q
unfolding numbers_below
found_only test q n inside passes only =
    ap (λ o. unwrap_or o 0) (find_only test q 0 n (omega arith) (omega arith) passes (λ k below. only k (omega arith)))

-- the quotient is the number that gives the dividend when multiplied with the divisor
pub field_quotient_is : (a b q : ℕ) → a < prime → b < prime → b ≢ 0 → q < prime → field_mul q b ≡ a → field_quotient a b ≡ q
unfolding field_quotient
field_quotient_is a b q ha hb nonzero hq e =
    let whole : a % prime ≡ a = mod-eq_of_lt ha in
    let other : b % prime ≢ 0 = λ z. nonzero (sym (mod-eq_of_lt hb) ∙ z) in
    found_only (λ k. nat_eq (field_mul k b) (a % prime)) q prime hq (grind (arith, nat_tests)) (λ k inside passes.
    let f : field_mul k b ≡ a = grind (arith, nat_tests) in
    sym (mod-eq_of_lt inside) ∙ (field_mul_cancel k q b other (field_mul_comm b k ∙ (f ∙ (sym e ∙ field_mul_comm q b))) ∙ mod-eq_of_lt hq))

-- values that the test tells alike are equal
pub equal_values : (a b : Value) → same_value a b ≡ true → a ≡ b
unfolding same_value
equal_values (Num x) (Num y) e = ap (λ t. Num t) (same_felt x y (grind (arith, nat_tests)))
equal_values (Num x) (Ptr q) e = absurd (cc)
equal_values (Ptr p) (Num y) e = absurd (cc)
equal_values (Ptr p) (Ptr q) e =
    let seg : p.seg ≡ q.seg = grind (arith, nat_tests) in
    let off : p.off ≡ q.off = grind (arith, nat_tests) in
    λ i. Ptr (place (seg i) (off i))

pub same_value-refl : (a : Value) → same_value a a ≡ true
unfolding same_value
same_value-refl (Num x) = grind (arith, nat_tests)
same_value-refl (Ptr p) = grind (arith, nat_tests)
