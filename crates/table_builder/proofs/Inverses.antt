-- The power p - 2 of a number is its inverse, or 0 for 0.
use Rattle.std.proofs.Common.{◌≡◌, ℕ, suc, ◌%◌, ◌^◌, ◌<◌, inl, inr, sym, ap, ◌∙◌, lit<}
use Rattle.std.proofs.Math.Nat.{eq-zero-or-pos}
use Rattle.std.proofs.lemmas.Nat.{pow-mod}
use Rattle.goldilocks.specs.Field.{prime, field_mul, field_pow, HasOrder}
use Rattle.goldilocks.proofs.FieldLaws.{field_pow_below, field_pow_suc, field_mul_comm, field_mul_zero}
use Rattle.goldilocks.proofs.Powers.{pow-pow, pow_one}
use Rattle.goldilocks.proofs.Order.{HasOrder-7}
use Rattle.goldilocks.proofs.Generators.{Generates-7}
use Rattle.cpu_rows.specs.Steps.{IsInverseOrZero}
use Rattle.table_builder.specs.Rows.{inverse_or_zero}

-- a power of a number whose power q is 1
power_of_power : (g n q x : ℕ) → field_pow g n ≡ x → field_pow g q ≡ 1 → field_pow x q ≡ 1
unfolding field_pow
power_of_power g n q x made whole =
    ap (λ y. y ^ q % prime) (sym made)
    ∙ (pow-mod (g ^ n) q prime
    ∙ (ap (λ y. y % prime) (pow-pow g n q)
    ∙ pow_one prime (g ^ q) n (lit< tt) whole))

-- each number but 0 has the power p - 1 of 1
whole_power : (x : ℕ) → 0 < x → x < prime → field_pow x 18446744069414584320 ≡ 1
unfolding HasOrder
whole_power x some low =
    let made = Generates-7 x some low in
    power_of_power 7 made.0 18446744069414584320 x made.2 HasOrder-7.1

one_less : (x q : ℕ) → field_pow x (suc q) ≡ 1 → field_mul x (field_pow x q) ≡ 1
one_less x q whole = field_mul_comm x (field_pow x q) ∙ (sym (field_pow_suc x q) ∙ whole)

zero_power : (x q : ℕ) → x ≡ 0 → field_pow x (suc q) ≡ 0
zero_power x q none = field_pow_suc x q ∙ (ap (field_mul (field_pow x q)) none ∙ field_mul_zero (field_pow x q))

pub IsInverseOrZero-power : (x : ℕ) → x < prime → IsInverseOrZero x (inverse_or_zero x)
unfolding IsInverseOrZero inverse_or_zero
IsInverseOrZero-power x low = (
  field_pow_below x 18446744069414584319,
  elim (eq-zero-or-pos x) [
    | inl none ↦ inr (none, zero_power x 18446744069414584318 none)
    | inr some ↦ inl (one_less x 18446744069414584319 (whole_power x some low))
  ],
)
