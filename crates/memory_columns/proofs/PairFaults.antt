-- What M1 and M2 say between two neighbours.
use Rattle.std.proofs.Common.{◌≡◌, ℕ, ◌%◌, ◌<◌, ◌≤◌, ◌⊎◌, inl, inr, Option, Some, None, refl, sym, ◌∙◌, arith}
use Rattle.std.proofs.Math.Nat.{mod-eq_of_lt}
use Rattle.std.proofs.lemmas.Bool.{cases_eq, eq-eqb, ne_eqb}
use Rattle.goldilocks.specs.Field.{prime, field_sub, field_mul}
use Rattle.goldilocks.specs.declared.Pair.{Pair}
use Rattle.goldilocks.proofs.FieldLaws.{field_sub_self, field_zero_mul, field_mul_zero, zero_from_product, field_sub_below}
use Rattle.sorted_lists.proofs.Neighbours.{step_from_climb}
use Rattle.memory_columns.specs.Equations.{m1, m2, pair_fault}

-- a difference is 0 only between equals
same_from_zero : (a b : ℕ) → a < prime → b < prime → field_sub b a ≡ 0 → a ≡ b
unfolding field_sub
same_from_zero a b p q e = omega arith

zero_from_same : (a b : ℕ) → a ≡ b → field_sub b a ≡ 0
zero_from_same a b e = rw e (field_sub_self b)

minus_one : field_sub 0 1 % prime ≡ 0 → ⊥
unfolding field_sub
minus_one z = omega arith

-- M2 where the address stays
pub value_stays : (x y : Pair) → x.addr.number ≡ y.addr.number → m2 x y ≡ 0 → x.value.number ≡ y.value.number
unfolding m2
value_stays x y same e =
    let step : field_sub y.addr.number x.addr.number ≡ 0 = zero_from_same x.addr.number y.addr.number same in
    let product : field_mul (field_sub y.value.number x.value.number) (field_sub 0 1) ≡ 0 = rw step at e in
    let whole : field_sub y.value.number x.value.number % prime ≡ field_sub y.value.number x.value.number = mod-eq_of_lt (field_sub_below y.value.number x.value.number) in
    elim (zero_from_product (field_sub y.value.number x.value.number) (field_sub 0 1) product) [
      | inl z ↦ same_from_zero x.value.number y.value.number x.value.in_field y.value.in_field (sym whole ∙ z)
      | inr z ↦ absurd (minus_one z)
    ]

m2-same_value : (x y : Pair) → x.value.number ≡ y.value.number → m2 x y ≡ 0
unfolding m2
m2-same_value x y e = rw (zero_from_same x.value.number y.value.number e) (field_zero_mul (field_sub (field_sub y.addr.number x.addr.number) 1))

m2-next_address : (x y : Pair) → field_sub y.addr.number x.addr.number ≡ 1 → m2 x y ≡ 0
unfolding m2
m2-next_address x y e = rw e (rw (field_sub_self 1) (field_mul_zero (field_sub y.value.number x.value.number)))

-- M2 holds where the address stays only with the value
pub m2-from_values : (x y : Pair) → m1 x y ≡ 0 → (x.addr.number ≡ y.addr.number → x.value.number ≡ y.value.number) → m2 x y ≡ 0
unfolding m1
m2-from_values x y climbs stays =
    let low : field_sub y.addr.number x.addr.number ≤ 1 = step_from_climb x.addr.number y.addr.number climbs in
    elim (cases_eq (field_sub y.addr.number x.addr.number) 0) [
      | inl z ↦ m2-same_value x y (stays (same_from_zero x.addr.number y.addr.number x.addr.in_field y.addr.in_field z))
      | inr nz ↦ m2-next_address x y (omega arith)
    ]

-- the answers of `pair_fault`
pub fault-m1 : (x y : Pair) → (m1 x y ≡ 0 → ⊥) → pair_fault x y ≡ Some 1
unfolding pair_fault
fault-m1 x y ne = rw (ne_eqb (m1 x y) 0 ne) refl

pub fault-m2 : (x y : Pair) → m1 x y ≡ 0 → (m2 x y ≡ 0 → ⊥) → pair_fault x y ≡ Some 2
unfolding pair_fault
fault-m2 x y e ne = rw (eq-eqb (m1 x y) 0 e) (rw (ne_eqb (m2 x y) 0 ne) refl)

pub fault-none : (x y : Pair) → m1 x y ≡ 0 → m2 x y ≡ 0 → pair_fault x y ≡ None
unfolding pair_fault
fault-none x y e f = rw (eq-eqb (m1 x y) 0 e) (rw (eq-eqb (m2 x y) 0 f) refl)

pub fault-other_value : (x y : Pair) → m1 x y ≡ 0 → x.addr.number ≡ y.addr.number → (x.value.number ≡ y.value.number → ⊥) → pair_fault x y ≡ Some 2
fault-other_value x y e same ne = fault-m2 x y e (λ f. ne (value_stays x y same f))

pub fault-nothing : (x y : Pair) → m1 x y ≡ 0 → (x.addr.number ≡ y.addr.number → x.value.number ≡ y.value.number) → pair_fault x y ≡ None
fault-nothing x y e stays = fault-none x y e (m2-from_values x y e stays)

-- what they mean
abbrev pub Tells : Option ℕ → Pair → Pair → Type 0
Tells None x y = (m1 x y ≡ 0) × (m2 x y ≡ 0)
Tells (Some n) x y = ((n ≡ 1) × (m1 x y ≡ 0 → ⊥)) ⊎ ((n ≡ 2) × (m1 x y ≡ 0) × (m2 x y ≡ 0 → ⊥))

pub pair_fault_tells : (x y : Pair) → Tells (pair_fault x y) x y
pair_fault_tells x y =
    elim (cases_eq (m1 x y) 0) [
      | inl e ↦ elim (cases_eq (m2 x y) 0) [
        | inl f ↦ rw (fault-none x y e f) (e, f)
        | inr ne ↦ rw (fault-m2 x y e ne) (inr (refl, e, ne))
      ]
      | inr ne ↦ rw (fault-m1 x y ne) (inl (refl, ne))
    ]
