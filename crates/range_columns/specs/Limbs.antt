-- Range cells, each of one, two or three limbs of 16 bits.
use Rattle.std.specs.Prelude.{ℕ, ◌≡◌, ◌*◌, ◌/◌, ◌%◌, ◌^◌, ◌<◌, ◌≤◌, nat_lt, Bool, ◌==◌, if◌then◌else◌}
use Rattle.goldilocks.specs.Field.{field_add, field_mul}
use Rattle.range_columns.specs.declared.RangeRow.{RangeRow}

-- The most limbs that a range cell may have. Own.
abbrev pub limb_limit : ℕ
limb_limit = 3

-- A range cell may have so many limbs: one, two or three. Own.
abbrev pub IsWidth : ℕ → Type 0
IsWidth limbs = (1 ≤ limbs) × (limbs ≤ limb_limit)

-- The right side of V1 for cells of so many limbs: l0 for one, l0 + 2^16 l1 for two, and l0 + 2^16 l1 + 2^32 l2 for
-- three, in the field. Own.
unfoldable pub joined_limbs : ℕ → RangeRow → ℕ
joined_limbs limbs r =
    if limbs == 1 then r.l0.number
    else (if limbs == 2 then field_add r.l0.number (field_mul (2 ^ 16) r.l1.number)
    else field_add (field_add r.l0.number (field_mul (2 ^ 16) r.l1.number)) (field_mul (2 ^ 32) r.l2.number))

-- V1 for cells of so many limbs: the value is that of its limbs. Own; the whitepaper's builtin for range checks.
unfoldable pub V1 : ℕ → RangeRow → Type 0
V1 limbs r = r.value.number ≡ joined_limbs limbs r

-- Whether V1 holds for cells of so many limbs. Own.
unfoldable pub meets_v1 : ℕ → RangeRow → Bool
meets_v1 limbs r = r.value.number == joined_limbs limbs r

-- A range cell of so many limbs is below this number, since each limb has 16 bits. Own.
abbrev pub range_bound : ℕ → ℕ
range_bound limbs = 2 ^ (16 * limbs)

-- Each limb has 16 bits. Own.
pub record HasNarrowLimbs (r : RangeRow) : Type 0 where
  pub l0 : r.l0.number < 2 ^ 16
  pub l1 : r.l1.number < 2 ^ 16
  pub l2 : r.l2.number < 2 ^ 16

-- The digit of a number at a place, to the base 2^16. Own.
unfoldable pub limb_at : ℕ → ℕ → ℕ
limb_at place number = number / (2 ^ 16) ^ place % 2 ^ 16

-- The digit of a number at a place that is one of so many limbs, and at a place past them the lowest digit again. Own.
unfoldable pub limb_or_first : ℕ → ℕ → ℕ → ℕ
limb_or_first limbs place number = if nat_lt place limbs then limb_at place number else limb_at 0 number

-- The row has the number and so many of its lowest digits to the base 2^16; each limb past them has the lowest digit
-- again. Own.
pub record IsSplitOf (limbs : ℕ) (number : ℕ) (r : RangeRow) : Type 0 where
  pub value : r.value.number ≡ number
  pub l0 : r.l0.number ≡ limb_at 0 number
  pub l1 : r.l1.number ≡ limb_or_first limbs 1 number
  pub l2 : r.l2.number ≡ limb_or_first limbs 2 number
