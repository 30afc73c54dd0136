-- Limbs of 16 bits.
use Rattle.std.proofs.Common.{◌≡◌, ◌↔◌, ◌⊎◌, ℕ, suc, ◌*◌, ◌^◌, ◌<◌, ◌≤◌, inl, inr, Bool, true, false, not, List, [], ◌∷◌, length, get_or, Option, Some, None, IsNone, refl, sym, subst, ap, ◌∙◌, arith}
use Rattle.std.specs.Prelude.{All, position}
use Rattle.std.specs.List.{position_or_len}
use Rattle.std.specs.Option.{is_some}
use Rattle.std.proofs.lemmas.List.Sums.{fails_before_first}
use Rattle.std.proofs.lemmas.Bool.{cases_lt, cases_eq, lt-ltb, le-ltb, eqb-true, eq-eqb, not-false, not_from_true}
use Rattle.goldilocks.specs.Field.{field_add, field_mul}
use Rattle.range_columns.specs.declared.RangeRow.{RangeRow}
use Rattle.range_columns.specs.Limbs.{joined_limbs, V1, meets_v1, HasNarrowLimbs, limb_at, limb_or_first, IsSplitOf, IsWidth}

-- the three widths
pub width_cases : (limbs : ℕ) → IsWidth limbs → (limbs ≡ 1) ⊎ (limbs ≡ 2) ⊎ (limbs ≡ 3)
width_cases limbs w =
    elim (cases_eq limbs 1) [
      | inl one ↦ inl one
      | inr more ↦ elim (cases_eq limbs 2) [
        | inl two ↦ inr (inl two)
        | inr others ↦ inr (inr (omega (arith, w.0, w.1)))
      ]
    ]

-- what holds at one, two and three limbs holds at each width
pub at_widths : (P : ℕ → Type 0) → P 1 → P 2 → P 3 → (limbs : ℕ) → IsWidth limbs → P limbs
at_widths P one two three limbs w =
    elim (width_cases limbs w) [
      | inl e ↦ subst P (sym e) one
      | inr more ↦ elim more [
        | inl e ↦ subst P (sym e) two
        | inr e ↦ subst P (sym e) three
      ]
    ]

pub narrow_value : (limbs : ℕ) (r : RangeRow) → IsWidth limbs → V1 limbs r → HasNarrowLimbs r → r.value.number < 2 ^ (16 * limbs)
unfolding V1 joined_limbs field_add field_mul
narrow_value limbs r w e h =
    at_widths (λ n. V1 n r → r.value.number < 2 ^ (16 * n)) (λ e. omega (arith, e, h.l0)) (λ e. omega (arith, e, h.l0, h.l1)) (λ e. omega (arith, e, h.l0, h.l1, h.l2)) limbs w e

-- a limb within the width and one past it
pub limb_within : (limbs place number : ℕ) → place < limbs → limb_or_first limbs place number ≡ limb_at place number
unfolding limb_or_first
limb_within limbs place number lt = rw (lt-ltb place limbs lt) refl

pub limb_past : (limbs place number : ℕ) → limbs ≤ place → limb_or_first limbs place number ≡ limb_at 0 number
unfolding limb_or_first
limb_past limbs place number le = rw (le-ltb place limbs le) refl

pub small_limb : (limbs place number : ℕ) → limb_or_first limbs place number < 2 ^ 16
unfolding limb_at
small_limb limbs place number =
    elim (cases_lt place limbs) [
      | inl lt ↦ rw (limb_within limbs place number lt) (omega arith)
      | inr le ↦ rw (limb_past limbs place number le) (omega arith)
    ]

-- the limbs of a number below the bound come to it
pub meets_split : (limbs : ℕ) (r : RangeRow) (v : ℕ) → IsWidth limbs → v < 2 ^ (16 * limbs) → IsSplitOf limbs v r → V1 limbs r
unfolding V1 joined_limbs limb_or_first limb_at field_add field_mul
meets_split limbs r v w low is =
    at_widths (λ n. v < 2 ^ (16 * n) → IsSplitOf n v r → V1 n r)
    (λ low is. omega (arith, low, is.value, is.l0))
    (λ low is. omega (arith, low, is.value, is.l0, is.l1))
    (λ low is. omega (arith, low, is.value, is.l0, is.l1, is.l2))
    limbs w low is

pub narrow_split : (limbs : ℕ) (r : RangeRow) (v : ℕ) → IsWidth limbs → IsSplitOf limbs v r → HasNarrowLimbs r
unfolding limb_or_first limb_at
narrow_split limbs r v w is =
    at_widths (λ n. IsSplitOf n v r → HasNarrowLimbs r)
    (λ is. record { l0 = omega (arith, is.l0); l1 = omega (arith, is.l1); l2 = omega (arith, is.l2) })
    (λ is. record { l0 = omega (arith, is.l0); l1 = omega (arith, is.l1); l2 = omega (arith, is.l2) })
    (λ is. record { l0 = omega (arith, is.l0); l1 = omega (arith, is.l1); l2 = omega (arith, is.l2) })
    limbs w is

-- where no row fails
all_fail : {X : Type 0} (p : X → Bool) (xs : List X) → All (λ x. p x ≡ false) xs → position_or_len p xs ≡ length xs
all_fail p [] h = refl
all_fail p (x ∷ xs) h =
    let here : p x ≡ false = h 0 x (omega arith) in
    let later : position_or_len p xs ≡ length xs = all_fail p xs (λ k d lt. h (suc k) d (omega arith)) in
    rw here (omega arith)

abbrev Fails : ℕ → RangeRow → Bool
Fails limbs r = not (meets_v1 limbs r)

pub none_fails : (limbs : ℕ) (rows : List RangeRow) (o : Option ℕ) → o ≡ position (Fails limbs) rows → IsNone o ↔ All (V1 limbs) rows
unfolding V1 meets_v1
none_fails limbs rows o e = (
  λ none k d lt.
      let past : length rows ≤ position_or_len (Fails limbs) rows =
      elim (cases_lt (position_or_len (Fails limbs) rows) (length rows)) [
        | inl within ↦ absurd (let h : o ≡ Some (position_or_len (Fails limbs) rows) = e ∙ rw (lt-ltb (position_or_len (Fails limbs) rows) (length rows) within) refl in let j : is_some o ≡ true = ap is_some h in cc)
        | inr beyond ↦ beyond
      ] in
      eqb-true (get_or rows k d).value.number (joined_limbs limbs (get_or rows k d)) (not-false (meets_v1 limbs (get_or rows k d)) (fails_before_first (Fails limbs) rows k d (omega arith))),
  λ all.
      let none : position_or_len (Fails limbs) rows ≡ length rows = all_fail (Fails limbs) rows (λ k d lt. not_from_true (meets_v1 limbs (get_or rows k d)) (eq-eqb (get_or rows k d).value.number (joined_limbs limbs (get_or rows k d)) (all k d lt))) in
      let nothing : o ≡ None = e ∙ rw (le-ltb (position_or_len (Fails limbs) rows) (length rows) (omega arith)) refl in
      ap is_some nothing,
)
