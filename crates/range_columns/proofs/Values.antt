-- The order of values.
use Rattle.std.proofs.Common.{◌≡◌, ◌↔◌, ℕ, ◌<◌, inl, inr, true, List, ap, IsSorted}
use Rattle.std.specs.Ordering.{nat_cmp}
use Rattle.std.specs.declared.cmp.Ordering.TheVariants.{Equal}
use Rattle.std.specs.Cmp.{IsTotalOrder}
use Rattle.std.specs.List.Sorted.{IsNonDecreasingBy}
use Rattle.std.proofs.lemmas.Bool.{cases_lt, cases_eq, lt-ltb, le-ltb, eq-eqb, ne_eqb, eqb-true}
use Rattle.std.proofs.lemmas.Cmp.{nat_cmp_total, on_total}
use Rattle.std.proofs.lemmas.List.Sorted.{IsNonDecreasingBy-from_sort}
use Rattle.goldilocks.specs.declared.Felt.{Felt}
use Rattle.goldilocks.specs.Field.{prime}
use Rattle.goldilocks.proofs.Pairs.{same_felt}
use Rattle.range_columns.specs.Equations.{felt_cmp, is_same_felt}

pub felt_total : IsTotalOrder felt_cmp
felt_total = on_total (λ (x : Felt). x.number) nat_cmp_total

same_number : (a b : ℕ) → nat_cmp a b ≡ Equal → a ≡ b
same_number a b e =
    elim (cases_lt a b) [
      | inl lt ↦ absurd (let h = rw (lt-ltb a b lt) at e in cc)
      | inr le ↦ elim (cases_eq a b) [
        | inl same ↦ same
        | inr ne ↦ absurd (let h = rw (le-ltb a b le, ne_eqb a b ne) at e in cc)
      ]
    ]

pub felt_equal : (x y : Felt) → felt_cmp x y ≡ Equal → x ≡ y
felt_equal x y e = same_felt x y (same_number x.number y.number e)

pub same_felt_tells : (x y : Felt) → (is_same_felt x y ≡ true) ↔ (x ≡ y)
same_felt_tells x y = (λ e. same_felt x y (eqb-true x.number y.number e), λ e. eq-eqb x.number y.number (ap (λ (z : Felt). z.number) e))

pub numbers_ascend : (xs : List Felt) → IsSorted felt_cmp xs → IsNonDecreasingBy (λ x. x.number) xs
numbers_ascend xs up = IsNonDecreasingBy-from_sort (λ (x : Felt). x.number) xs up

pub number_below : (x : Felt) → x.number < prime
number_below x = x.in_field
