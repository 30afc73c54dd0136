-- The order of cells, and cells as numbers.
use Rattle.std.proofs.Common.{◌≡◌, ◌↔◌, ℕ, ◌+◌, ◌<◌, ◌≤◌, inl, inr, true, false, List, get_or, ap, ◌∙◌, arith, Option, Some, None, IsSorted}
use Rattle.std.specs.Option.{option_map, unwrap_or}
use Rattle.std.specs.Ordering.{is_lt, nat_cmp, ordering_then}
use Rattle.std.specs.declared.cmp.Ordering.TheVariants.{Equal}
use Rattle.std.specs.Cmp.{IsTotalOrder}
use Rattle.std.specs.List.Sorted.{IsNonDecreasingBy}
use Rattle.std.proofs.lemmas.Bool.{cases_lt, lt-ltb}
use Rattle.std.proofs.lemmas.Cmp.{nat_cmp_total, on_total, then_total}
use Rattle.std.proofs.lemmas.List.Sorted.{IsNonDecreasingBy-from_all_adjacent}
use Rattle.goldilocks.specs.declared.Felt.{Felt}
use Rattle.goldilocks.specs.declared.Pair.{Pair}
use Rattle.goldilocks.specs.Field.{prime}
use Rattle.goldilocks.proofs.Pairs.{cmp-equal, eq-same}
use Rattle.memory_columns.specs.Equations.{pair_cmp, is_same_pair}

pub pair_total : IsTotalOrder pair_cmp
pair_total = then_total (on_total (λ (x : Pair). x.addr.number) nat_cmp_total) (on_total (λ (x : Pair). x.value.number) nat_cmp_total)

pub pair_equal : (x y : Pair) → pair_cmp x y ≡ Equal → x ≡ y
pair_equal x y e = (cmp-equal x y).0 e

pub same_pair_tells : (x y : Pair) → (is_same_pair x y ≡ true) ↔ (x ≡ y)
same_pair_tells x y = eq-same x y

-- cells in order have ascending addresses
no_lower : (a b u v : ℕ) → is_lt (ordering_then (nat_cmp b a) (nat_cmp v u)) ≡ false → a ≤ b
no_lower a b u v e =
    elim (cases_lt b a) [
      | inl lt ↦ absurd (let h = rw (lt-ltb b a lt) at e in cc)
      | inr le ↦ le
    ]

pub addresses_ascend : (xs : List Pair) → IsSorted pair_cmp xs → IsNonDecreasingBy (λ x. x.addr.number) xs
addresses_ascend xs up =
    IsNonDecreasingBy-from_all_adjacent (λ (x : Pair). x.addr.number) xs
    (λ k d lt. let x = get_or xs k d in let y = get_or xs (k + 1) d in no_lower x.addr.number y.addr.number x.value.number y.value.number (up k d (omega arith) lt))

pub address_below : (x : Pair) → x.addr.number < prime
address_below x = x.addr.in_field

-- the memory's value, or 0
pub value_or_zero : (found : Option Felt) (value zero : Felt) (cell : Option ℕ) → value ≡ unwrap_or found zero → zero.number ≡ 0 → option_map (λ x. x.number) found ≡ cell → value.number ≡ unwrap_or cell 0
value_or_zero None value zero cell e z h = rw (← h) (ap (λ (x : Felt). x.number) e ∙ z)
value_or_zero (Some x) value zero cell e z h = rw (← h) (ap (λ (x : Felt). x.number) e)
