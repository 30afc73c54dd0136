-- The range rows of numbers below 2^48: each has its number, cut into its three limbs.
use Rattle.std.proofs.Common.{◌≡◌, ℕ, ◌/◌, ◌%◌, ◌^◌, ◌<◌, unwrap_or, sym, subst, arith}
use Rattle.std.specs.Prelude.{All}
use Rattle.std.specs.List.{range_with_len}
use Rattle.std.proofs.lemmas.List.Elements.{All-map, All-weaker}
use Rattle.goldilocks.specs.Field.{prime}
use Rattle.casm_word.specs.Transition.{Memory}
use Rattle.range_columns.specs.declared.RangeRow.{RangeRow}
use Rattle.range_columns.specs.Limbs.{limb_limit, V1, limb_at, limb_or_first, IsSplitOf}
use Rattle.range_columns.proofs.LimbLaws.{meets_split}
use Rattle.public_input.specs.Statement.{Statement}
use Rattle.table_builder.specs.Rows.{range_address, limb_row, range_rows_of}
use Rattle.table_builder.proofs.NothingFound.{HasRange}

-- the number of a row, and its limbs
pub record IsCut (r : RangeRow) : Type 0 where
  pub below : r.value.number < 2 ^ 48
  pub split : IsSplitOf limb_limit r.value.number r
  pub meets : V1 limb_limit r

cut : (n : ℕ) → n < 2 ^ 48 → IsCut (limb_row n)
unfolding limb_row limb_at limb_or_first
cut n low =
    let r : RangeRow = limb_row n in
    let same : n % prime ≡ n = omega arith in
    let l0 : r.l0.number ≡ n % 65536 = omega arith in
    let l1 : r.l1.number ≡ n / 65536 % 65536 = omega arith in
    let l2 : r.l2.number ≡ n / 65536 / 65536 = omega arith in
    let is : IsSplitOf limb_limit n r = record { value = same; l0 = omega (arith, l0); l1 = omega (arith, l1); l2 = omega (arith, l2) } in
    record {
      below = omega arith;
      split = subst (λ v. IsSplitOf limb_limit v r) (sym same) is;
      meets = meets_split limb_limit r n (omega arith, omega arith) low is;
    }

pub all_cut : (public : Statement) (m : Memory) → All (HasRange public m) (range_with_len 0 public.range_count) → All IsCut (range_rows_of public m)
unfolding range_rows_of
all_cut public m all =
    All-map IsCut (λ i. limb_row (unwrap_or (m (range_address public i)) 0)) (range_with_len 0 public.range_count)
    (All-weaker (HasRange public m) (λ i. IsCut (limb_row (unwrap_or (m (range_address public i)) 0)))
    (λ i has. cut (unwrap_or (m (range_address public i)) 0) (subst (λ o. unwrap_or o 0 < 2 ^ 48) (sym has.1) has.2))
    (range_with_len 0 public.range_count) all)
