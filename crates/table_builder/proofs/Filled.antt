-- The columns of the memory and of the small values, with their fillers, have no fault.
use Rattle.std.proofs.Common.{◌≡◌, ℕ, zero, suc, ◌+◌, ◌-◌, ◌^◌, ◌<◌, ◌≤◌, not, filter, List, [], ◌∷◌, ◌++◌, map, length, get_or, unwrap_or, Option, Some, None, refl, sym, ap₂, subst, arith, lit<}
use Rattle.std.specs.Prelude.{All, Any}
use Rattle.std.specs.List.{range_with_len}
use Rattle.std.proofs.Math.Nat.{mod-eq_of_lt}
use Rattle.std.proofs.lemmas.List.{length-map, get_or-map}
use Rattle.std.proofs.lemmas.List.Elements.{All-filter, All-head, All-tail, All-weaker}
use Rattle.std.proofs.lemmas.List.FromFn.{length-range_with_len, get_or-range_with_len}
use Rattle.goldilocks.specs.Field.{prime}
use Rattle.goldilocks.specs.declared.Felt.{Felt}
use Rattle.goldilocks.specs.declared.Pair.{Pair}
use Rattle.goldilocks.specs.Felts.{felt, numbers}
use Rattle.casm_word.specs.Transition.{Memory}
use Rattle.sorted_lists.specs.Order.{in_order}
use Rattle.sorted_lists.specs.Gaps.{is_taken, gaps_between, absent}
use Rattle.sorted_lists.proofs.Absent.{length-gaps-le}
use Rattle.memory_columns.specs.Equations.{pair_cmp, first_memory_fault}
use Rattle.memory_columns.specs.OneMemory.{OneValueEach}
use Rattle.memory_columns.specs.Filling.{Spans, unaccessed, numbers_of, filler_at}
use Rattle.memory_columns.proofs.Fillings.{no_fault as no_memory_fault}
use Rattle.range_columns.specs.Equations.{felt_cmp, first_range_fault, IsWithin}
use Rattle.range_columns.specs.Filling.{absent_values}
use Rattle.range_columns.proofs.Fillings.{no_fault as no_range_fault}
use Rattle.goldilocks.specs.Cells.{cell, addresses}
use Rattle.table_builder.specs.Columns.{least_of, greatest_of, free_addresses, cells_at}
use Rattle.table_builder.proofs.LeastGreatest.{any-here, any-later, least-reached, least-bounds, greatest-reached, greatest-bounds}
use Rattle.table_builder.proofs.AsRows.{numbers-felt}

-- ---- gaps lie between their ends

in_range : (low count : ℕ) → All (λ n. (low ≤ n) × (n < low + count)) (range_with_len low count)
in_range low count k d within =
    let short : k < count = omega (arith, length-range_with_len low count) in
    let at : get_or (range_with_len low count) k d ≡ low + k = get_or-range_with_len low count k d short in
    (omega arith, omega arith)

pub gaps_within : {X : Type 0} (place : X → ℕ) (items : List X) (low high : ℕ) → All (λ n. (low ≤ n) × (n ≤ high)) (gaps_between place items low high)
unfolding gaps_between absent
gaps_within place items low high =
    All-weaker (λ n. (low ≤ n) × (n < low + (high + 1 - low))) (λ n. (low ≤ n) × (n ≤ high)) (λ n both. (both.0, let a = both.0 in let b = both.1 in omega arith)) (filter (λ n. not (is_taken place items n)) (range_with_len low (high + 1 - low)))
    (All-filter (λ n. not (is_taken place items n)) (λ n. (low ≤ n) × (n < low + (high + 1 - low))) (range_with_len low (high + 1 - low)) (in_range low (high + 1 - low)))

-- some item behind a map
any_of-map : {X : Type 0} (f : X → ℕ) (P : ℕ → Type 0) (xs : List X) → Any P (map f xs) → Any (λ x. P (f x)) xs
any_of-map f P [] (k, x, within, at, p) = absurd (omega (arith, within))
any_of-map f P (y ∷ xs) (zero, x, within, at, p) = any-here (λ z. P (f z)) y xs (subst P (sym at) p)
any_of-map f P (y ∷ xs) (suc k, x, within, at, p) = any-later (λ z. P (f z)) y xs (any_of-map f P xs (k, x, omega (arith, within), at, p))

-- what holds of each item of a map
all_of-map : {X Y : Type 0} (f : X → Y) (P : Y → Type 0) (xs : List X) → All P (map f xs) → All (λ x. P (f x)) xs
all_of-map f P xs all k d within =
    subst P (get_or-map f xs k d (f d) within) (all k (f d) (omega (arith, length-map xs f)))

-- ---- the memory

pub cells_span : (cells : List Pair) → 0 < length cells → Spans cells (least_of (addresses cells)) (greatest_of (addresses cells))
cells_span cells some =
    let address : Pair → ℕ = λ x. x.addr.number in
    let ns : List ℕ = addresses cells in
    let some_number : 0 < length ns = omega (arith, length-map cells address) in
    let low = all_of-map address (λ n. least_of ns ≤ n) cells (least-bounds ns) in
    let high = all_of-map address (λ n. n ≤ greatest_of ns) cells (greatest-bounds ns) in
    record {
      has_least = any_of-map address (λ n. n ≡ least_of ns) cells (least-reached ns some_number);
      has_greatest = any_of-map address (λ n. n ≡ greatest_of ns) cells (greatest-reached ns some_number);
      within = λ k d within. (low k d within, high k d within);
    }

-- the greatest address is a number of the field
spans_below : (cells : List Pair) (low high : ℕ) → Spans cells low high → high < prime
spans_below cells low high s =
    let (k, x, within, at, is) = s.has_greatest in
    omega (arith, is, x.addr.in_field)

filler_below : (m : Memory) → ((a v : ℕ) → m a ≡ Some v → v < prime) → (a : ℕ) → unwrap_or (m a) 0 < prime
filler_below m low a = by (m a) refl
  where
    by : (o : Option ℕ) → m a ≡ o → unwrap_or o 0 < prime
    by None is = lit< tt
    by (Some v) is = low a v is

-- cells that are made of numbers have these numbers
pub numbers_of-cells : (m : Memory) → ((a v : ℕ) → m a ≡ Some v → v < prime) → (free : List ℕ) → All (λ a. a < prime) free → map numbers_of (cells_at m free) ≡ map (filler_at m) free
unfolding cells_at filler_at
numbers_of-cells m low [] all = refl
numbers_of-cells m low (a ∷ free) all =
    let P : ℕ → Type 0 = λ n. n < prime in
    ap₂ (λ x xs. x ∷ xs) (ap₂ (λ n v. (n, v)) (mod-eq_of_lt (All-head P a free all)) (mod-eq_of_lt (filler_below m low a)))
    (numbers_of-cells m low free (All-tail P a free all))

module _ (m : Memory) (low : (a v : ℕ) → m a ≡ Some v → v < prime) (cells : List Pair) (some : 0 < length cells) where
  abbrev fillers : List Pair
  fillers = cells_at m (free_addresses cells)

  pub fillers_are : map numbers_of fillers ≡ map (filler_at m) (unaccessed cells (least_of (addresses cells)) (greatest_of (addresses cells)))
  unfolding free_addresses unaccessed
  fillers_are =
      let high : greatest_of (addresses cells) < prime = spans_below cells (least_of (addresses cells)) (greatest_of (addresses cells)) (cells_span cells some) in
      numbers_of-cells m low (free_addresses cells)
      (All-weaker (λ n. (least_of (addresses cells) ≤ n) × (n ≤ greatest_of (addresses cells))) (λ n. n < prime) (λ n both. let b = both.1 in omega arith) (free_addresses cells)
      (gaps_within (λ x. x.addr.number) cells (least_of (addresses cells)) (greatest_of (addresses cells))))

  pub memory_filled : OneValueEach cells → first_memory_fault (cells ++ fillers) (in_order pair_cmp (cells ++ fillers)) ≡ None
  memory_filled one =
      no_memory_fault m cells fillers (least_of (addresses cells)) (greatest_of (addresses cells)) fillers_are (cells_span cells some) one (in_order pair_cmp (cells ++ fillers)) refl

  pub length-fillers : length fillers ≡ length (free_addresses cells)
  unfolding cells_at
  length-fillers = length-map (free_addresses cells) (λ a. cell (felt (filler_at m a).0) (felt (filler_at m a).1))

-- ---- small values

-- all lie within the limits where the least and the greatest do
pub small_within : (values : List Felt) (low high : ℕ) → low ≤ least_of (numbers values) → greatest_of (numbers values) ≤ high → All (IsWithin low high) values
unfolding IsWithin
small_within values low high above below k d within =
    let number : Felt → ℕ = λ x. x.number in
    let ns : List ℕ = numbers values in
    let a = all_of-map number (λ n. least_of ns ≤ n) values (least-bounds ns) k d within in
    let b = all_of-map number (λ n. n ≤ greatest_of ns) values (greatest-bounds ns) k d within in
    (omega (arith, a), omega (arith, b))

module _ (values : List Felt) (low high : ℕ) (narrow : high < 2 ^ 16) where
  abbrev absent_felts : List Felt
  absent_felts = map felt (absent_values values low high)

  pub absent_are : map (λ x. x.number) absent_felts ≡ absent_values values low high
  unfolding absent_values
  absent_are =
      numbers-felt (absent_values values low high)
      (All-weaker (λ n. (low ≤ n) × (n ≤ high)) (λ n. n < prime) (λ n both. let b = both.1 in omega arith) (absent_values values low high)
      (gaps_within (λ x. x.number) values low high))

  pub small_filled : low ≤ high → All (IsWithin low high) values → first_range_fault (values ++ absent_felts) (in_order felt_cmp (values ++ absent_felts)) low high ≡ None
  small_filled range within =
      no_range_fault values absent_felts low high range within absent_are (in_order felt_cmp (values ++ absent_felts)) refl (felt 0)

  pub length-absent : length absent_felts ≤ 2 ^ 16
  unfolding absent_values
  length-absent = omega (arith, length-map (absent_values values low high) felt, length-gaps-le (λ (x : Felt). x.number) values low high)
