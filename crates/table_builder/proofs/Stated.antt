-- The public input of a run keeps its limits, and its small values lie between their least and their greatest.
use Rattle.std.proofs.Common.{◌≡◌, ℕ, ◌^◌, ◌<◌, ◌≤◌, ◌==◌, Bool, true, false, cond, List, [], ◌∷◌, ◌++◌, fold, min, max, length, get_or, map, Option, Some, None, option_map, refl, sym, ap₂, subst, arith}
use Rattle.std.specs.Prelude.{All, IsSome}
use Rattle.std.specs.List.{find}
use Rattle.std.proofs.Math.Nat.{mod-eq_of_lt}
use Rattle.std.proofs.lemmas.Bool.{eqb-true}
use Rattle.std.proofs.lemmas.List.{length-map}
use Rattle.std.proofs.lemmas.List.Elements.{All-cons, All-head, All-tail, All-append, All-weaker}
use Rattle.std.specs.List.Sorted.{IsStrictlyIncreasing}
use Rattle.goldilocks.specs.Field.{prime}
use Rattle.goldilocks.specs.declared.Felt.{Felt}
use Rattle.goldilocks.specs.declared.Pair.{Pair}
use Rattle.goldilocks.specs.Felts.{felt, numbers}
use Rattle.goldilocks.specs.Cells.{addresses, cell, memory_of}
use Rattle.goldilocks.proofs.Cells.{memory_of-low}
use Rattle.casm_word.specs.Transition.{Memory}
use Rattle.casm_word.specs.Run.{steps, LegalRun}
use Rattle.memory_columns.specs.Filling.{filler_at}
use Rattle.public_input.specs.Valid.{KeepsLimits}
use Rattle.access_lists.specs.SmallValues.{SmallParts, small_values}
use Rattle.relocation.specs.Relocated.{RelocatedRun}
use Rattle.table_builder.specs.Rows.{rows_of, range_rows_of}
use Rattle.table_builder.specs.Columns.{least_of, greatest_of, cells_at, run_small_values}
use Rattle.table_builder.specs.TablesOf.{AreInField}
use Rattle.table_builder.specs.Public.{memory_in, stated_with, small_numbers, public_of, CanBeStated}
use Rattle.table_builder.specs.PublicParts.{all_digits}
use Rattle.table_builder.proofs.Counts.{length-small_values}
use Rattle.table_builder.proofs.LeastGreatest.{any-later, any-and_all, least-is, least-reached, least-bounds, greatest-is, greatest-reached, greatest-bounds}
use Rattle.table_builder.proofs.RowsOfRun.{run_row_count}
use Rattle.table_builder.proofs.Digits.{word_number, range_numbers, small_digits, all_digits_small}

-- ---- the least and the greatest, from ends that no number passes

pub fold_least : (ns : List ℕ) → 0 < length ns → All (λ n. n < 2 ^ 16) ns → fold min 65535 ns ≡ least_of ns
unfolding least_of
fold_least ns some small =
    let reached = least-reached ns some in
    let there = any-and_all (λ n. n ≡ least_of ns) (λ n. n < 2 ^ 16) ns reached small in
    let low : least_of ns ≤ 65535 = omega (arith, there.1, there.2) in
    least-is (65535 ∷ ns) (least_of ns) (any-later (λ n. n ≡ least_of ns) 65535 ns reached) (All-cons (λ n. least_of ns ≤ n) 65535 ns low (least-bounds ns))

pub fold_greatest : (ns : List ℕ) → 0 < length ns → fold max 0 ns ≡ greatest_of ns
unfolding greatest_of
fold_greatest ns some =
    greatest-is (0 ∷ ns) (greatest_of ns) (any-later (λ n. n ≡ greatest_of ns) 0 ns (greatest-reached ns some)) (All-cons (λ n. n ≤ greatest_of ns) 0 ns (omega arith) (greatest-bounds ns))

pub least_below_greatest : (ns : List ℕ) → 0 < length ns → least_of ns ≤ greatest_of ns
least_below_greatest ns some =
    let there = any-and_all (λ n. n ≡ least_of ns) (λ n. n ≤ greatest_of ns) ns (least-reached ns some) (greatest-bounds ns) in
    omega (arith, there.1, there.2)

pub greatest_below : (ns : List ℕ) (bound : ℕ) → 0 < length ns → All (λ n. n < bound) ns → greatest_of ns < bound
greatest_below ns bound some small =
    let there = any-and_all (λ n. n ≡ greatest_of ns) (λ n. n < bound) ns (greatest-reached ns some) small in
    omega (arith, there.1, there.2)

-- ---- what a memory of cells has lies in one of them

pub held_cell : (P : Pair → Type 0) (cells : List Pair) (a v : ℕ) → All P cells → memory_of cells a ≡ Some v → (c : Pair) × P c × (c.addr.number ≡ a)
unfolding memory_of
held_cell P [] a v all e = cc
held_cell P (x ∷ cells) a v all e =
    by (x.addr.number == a) refl e (λ found. held_cell P cells a v (All-tail P x cells all) found)
  where
    by : (here : Bool) → (x.addr.number == a) ≡ here → option_map (λ (c : Pair). c.value.number) (cond here (Some x) (find (λ (c : Pair). c.addr.number == a) cells)) ≡ Some v →
        (memory_of cells a ≡ Some v → (c : Pair) × P c × (c.addr.number ≡ a)) → (c : Pair) × P c × (c.addr.number ≡ a)
    by true is found behind = (x, All-head P x cells all, eqb-true x.addr.number a is)
    by false is found behind = behind found

pub some_held : (o : Option ℕ) → IsSome o → (v : ℕ) × (o ≡ Some v)
some_held None some = cc
some_held (Some v) some = (v, refl)

pub held_address : (cells : List Pair) (a : ℕ) → IsSome (memory_of cells a) → a < prime
held_address cells a some =
    let held = some_held (memory_of cells a) some in
    let there = held_cell (λ c. c.addr.number < prime) cells a held.0 (λ k d within. (get_or cells k d).addr.in_field) held.1 in
    omega (arith, there.1, there.2)

-- ---- the shown cells

pub addresses_kept : (m : Memory) (shown : List ℕ) → All (λ a. a < prime) shown → addresses (cells_at m shown) ≡ shown
unfolding cells_at filler_at
addresses_kept m [] low = refl
addresses_kept m (a ∷ shown) low =
    ap₂ (λ x xs. x ∷ xs) (mod-eq_of_lt (All-head (λ n. n < prime) a shown low)) (addresses_kept m shown (All-tail (λ n. n < prime) a shown low))

length-cells_at : (m : Memory) (shown : List ℕ) → length (cells_at m shown) ≡ length shown
unfolding cells_at
length-cells_at m shown = length-map shown (λ a. cell (felt (filler_at m a).0) (felt (filler_at m a).1))

-- ---- the small values of a run

module _ (run : RelocatedRun) where
  -- the limits play no part in them
  pub same_small : (low high : ℕ) → numbers (run_small_values (stated_with low high run) (memory_in run) run.states) ≡ small_numbers run
  unfolding small_numbers stated_with run_small_values range_rows_of
  same_small low high = refl

  pub public_small : numbers (run_small_values (public_of run) (memory_in run) run.states) ≡ small_numbers run
  unfolding public_of
  public_small = same_small (least_of (small_numbers run)) (greatest_of (small_numbers run))

  module _ (small : AreInField run.states) (legal : LegalRun (memory_in run) run.states) where
    pub small_numbers_are : small_numbers run ≡ all_digits (map (word_number (memory_in run)) (steps run.states)) ++ all_digits (range_numbers (stated_with 0 0 run) (memory_in run))
    unfolding small_numbers
    small_numbers_are = small_digits (stated_with 0 0 run) (memory_in run) run.states (memory_of-low run.cells) small legal

    pub all_small : All (λ n. n < 2 ^ 16) (small_numbers run)
    all_small =
        let words = all_digits (map (word_number (memory_in run)) (steps run.states)) in
        let cells = all_digits (range_numbers (stated_with 0 0 run) (memory_in run)) in
        subst (λ ns. All (λ n. n < 2 ^ 16) ns) (sym small_numbers_are)
        (All-append (λ n. n < 2 ^ 16) words cells (all_digits_small (map (word_number (memory_in run)) (steps run.states))) (all_digits_small (range_numbers (stated_with 0 0 run) (memory_in run))))

    pub some_small : 0 < length (small_numbers run)
    unfolding small_numbers run_small_values
    some_small =
        let rows = rows_of (memory_in run) run.states in
        let range = range_rows_of (stated_with 0 0 run) (memory_in run) in
        let parts : SmallParts = record { rows = rows; range_rows = range; fillers = [] } in
        omega (
          arith,
          length-map (small_values parts) (λ (x : Felt). x.number),
          length-small_values parts,
          run_row_count (memory_in run) run.states (memory_of-low run.cells) small legal,
          legal.has_step,
        )

  pub limits_kept : AreInField run.states → CanBeStated run → KeepsLimits (public_of run)
  unfolding public_of stated_with
  limits_kept small can =
      let some = some_small small can.legal in
      let low : All (λ a. a < prime) run.shown = All-weaker (λ a. IsSome (memory_in run a)) (λ a. a < prime) (λ a. held_address run.cells a) run.shown can.shown_held in
      record {
        some_step = omega (arith, can.legal.has_step);
        most_steps = omega (arith, can.few_states);
        in_order = least_below_greatest (small_numbers run) some;
        narrow = greatest_below (small_numbers run) (2 ^ 16) some (all_small small can.legal);
        most_range_cells = can.few_range_cells;
        most_cells = omega (arith, length-cells_at (memory_in run) run.shown, can.few_shown);
        ascending = subst IsStrictlyIncreasing (sym (addresses_kept (memory_in run) run.shown low)) can.ascending;
      }
