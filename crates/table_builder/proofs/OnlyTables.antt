-- A run has no other tables than those that are built of it.
use Rattle.std.proofs.Common.{◌≡◌, ℕ, ◌+◌, ◌%◌, ◌^◌, ◌<◌, ◌≤◌, List, [], ◌∷◌, ◌++◌, map, zip, length, unwrap_or, Some, Ok, refl, sym, ap, ap₂, ◌∙◌, subst, arith, append-nil}
use Rattle.std.specs.Prelude.{All}
use Rattle.std.specs.List.{AllByRecursion, AllZip, flat_map, range_with_len}
use Rattle.std.proofs.lemmas.List.Elements.{All-cons, All-head, All-tail, All-append, recursion_from_All}
use Rattle.std.proofs.lemmas.Option.{slice_get-get_or}
use Rattle.goldilocks.specs.Field.{prime, field_add}
use Rattle.goldilocks.specs.declared.Felt.{Felt}
use Rattle.goldilocks.specs.declared.Pair.{Pair}
use Rattle.goldilocks.specs.Felts.{felt}
use Rattle.casm_word.specs.Transition.{Memory, Registers}
use Rattle.casm_word.specs.Run.{steps}
use Rattle.casm_word.proofs.RefusedRuns.{first_refused-none}
use Rattle.casm_word.proofs.Runs.{length-steps}
use Rattle.program_file.specs.Listing.{Listing}
use Rattle.public_input.specs.Statement.{Statement}
use Rattle.cpu_rows.specs.declared.Row.{Row}
use Rattle.cpu_rows.specs.Columns.{Columns, columns}
use Rattle.cpu_rows.specs.Steps.{IsRowOf}
use Rattle.cpu_rows.proofs.RowOfStep.{one_row_of}
use Rattle.sorted_lists.specs.Order.{in_order}
use Rattle.memory_columns.specs.Equations.{pair_cmp}
use Rattle.memory_columns.specs.OneMemory.{Holds}
use Rattle.memory_columns.specs.Filling.{unaccessed, filler_at, AreFillers, filler_limit}
use Rattle.memory_columns.proofs.Fillings.{map-map}
use Rattle.range_columns.specs.declared.RangeRow.{RangeRow}
use Rattle.range_columns.specs.Limbs.{limb_limit, IsSplitOf}
use Rattle.range_columns.specs.Equations.{felt_cmp, IsWithin}
use Rattle.range_columns.specs.Filling.{absent_values}
use Rattle.table_file.specs.Tables.{Contents}
use Rattle.access_lists.specs.Accesses.{row_cells, program_cells, range_cells, accesses as accesses_of}
use Rattle.access_lists.specs.SmallValues.{row_offsets, limbs, small_values}
use Rattle.constraint_checker.specs.Lists.{accessing}
use Rattle.goldilocks.specs.Cells.{cell, cells_from, addresses}
use Rattle.table_builder.specs.Rows.{first_of, last_of, no_state, as_state, as_row, rows_of, range_address, limb_row, range_rows_of}
use Rattle.table_builder.specs.Columns.{least_of, greatest_of, reads_of, row_small_values, reads, run_small_values, free_addresses, cells_at, tables_of}
use Rattle.table_builder.specs.Building.{unless_found, building}
use Rattle.table_builder.specs.TablesOf.{HasFieldValues, AreInField, AreTablesOf}
use Rattle.table_builder.proofs.Kept.{felts_kept, row_kept, state_kept, limbs_kept, cells_kept}
use Rattle.table_builder.proofs.Spans.{spans_least, spans_greatest, within_least}
use Rattle.table_builder.proofs.NothingFound.{Has, HasRange, Answered, asked}
use Rattle.table_builder.proofs.RowsOfRun.{IsTold, columns_of, run_told}
use Rattle.table_builder.proofs.Filled.{length-fillers}
use Rattle.table_builder.proofs.Counts.{length-accesses, length-small_values}

-- ---- the rows

only_rows : (m : Memory) (pairs : List (Registers × Registers)) (cs : List Columns) (rows : List Row) → AllZip (IsTold m) pairs cs → length rows ≡ length pairs → AllByRecursion (λ at. IsRowOf m at.0.0 (columns at.1)) (zip pairs rows) → rows ≡ map as_row cs
only_rows m [] [] [] told long of_steps = refl
only_rows m [] [] (r ∷ rows) told long of_steps = absurd (omega arith)
only_rows m [] (c ∷ cs) rows told long of_steps = absurd told
only_rows m (step ∷ pairs) [] rows told long of_steps = absurd told
only_rows m (step ∷ pairs) (c ∷ cs) [] told long of_steps = absurd (omega arith)
only_rows m (step ∷ pairs) (c ∷ cs) (r ∷ rows) told long of_steps =
    let same : columns r ≡ c = one_row_of m step.0 (columns r) c of_steps.0 told.0.of_step in
    ap₂ (λ x xs. x ∷ xs) (sym (row_kept r) ∙ ap as_row same) (only_rows m pairs cs rows told.1 (omega arith) of_steps.1)

-- ---- the range rows

module _ (m : Memory) (public : Statement) where
  abbrev ranged : ℕ → RangeRow
  ranged i = limb_row (unwrap_or (m (range_address public i)) 0)

  -- those from number k on
  only_range : (k : ℕ) (rows : List RangeRow) → All (Has m) (cells_from (public.range_begin.number + k) (map (λ r. r.value) rows)) → AllByRecursion (λ row. (row.value.number < 2 ^ 48) × IsSplitOf limb_limit row.value.number row) rows →
      (rows ≡ map ranged (range_with_len k (length rows))) × All (HasRange public m) (range_with_len k (length rows))
  unfolding cells_from field_add
  only_range k [] has split = (refl, λ i d within. absurd (omega arith))
  only_range k (r ∷ rows) has split =
      let begin : ℕ = public.range_begin.number in
      let values : List Felt = map (λ r. r.value) rows in
      let later : All (Has m) (cells_from (begin + k + 1) values) = All-tail (Has m) (cell (felt (begin + k)) r.value) (cells_from (begin + k + 1) values) has in
      let place : begin + k + 1 ≡ begin + (k + 1) = omega arith in
      let behind = only_range (k + 1) rows (subst (λ a. All (Has m) (cells_from a values)) place later) split.1 in
      let here : m ((begin + k) % prime) ≡ Some r.value.number = All-head (Has m) (cell (felt (begin + k)) r.value) (cells_from (begin + k + 1) values) has in
      let same : unwrap_or (m ((begin + k) % prime)) 0 ≡ r.value.number = ap (λ o. unwrap_or o 0) here in (
        ap₂ (λ x xs. x ∷ xs) (limbs_kept r.value.number r split.0.1 ∙ ap limb_row (sym same)) behind.0,
        All-cons (HasRange public m) k (range_with_len (k + 1) (length rows)) (r.value.number, here, split.0.0) behind.1,
      )

  pub only_range_rows : (tables : Contents) → length tables.range ≡ public.range_count → All (Has m) (range_cells public.range_begin.number tables.range) → All (λ row. (row.value.number < 2 ^ 48) × IsSplitOf limb_limit row.value.number row) tables.range →
      (tables.range ≡ range_rows_of public m) × All (HasRange public m) (range_with_len 0 public.range_count)
  unfolding range_cells range_rows_of
  only_range_rows tables count has split =
      let values : List Felt = map (λ r. r.value) tables.range in
      let begin : public.range_begin.number ≡ public.range_begin.number + 0 = omega arith in
      let both = only_range 0 tables.range (subst (λ a. All (Has m) (cells_from a values)) begin has) (recursion_from_All (λ row. (row.value.number < 2 ^ 48) × IsSplitOf limb_limit row.value.number row) tables.range split) in
      (both.0 ∙ ap (λ n. map ranged (range_with_len 0 n)) count, subst (λ n. All (HasRange public m) (range_with_len 0 n)) count both.1)

-- ---- the fillers

pub only_fillers : (m : Memory) (cells fill : List Pair) → AreFillers m cells fill → fill ≡ cells_at m (free_addresses cells)
unfolding cells_at free_addresses
only_fillers m cells fill are =
    let made : ℕ × ℕ → Pair = λ p. cell (felt p.0) (felt p.1) in
    let free : unaccessed cells are.least are.greatest ≡ unaccessed cells (least_of (addresses cells)) (greatest_of (addresses cells)) =
    sym (ap₂ (unaccessed cells) (spans_least cells are.least are.greatest are.spans) (spans_greatest cells are.least are.greatest are.spans)) in
    sym (cells_kept fill)
    ∙ (ap (map made) are.fillers
    ∙ (map-map made (filler_at m) (unaccessed cells are.least are.greatest)
    ∙ ap (map (λ a. made (filler_at m a))) free))

-- ---- all of it

module _ (program : Listing) (public : Statement) (m : Memory) (states : List Registers) (low : HasFieldValues m) (small : AreInField states) (tables : Contents) (are : AreTablesOf program public m states tables) where
  rows_same : tables.rows ≡ rows_of m states
  unfolding rows_of
  rows_same =
      only_rows m (steps states) (columns_of m (steps states)) tables.rows (run_told m states low small are.run)
      (omega (arith, are.row_count, are.step_count, length-steps states))
      (recursion_from_All (λ at. IsRowOf m at.0.0 (columns at.1)) (zip (steps states) tables.rows) are.rows)

  last_same : tables.last ≡ as_state (last_of states)
  last_same = sym (state_kept tables.last) ∙ ap as_state are.last

  range_both : (tables.range ≡ range_rows_of public m) × All (HasRange public m) (range_with_len 0 public.range_count)
  unfolding Holds
  range_both = only_range_rows m public tables are.range_count are.has_range_cells are.range

  accesses_same : reads_of program public tables.rows tables.range ≡ reads program public m states
  unfolding reads
  accesses_same = ap₂ (reads_of program public) rows_same range_both.0

  values_same : row_small_values tables.rows tables.range ≡ run_small_values public m states
  unfolding run_small_values
  values_same = ap₂ row_small_values rows_same range_both.0

  abbrev accessed : List Pair
  accessed = reads program public m states

  fillers_same : tables.fillers ≡ cells_at m (free_addresses accessed)
  fillers_same = only_fillers m accessed tables.fillers (subst (λ cells. AreFillers m cells tables.fillers) accesses_same are.fillers)

  abbrev absent : List Felt
  absent = map felt (absent_values (run_small_values public m states) public.rc_min public.rc_max)

  range_fillers_same : tables.range_fillers ≡ absent
  range_fillers_same =
      sym (felts_kept tables.range_fillers)
      ∙ ap (map felt) (are.range_fillers ∙ ap (λ values. absent_values values public.rc_min public.rc_max) values_same)

  pairs_same : tables.pairs ≡ in_order pair_cmp (accessed ++ cells_at m (free_addresses accessed))
  unfolding accesses_of range_cells
  pairs_same =
      let front = flat_map row_cells tables.rows ++ range_cells public.range_begin.number tables.range ++ program_cells program.words ++ public.cells in
      let before : front ≡ accessed = sym (append-nil front) ∙ accesses_same in
      are.pairs ∙ ap (in_order pair_cmp) (ap₂ (λ xs ys. xs ++ ys) before fillers_same)

  sorted_same : tables.sorted_range ≡ in_order felt_cmp (run_small_values public m states ++ absent)
  unfolding small_values
  sorted_same =
      let front = flat_map row_offsets tables.rows ++ flat_map limbs tables.range in
      let before : front ≡ run_small_values public m states = sym (append-nil front) ∙ values_same in
      are.sorted_range ∙ ap (in_order felt_cmp) (ap₂ (λ xs ys. xs ++ ys) before range_fillers_same)

  tables_same : tables ≡ tables_of program public m states
  unfolding tables_of
  tables_same = λ i. record {
    rows = rows_same i;
    last = last_same i;
    range = range_both.0 i;
    fillers = fillers_same i;
    pairs = pairs_same i;
    range_fillers = range_fillers_same i;
    sorted_range = sorted_same i;
  }

  -- ---- nothing is found

  first_same : first_of states ≡ record { pc = 1 + program.start; ap = public.ap_first.number; fp = public.ap_first.number }
  first_same =
      let at = sym (slice_get-get_or states 0 no_state (omega (arith, are.step_count))) ∙ are.first in
      cc

  some_small : 0 < length (run_small_values public m states)
  some_small = omega (arith, ap length values_same, length-small_values (record { rows = tables.rows; range_rows = tables.range; fillers = [] }), are.row_count, are.step_count, are.run.has_step)

  some_accessed : 0 < length accessed
  some_accessed = omega (arith, ap length accesses_same, length-accesses (accessing program public (record tables { fillers = [] })), are.row_count, are.step_count, are.run.has_step)

  few_free : length (free_addresses accessed) ≤ filler_limit
  few_free = omega (arith, length-fillers m low accessed some_accessed, ap length fillers_same, are.few_fillers)

  all_answered : Answered program public m states
  unfolding Holds
  all_answered =
      let within = within_least (run_small_values public m states) public.rc_min public.rc_max some_small
      (subst (λ values. All (IsWithin public.rc_min public.rc_max) values) values_same are.small_values) in
      record {
        ends = record {
          steps = omega (arith, are.step_count);
          pc_first = sym (ap (λ s. s.pc) first_same);
          ap_first = sym (ap (λ s. s.ap) first_same);
          fp_first = sym (ap (λ s. s.fp) first_same);
          pc_last = sym are.last_pc;
          ap_last = sym are.last_ap;
        };
        legal = (first_refused-none m states are.run.has_step).1 are.run;
        cells = All-append (Has m) (program_cells program.words) public.cells are.has_program are.has_public_cells;
        range = range_both.1;
        least = within.0;
        greatest = within.1;
        width = few_free;
      }

  pub only_built : building program public m states ≡ Ok tables
  unfolding building
  only_built =
      ap (λ o. unless_found o (tables_of program public m states)) (asked program public m states all_answered)
      ∙ ap Ok (sym tables_same)
