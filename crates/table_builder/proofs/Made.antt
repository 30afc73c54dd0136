-- The tables of a run of which nothing is found: they are valid, and they meet every constraint.
use Rattle.std.proofs.Common.{Ordering, ◌≡◌, ℕ, ◌+◌, ◌^◌, ◌<◌, ◌≤◌, List, [], ◌++◌, map, length, get_or, Some, sym, ap, ◌∙◌, subst, arith, append-nil}
use Rattle.std.specs.Prelude.{All}
use Rattle.std.proofs.lemmas.List.{get_or_default}
use Rattle.std.proofs.lemmas.List.Elements.{All-weaker}
use Rattle.std.proofs.lemmas.List.Sorted.{length_permutation}
use Rattle.goldilocks.specs.Field.{prime}
use Rattle.goldilocks.specs.declared.Felt.{Felt}
use Rattle.goldilocks.specs.Felts.{felt}
use Rattle.casm_word.specs.Transition.{Memory, Registers, registers}
use Rattle.casm_word.specs.Run.{LegalRun}
use Rattle.casm_word.proofs.RefusedRuns.{first_refused-none}
use Rattle.sorted_lists.specs.Order.{in_order}
use Rattle.sorted_lists.proofs.InOrder.{in_order-IsPermutation}
use Rattle.memory_columns.specs.Equations.{pair_cmp, M1, M2, M3}
use Rattle.memory_columns.proofs.OneMemory.{no_fault_exactly as memory_met}
use Rattle.range_columns.specs.Equations.{felt_cmp, Q1, Q2, Q3, Q4}
use Rattle.range_columns.specs.Filling.{absent_values}
use Rattle.range_columns.specs.Limbs.{limb_limit, V1}
use Rattle.range_columns.proofs.FirstFault.{no_fault_exactly as range_met}
use Rattle.program_file.specs.Listing.{Listing, IsProgram}
use Rattle.public_input.specs.Statement.{Statement}
use Rattle.public_input.specs.Valid.{KeepsLimits}
use Rattle.trace_files.specs.TraceFile.{IsState}
use Rattle.table_file.specs.Tables.{Contents, AreValid}
use Rattle.access_lists.specs.Accesses.{range_cells, accesses as accesses_of}
use Rattle.access_lists.specs.SmallValues.{small_values}
use Rattle.constraint_checker.specs.Lists.{accessing, accesses, table_small_values}
use Rattle.constraint_checker.specs.Constraints.{states as states_in, first_state, last_state, MeetsAll}
use Rattle.table_builder.specs.Rows.{first_of, last_of, no_state, rows_of}
use Rattle.table_builder.specs.Columns.{reads, run_small_values, free_addresses, cells_at, tables_of}
use Rattle.table_builder.proofs.NothingFound.{Answered}
use Rattle.table_builder.proofs.RowsOfRun.{run_row_count, run_sixteen, run_states, run_meets, last_kept}
use Rattle.table_builder.proofs.Held.{reads_one_value}
use Rattle.table_builder.proofs.Filled.{memory_filled, length-fillers, small_within, small_filled, length-absent}
use Rattle.table_builder.proofs.Counts.{length-range_rows_of, length-accesses, length-small_values}
use Rattle.table_builder.proofs.Limbs.{IsCut, all_cut}

-- sorting keeps the length
length-in_order : {X : Type 0} (cmp : X → X → Ordering) (xs : List X) → length (in_order cmp xs) ≡ length xs
length-in_order cmp xs = length_permutation xs (in_order cmp xs) (in_order-IsPermutation cmp xs)

module _ (program : Listing) (public : Statement) (m : Memory) (states : List Registers) where
  abbrev tables : Contents
  tables = tables_of program public m states

  -- the fillers stand behind the other accesses, and the range fillers behind the other small values
  pub made_accesses : accesses program public tables ≡ reads program public m states ++ cells_at m (free_addresses (reads program public m states))
  unfolding tables_of reads accesses_of range_cells
  made_accesses = ap (λ xs. xs ++ tables.fillers) (sym (append-nil _))

  pub made_values : table_small_values tables ≡ run_small_values public m states ++ map felt (absent_values (run_small_values public m states) public.rc_min public.rc_max)
  unfolding tables_of run_small_values small_values
  made_values = ap (λ xs. xs ++ tables.range_fillers) (sym (append-nil _))

  module _ (low : (a v : ℕ) → m a ≡ Some v → v < prime) (small : All IsState states) (some : 2 ≤ length states) (answers : Answered program public m states) where
    pub legal : LegalRun m states
    legal = (first_refused-none m states some).0 answers.legal

    pub row_count : length (rows_of m states) + 1 ≡ length states
    row_count = run_row_count m states low small legal

    pub some_reads : 0 < length (reads program public m states)
    unfolding reads tables_of
    some_reads = omega (arith, length-accesses (accessing program public (record tables { fillers = [] })), row_count, some)

    -- ---- valid

    pub made_valid : IsProgram program → KeepsLimits public → AreValid tables
    unfolding tables_of
    made_valid is_program limits =
        let accessed = reads program public m states in
        let absent : List Felt = map felt (absent_values (run_small_values public m states) public.rc_min public.rc_max) in
        let steps = answers.ends.steps in
        let rows : length (rows_of m states) ≡ public.steps = omega (arith, row_count, steps, some) in
        let fillers : length (cells_at m (free_addresses accessed)) ≤ 2 ^ 21 = omega (arith, length-fillers m low accessed some_reads, answers.width) in
        let pairs : length (in_order pair_cmp (accessed ++ cells_at m (free_addresses accessed))) ≡ length (accesses program public tables) =
        length-in_order pair_cmp (accessed ++ cells_at m (free_addresses accessed)) ∙ ap length (sym made_accesses) in
        let values : length (in_order felt_cmp (run_small_values public m states ++ absent)) ≡ length (table_small_values tables) =
        length-in_order felt_cmp (run_small_values public m states ++ absent) ∙ ap length (sym made_values) in
        record {
          row_count = omega (arith, rows, limits.most_steps);
          range_row_count = omega (arith, length-range_rows_of public m, limits.most_range_cells);
          filler_count = fillers;
          pair_count = omega (arith, pairs, length-accesses (accessing program public tables), rows, length-range_rows_of public m, is_program.few_words, limits.most_steps, limits.most_range_cells, limits.most_cells, fillers);
          range_filler_count = length-absent (run_small_values public m states) public.rc_min public.rc_max limits.narrow;
          sorted_range_count = values ∙ length-small_values (record { rows = tables.rows; range_rows = tables.range; fillers = tables.range_fillers });
        }

    -- ---- every constraint

    pub made_states : states_in tables ≡ states
    unfolding tables_of
    made_states = run_states m states low small legal

    made_first : first_state tables ≡ first_of states
    made_first = ap (λ ss. get_or ss 0 (registers tables.last)) made_states ∙ get_or_default states 0 (registers tables.last) no_state (omega arith)

    made_last : last_state tables ≡ last_of states
    unfolding tables_of
    made_last = last_kept m states low small legal

    met_in_memory : M1 tables.pairs × M2 tables.pairs × M3 (accesses program public tables) tables.pairs
    unfolding tables_of
    met_in_memory =
        let accessed = reads program public m states in
        let met = (memory_met (accessed ++ cells_at m (free_addresses accessed)) tables.pairs).0
        (memory_filled m low accessed some_reads (reads_one_value program public m states low small legal answers)) in
        (met.0, met.1, subst (λ xs. M3 xs tables.pairs) (sym made_accesses) met.2)

    met_in_range : public.rc_min ≤ public.rc_max → public.rc_max < 2 ^ 16 → Q1 tables.sorted_range public.rc_min × Q2 tables.sorted_range × Q3 tables.sorted_range public.rc_max × Q4 (table_small_values tables) tables.sorted_range
    unfolding tables_of
    met_in_range range narrow =
        let values = run_small_values public m states in
        let absent : List Felt = map felt (absent_values values public.rc_min public.rc_max) in
        let met = (range_met (values ++ absent) tables.sorted_range public.rc_min public.rc_max).0
        (small_filled values public.rc_min public.rc_max narrow range (small_within values public.rc_min public.rc_max answers.least answers.greatest)) in
        (met.0, met.1, met.2, subst (λ xs. Q4 xs tables.sorted_range) (sym made_values) met.3)

    pub made_meets : KeepsLimits public → MeetsAll program public tables
    unfolding tables_of
    made_meets limits =
        let ends = answers.ends in
        let memory = met_in_memory in
        let range = met_in_range limits.in_order limits.narrow in
        record {
          p1 = omega (arith, row_count, ends.steps, some);
          p2 = length-range_rows_of public m;
          p3 = ap (λ s. s.pc) made_first ∙ sym ends.pc_first;
          p4 = ap (λ s. s.ap) made_first ∙ sym ends.ap_first;
          p5 = ap (λ s. s.fp) made_first ∙ sym ends.fp_first;
          rows = run_meets m states low small legal;
          p6 = ap (λ s. s.pc) made_last ∙ sym ends.pc_last;
          p7 = ap (λ s. s.ap) made_last ∙ sym ends.ap_last;
          v1 = All-weaker IsCut (V1 limb_limit) (λ r is. is.meets) tables.range (all_cut public m answers.range);
          m1 = memory.0;
          m2 = memory.1;
          m3 = memory.2;
          q1 = range.0;
          q2 = range.1;
          q3 = range.2;
          q4 = range.3;
        }

    pub made_sixteen : All (λ r. length r.tilde ≡ 16) tables.rows
    unfolding tables_of
    made_sixteen = run_sixteen m states low small legal
