-- The tables that the code puts together are those of the run.
use Rattle.std.proofs.Common.{◌≡◌, ◌-◌, ◌+◌, ◌≤◌, List, [], ◌∷◌, ◌++◌, length, get_or, map, filter_map, Option, Some, None, Result, Ok, Err, sym, ap, ap₂, ◌∙◌, subst, arith}
use Rattle.std.specs.Prelude.{All, IfErr, IfSome}
use Rattle.std.specs.List.{cons_option}
use Rattle.std.specs.Result.{IsErrAnd}
use Rattle.std.proofs.lemmas.Option.{IfSome_then}
use Rattle.std.proofs.lemmas.List.{length-map}
use Rattle.std.proofs.lemmas.List.Elements.{All-map}
use Rattle.goldilocks.specs.declared.Felt.{Felt}
use Rattle.goldilocks.specs.declared.Pair.{Pair}
use Rattle.goldilocks.specs.Felts.{felt}
use Rattle.casm_word.specs.declared.State.{State}
use Rattle.casm_word.specs.Transition.{Memory, Registers, registers}
use Rattle.casm_word.specs.Run.{steps}
use Rattle.casm_word.proofs.Runs.{length-steps}
use Rattle.trace_files.specs.TraceFile.{IsState}
use Rattle.program_file.specs.Listing.{Listing}
use Rattle.public_input.specs.Statement.{Statement}
use Rattle.cpu_rows.specs.declared.Row.{Row}
use Rattle.sorted_lists.specs.Order.{in_order}
use Rattle.memory_columns.specs.Equations.{pair_cmp}
use Rattle.range_columns.specs.Equations.{felt_cmp}
use Rattle.range_columns.specs.Filling.{absent_values}
use Rattle.range_columns.specs.declared.RangeRow.{RangeRow}
use Rattle.table_file.specs.Tables.{Contents}
use Rattle.table_builder.specs.declared.faults.BuildFault.{BuildFault}
use Rattle.table_builder.specs.Rows.{row_at, as_row, rows_of, range_rows_of, last_of, as_state}
use Rattle.table_builder.specs.Columns.{reads_of, row_small_values, reads, run_small_values, free_addresses, cells_at, tables_of}
use Rattle.table_builder.specs.Findings.{Finding, finding_of}
use Rattle.table_builder.specs.Parts.{AreMemoryColumns, AreSmallColumns}
use Rattle.table_builder.proofs.Kept.{state_kept}
use Rattle.table_builder.proofs.EndFindings.{last_state}

-- the fault of a part refuses the run, where what the part finds is what is found first
pub refuses : {X : Type 0} (part : Option Finding) (built : Result Contents Finding) (result : Result X BuildFault) (fault : BuildFault) → IsErrAnd result (λ e. e ≡ fault) → ((told : Finding) → part ≡ Some told → built ≡ Err told) → IfSome (finding_of fault) (λ told. part ≡ Some told) → IfErr result (λ f. IfSome (finding_of f) (λ found. built ≡ Err found))
refuses part built (Ok x) fault ended goes told = absurd ended
refuses part built (Err e) fault ended goes told =
    let P : BuildFault → Type 0 = λ f. IfSome (finding_of f) (λ found. built ≡ Err found) in
    subst P (sym ended) (IfSome_then (finding_of fault) told goes)

-- ---- numbers of the field

pub registers_low : (states : List State) → All IsState (map registers states)
unfolding registers
registers_low states = All-map IsState registers states (λ k d within. record { pc = (get_or states k d).pc.in_field; ap = (get_or states k d).ap.in_field; fp = (get_or states k d).fp.in_field })

-- ---- the last state

pub last_built : (states : List State) (s : State) → 2 ≤ length states → s ≡ get_or states (length states - 1) s → s ≡ as_state (last_of (map registers states))
last_built states s some is = sym (ap as_state (last_state states some s is) ∙ state_kept s)

-- ---- with the columns

module _ (program : Listing) (public : Statement) (m : Memory) (states : List Registers) (rows : List Row) (last : State) (range : List RangeRow)
    (rows_are : rows ≡ rows_of m states) (last_is : last ≡ as_state (last_of states)) (range_are : range ≡ range_rows_of public m) where
  pub reads_are : reads_of program public rows range ≡ reads program public m states
  unfolding reads
  reads_are = ap₂ (reads_of program public) rows_are range_are

  pub small_are : row_small_values rows range ≡ run_small_values public m states
  unfolding run_small_values
  small_are = ap₂ row_small_values rows_are range_are

  pub tables_are : (fill pairs : List Pair) (absent sorted : List Felt) → AreMemoryColumns m (reads_of program public rows range) fill pairs → AreSmallColumns public (row_small_values rows range) absent sorted → tables_of program public m states ≡ record { rows = rows; last = last; range = range; fillers = fill; pairs = pairs; range_fillers = absent; sorted_range = sorted }
  unfolding tables_of
  tables_are fill pairs absent sorted memory small =
      let fill_same : cells_at m (free_addresses (reads program public m states)) ≡ fill = sym (memory.fillers ∙ ap (λ xs. cells_at m (free_addresses xs)) reads_are) in
      let pairs_same : in_order pair_cmp (reads program public m states ++ cells_at m (free_addresses (reads program public m states))) ≡ pairs =
      ap₂ (λ xs ys. in_order pair_cmp (xs ++ ys)) (sym reads_are) fill_same ∙ sym memory.in_turn in
      let absent_same : map felt (absent_values (run_small_values public m states) public.rc_min public.rc_max) ≡ absent =
      sym (small.fillers ∙ ap (λ vs. map felt (absent_values vs public.rc_min public.rc_max)) small_are) in
      let sorted_same : in_order felt_cmp (run_small_values public m states ++ map felt (absent_values (run_small_values public m states) public.rc_min public.rc_max)) ≡ sorted =
      ap₂ (λ xs ys. in_order felt_cmp (xs ++ ys)) (sym small_are) absent_same ∙ sym small.in_turn in
      let rows_same = sym rows_are in
      let last_same = sym last_is in
      let range_same = sym range_are in
      λ i. record {
        rows = rows_same i;
        last = last_same i;
        range = range_same i;
        fillers = fill_same i;
        pairs = pairs_same i;
        range_fillers = absent_same i;
        sorted_range = sorted_same i;
      }

-- ---- how many rows there are

one_at_most : {Y : Type 0} (o : Option Y) (ys : List Y) → length (cons_option o ys) ≤ length ys + 1
one_at_most None ys = omega arith
one_at_most (Some y) ys = omega arith

filtered_few : {X Y : Type 0} (h : X → Option Y) (xs : List X) → length (filter_map h xs) ≤ length xs
filtered_few h [] = omega arith
filtered_few h (x ∷ xs) = omega (arith, filtered_few h xs, one_at_most (h x) (filter_map h xs))

pub few_rows : (m : Memory) (states : List State) → length (rows_of m (map registers states)) ≤ length states - 1
unfolding rows_of
few_rows m states =
    let all = steps (map registers states) in
    let made = filter_map (λ (step : Registers × Registers). row_at m step.0) all in
    omega (arith, length-map made as_row, filtered_few (λ (step : Registers × Registers). row_at m step.0) all, length-steps (map registers states), length-map states registers)
