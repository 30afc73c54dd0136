-- What is built of a run are its tables.
use Rattle.std.proofs.Common.{◌≡◌, ℕ, ◌+◌, ◌^◌, ◌<◌, ◌≤◌, List, [], ◌∷◌, map, zip, length, Some, Ok, refl, sym, ap, ◌∙◌, subst, arith}
use Rattle.std.specs.List.{AllByRecursion, AllZip}
use Rattle.std.proofs.lemmas.List.Elements.{All-weaker, All-from_recursion}
use Rattle.std.proofs.lemmas.Option.{slice_get-get_or}
use Rattle.casm_word.specs.Transition.{Memory, Registers}
use Rattle.casm_word.specs.Run.{steps}
use Rattle.cpu_rows.specs.Columns.{Columns, columns}
use Rattle.cpu_rows.specs.Steps.{IsRowOf}
use Rattle.sorted_lists.specs.Order.{in_order}
use Rattle.memory_columns.specs.Equations.{pair_cmp}
use Rattle.memory_columns.specs.OneMemory.{Holds}
use Rattle.range_columns.specs.Limbs.{limb_limit, IsSplitOf}
use Rattle.range_columns.specs.Equations.{felt_cmp}
use Rattle.program_file.specs.Listing.{Listing}
use Rattle.public_input.specs.Statement.{Statement}
use Rattle.public_input.specs.Valid.{KeepsLimits}
use Rattle.goldilocks.specs.Cells.{addresses}
use Rattle.table_file.specs.Tables.{Contents}
use Rattle.access_lists.specs.Accesses.{program_cells, range_cells, accesses as accesses_of}
use Rattle.access_lists.specs.SmallValues.{small_values}
use Rattle.table_builder.specs.Rows.{first_of, no_state, as_row, rows_of}
use Rattle.table_builder.specs.Columns.{least_of, greatest_of, reads, run_small_values, tables_of}
use Rattle.table_builder.specs.Findings.{first_found, findings}
use Rattle.table_builder.specs.Building.{building}
use Rattle.table_builder.specs.TablesOf.{HasFieldValues, AreInField, AreTablesOf}
use Rattle.table_builder.proofs.Findings.{building-ok}
use Rattle.table_builder.proofs.AsRows.{columns-as_row}
use Rattle.table_builder.proofs.NothingFound.{Has, Answered, answered}
use Rattle.table_builder.proofs.RowsOfRun.{IsTold, columns_of, run_told, last_kept}
use Rattle.table_builder.proofs.Held.{all_both, range_held}
use Rattle.table_builder.proofs.Filled.{cells_span, fillers_are, length-fillers, small_within, absent_are}
use Rattle.table_builder.proofs.Counts.{length-range_rows_of}
use Rattle.table_builder.proofs.Limbs.{IsCut, all_cut}
use Rattle.table_builder.proofs.Made.{legal, row_count, some_reads, made_accesses, made_values}

-- each row is that of its step
rows_of_steps : (m : Memory) (pairs : List (Registers × Registers)) (cs : List Columns) → AllZip (IsTold m) pairs cs → AllByRecursion (λ at. IsRowOf m at.0.0 (columns at.1)) (zip pairs (map as_row cs))
rows_of_steps m [] [] all = tt
rows_of_steps m [] (c ∷ cs) all = absurd all
rows_of_steps m (step ∷ pairs) [] all = absurd all
rows_of_steps m (step ∷ pairs) (c ∷ cs) all =
    (subst (λ t. IsRowOf m step.0 t) (sym (columns-as_row c all.0.row.in_field)) all.0.of_step, rows_of_steps m pairs cs all.1)

pub registers_are : (r : Registers) (pc apc fp : ℕ) → r.pc ≡ pc → r.ap ≡ apc → r.fp ≡ fp → r ≡ record { pc = pc; ap = apc; fp = fp }
registers_are r pc apc fp p q s = λ i. record { pc = p i; ap = q i; fp = s i }

module _ (program : Listing) (public : Statement) (m : Memory) (states : List Registers) (low : HasFieldValues m) (small : AreInField states) (limits : KeepsLimits public) where
  pub are_tables : Answered program public m states → AreTablesOf program public m states (tables_of program public m states)
  unfolding tables_of Holds reads run_small_values accesses_of range_cells small_values rows_of
  are_tables answers =
      let ends = answers.ends in
      let some : 2 ≤ length states = omega (arith, ends.steps, limits.some_step) in
      let run = legal program public m states low small some answers in
      let cells = all_both (Has m) (program_cells program.words) public.cells answers.cells in
      let tables = tables_of program public m states in
      let accessed = reads program public m states in
      record {
        run = run;
        step_count = omega (arith, ends.steps, some);
        first =
            slice_get-get_or states 0 no_state (omega arith)
            ∙ ap Some (registers_are (first_of states) (1 + program.start) public.ap_first.number public.ap_first.number (sym ends.pc_first) (sym ends.ap_first) (sym ends.fp_first));
        last_pc = sym ends.pc_last;
        last_ap = sym ends.ap_last;
        has_program = cells.0;
        has_public_cells = cells.1;
        has_range_cells = range_held m public tables.range refl answers.range;
        row_count = omega (arith, row_count program public m states low small some answers, ends.steps, some);
        rows =
            All-from_recursion (λ at. IsRowOf m at.0.0 (columns at.1)) (zip (steps states) (rows_of m states))
            (rows_of_steps m (steps states) (columns_of m (steps states)) (run_told m states low small run));
        last = last_kept m states low small run;
        range_count = length-range_rows_of public m;
        range = All-weaker IsCut (λ row. (row.value.number < 2 ^ 48) × IsSplitOf limb_limit row.value.number row) (λ row is. (is.below, is.split)) tables.range (all_cut public m answers.range);
        small_values = small_within (run_small_values public m states) public.rc_min public.rc_max answers.least answers.greatest;
        fillers = record {
          least = least_of (addresses accessed);
          greatest = greatest_of (addresses accessed);
          spans = cells_span accessed (some_reads program public m states low small some answers);
          fillers = fillers_are m low accessed (some_reads program public m states low small some answers);
        };
        few_fillers = omega (arith, length-fillers m low accessed (some_reads program public m states low small some answers), answers.width);
        range_fillers = absent_are (run_small_values public m states) public.rc_min public.rc_max limits.narrow;
        pairs = ap (in_order pair_cmp) (sym (made_accesses program public m states));
        sorted_range = ap (in_order felt_cmp) (sym (made_values program public m states));
      }

  pub built_tables : (tables : Contents) → building program public m states ≡ Ok tables → AreTablesOf program public m states tables
  unfolding building
  built_tables tables built =
      let both = building-ok (first_found (findings program public m states)) (tables_of program public m states) tables built in
      subst (AreTablesOf program public m states) (sym both.1) (are_tables (answered program public m states both.0))

-- a run that tables are built of has a step
pub built_some : (program : Listing) (public : Statement) (m : Memory) (states : List Registers) → KeepsLimits public → (tables : Contents) → building program public m states ≡ Ok tables → 2 ≤ length states
unfolding building
built_some program public m states limits tables built =
    let both = building-ok (first_found (findings program public m states)) (tables_of program public m states) tables built in
    let answers = answered program public m states both.0 in
    omega (arith, answers.ends.steps, limits.some_step)
