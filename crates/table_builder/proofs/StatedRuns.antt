-- Of a run of a program nothing is found, with what it states of itself as the public input.
use Rattle.std.proofs.Common.{◌≡◌, ℕ, ◌-◌, ◌%◌, ◌^◌, ◌<◌, ◌≤◌, List, ◌++◌, length, Some, Ok, unwrap_or, refl, sym, ap, ◌∙◌, subst, arith}
use Rattle.std.specs.Prelude.{All, IsSome}
use Rattle.std.specs.List.{range_with_len}
use Rattle.std.proofs.Math.Nat.{mod-eq_of_lt}
use Rattle.std.proofs.lemmas.List.Elements.{All-append, All-map, All-weaker}
use Rattle.goldilocks.specs.Field.{prime}
use Rattle.goldilocks.specs.declared.Pair.{Pair}
use Rattle.goldilocks.specs.Felts.{felt}
use Rattle.goldilocks.specs.Cells.{addresses, cell, memory_of}
use Rattle.goldilocks.proofs.Cells.{memory_of-low}
use Rattle.goldilocks.proofs.FieldLaws.{field_add_mod_first}
use Rattle.casm_word.specs.Transition.{Memory}
use Rattle.casm_word.proofs.RefusedRuns.{first_refused-none}
use Rattle.sorted_lists.proofs.Absent.{length-gaps-le}
use Rattle.memory_columns.specs.OneMemory.{Holds}
use Rattle.memory_columns.specs.Filling.{filler_at, filler_limit, unaccessed}
use Rattle.program_file.specs.Listing.{Listing, IsProgram}
use Rattle.public_input.specs.Statement.{Statement}
use Rattle.trace_files.specs.TraceFile.{IsState}
use Rattle.access_lists.specs.Accesses.{program_cells}
use Rattle.constraint_checker.specs.declared.Verdict.TheVariants.{Accepted}
use Rattle.constraint_checker.specs.Verdict.{verdict}
use Rattle.constraint_checker.proofs.Acceptances.{accepted_exactly}
use Rattle.relocation.specs.Relocated.{RelocatedRun}
use Rattle.table_builder.specs.Rows.{first_of, last_of, no_state, rows_of, range_rows_of}
use Rattle.table_builder.specs.Columns.{least_of, greatest_of, cells_at, free_addresses, reads, tables_of}
use Rattle.table_builder.specs.Building.{building, unless_found}
use Rattle.table_builder.specs.Public.{memory_in, stated_with, public_of, HasRangeCell, CanBeStated, IsRunOf}
use Rattle.table_builder.proofs.Accepted.{built_meets}
use Rattle.table_builder.proofs.BuiltColumns.{some_access}
use Rattle.table_builder.proofs.Held.{reads_held_from}
use Rattle.table_builder.proofs.LeastGreatest.{any-and_all, least-reached, greatest-reached}
use Rattle.table_builder.proofs.NothingFound.{Has, HasRange, HasEnds, Answered, asked}
use Rattle.table_builder.proofs.Stated.{held_cell, some_held, held_address, public_small, limits_kept}
use Rattle.std.proofs.lemmas.List.{length-map}

pub can_be_stated : (program : Listing) (run : RelocatedRun) → IsRunOf program run → CanBeStated run
can_be_stated program run is = record {
  legal = is.legal;
  few_states = is.few_states;
  few_shown = is.few_shown;
  ascending = is.ascending;
  shown_held = is.shown_held;
  few_range_cells = is.few_range_cells;
  range_held = is.range_held;
}

-- the memory has the cell at an address where it has a value
cell_held : (cells : List Pair) (a : ℕ) → IsSome (memory_of cells a) → memory_of cells (a % prime) ≡ Some (unwrap_or (memory_of cells a) 0 % prime)
cell_held cells a some =
    let held = some_held (memory_of cells a) some in
    let low : held.0 < prime = memory_of-low cells a held.0 held.1 in
    ap (memory_of cells) (mod-eq_of_lt (held_address cells a some))
    ∙ (held.1 ∙ ap Some (sym (ap (λ o. unwrap_or o 0 % prime) held.1 ∙ mod-eq_of_lt low)))

module _ (program : Listing) (is_program : IsProgram program) (run : RelocatedRun) (is : IsRunOf program run) where
  abbrev m : Memory
  m = memory_in run

  abbrev public : Statement
  public = public_of run

  first_state : IsState (first_of run.states)
  first_state = is.in_field 0 no_state (omega (arith, is.legal.has_step))

  last_state : IsState (last_of run.states)
  last_state = is.in_field (length run.states - 1) no_state (omega (arith, is.legal.has_step))

  ends : HasEnds program public run.states
  unfolding public_of stated_with
  ends =
      let first_ap = mod-eq_of_lt first_state.ap in
      record {
        steps = refl;
        pc_first = sym is.first_pc;
        ap_first = first_ap;
        fp_first = first_ap ∙ sym is.first_fp;
        pc_last = sym is.last_pc;
        ap_last = mod-eq_of_lt last_state.ap;
      }

  cells_held : All (Has m) (program_cells program.words ++ public.cells)
  unfolding public_of stated_with Holds cells_at filler_at
  cells_held =
      let shown : ℕ → Pair = λ a. cell (felt a) (felt (unwrap_or (m a) 0)) in
      All-append (Has m) (program_cells program.words) public.cells is.has_program
      (All-map (Has m) shown run.shown (All-weaker (λ a. IsSome (m a)) (λ a. Has m (shown a)) (cell_held run.cells) run.shown is.shown_held))

  range_held : All (HasRange public m) (range_with_len 0 public.range_count)
  unfolding public_of stated_with
  range_held =
      All-weaker (HasRangeCell run) (HasRange public m)
      (λ i has. (has.0, ap m (field_add_mod_first run.range_begin i) ∙ has.1, has.2)) (range_with_len 0 run.range_count) is.range_held

  -- ---- how far the accesses reach

  abbrev accessed : List Pair
  accessed = reads program public m run.states

  abbrev IsLow : ℕ → Type 0
  IsLow a = (1 ≤ a) × (a ≤ 2 ^ 21)

  all_low : All IsLow (addresses accessed)
  unfolding Holds
  all_low =
      All-map IsLow (λ (x : Pair). x.addr.number) accessed
      (All-weaker (Has m) (λ x. IsLow x.addr.number) low accessed
      (reads_held_from program public m run.states (memory_of-low run.cells) is.in_field is.legal cells_held range_held))
    where
      low : (x : Pair) → Has m x → IsLow x.addr.number
      low x has =
          let there = held_cell (λ c. IsLow c.addr.number) run.cells x.addr.number x.value.number is.low has in
          subst IsLow there.2 there.1

  some_accessed : 0 < length (addresses accessed)
  unfolding reads
  some_accessed =
      omega (
        arith,
        length-map accessed (λ (x : Pair). x.addr.number),
        some_access program public (rows_of m run.states) (range_rows_of public m) is_program.start_inside,
      )

  narrow : length (free_addresses accessed) ≤ filler_limit
  unfolding free_addresses unaccessed
  narrow =
      let ns = addresses accessed in
      let l = any-and_all (λ n. n ≡ least_of ns) IsLow ns (least-reached ns some_accessed) all_low in
      let g = any-and_all (λ n. n ≡ greatest_of ns) IsLow ns (greatest-reached ns some_accessed) all_low in
      omega (arith, length-gaps-le (λ (x : Pair). x.addr.number) accessed (least_of ns) (greatest_of ns), l.1, l.2.0, g.1, g.2.1)

  -- ---- nothing is found

  all_answered : Answered program public m run.states
  unfolding public_of stated_with
  all_answered = record {
    ends = ends;
    legal = (first_refused-none m run.states is.legal.has_step).1 is.legal;
    cells = cells_held;
    range = range_held;
    least = omega (arith, ap least_of (public_small run));
    greatest = omega (arith, ap greatest_of (public_small run));
    width = narrow;
  }

  pub run_built : building program public m run.states ≡ Ok (tables_of program public m run.states)
  unfolding building
  run_built = ap (λ o. unless_found o (tables_of program public m run.states)) (asked program public m run.states all_answered)

  pub run_accepted : verdict program public (tables_of program public m run.states) ≡ Accepted
  run_accepted =
      (accepted_exactly program public (tables_of program public m run.states)).1
      (built_meets program public m run.states (memory_of-low run.cells) is.in_field is_program
      (limits_kept run is.in_field (can_be_stated program run is)) is.legal.has_step (tables_of program public m run.states) run_built)
