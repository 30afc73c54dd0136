-- What is written of a run that came to its end: it is a run of the program, its files spell it, and its tables meet every
-- constraint.
use Rattle.std.proofs.Common.{◌≡◌, ℕ, zero, suc, ◌+◌, ◌-◌, ◌<◌, ◌≤◌, Bool, true, false, List, [], ◌∷◌, length, map, Option, Some, None, option_map, Result, Ok, Err, IfSome, refl, sym, ap, ◌∙◌, subst, arith, zero-add}
use Rattle.std.specs.Prelude.{All, sum, IsSome, slice_get, slice_index_or, if◌then◌else◌}
use Rattle.std.specs.List.{AllByRecursion, range_with_len}
use Rattle.std.proofs.lemmas.List.{length-map}
use Rattle.std.proofs.lemmas.List.Elements.{All-from_recursion, recursion_from_All, All-weaker}
use Rattle.goldilocks.specs.Field.{prime}
use Rattle.goldilocks.specs.declared.Felt.{Felt}
use Rattle.goldilocks.specs.declared.Pair.{Pair}
use Rattle.goldilocks.specs.Cells.{memory_of}
use Rattle.goldilocks.proofs.Cells.{memory_of-low}
use Rattle.casm_word.specs.Transition.{Memory, Registers, registers}
use Rattle.casm_word.specs.Run.{LegalRun}
use Rattle.segments.specs.declared.Place.{Place}
use Rattle.segments.specs.declared.RelState.{RelState}
use Rattle.segments.specs.declared.Value.{Value}
use Rattle.segments.specs.declared.Value.TheVariants.{Num, Ptr}
use Rattle.segments.specs.Values.{place}
use Rattle.segments.specs.Memory.{RunMemory, cell}
use Rattle.segments.specs.Relocation.{base, address, relocated}
use Rattle.program_file.specs.declared.Builtins.{Builtins}
use Rattle.program_file.specs.Listing.{Listing, IsProgram}
use Rattle.hint_cells.specs.declared.HintCell.{HintCell}
use Rattle.hint_cells.specs.HintList.{HintList, AreHints}
use Rattle.builtin_segments.specs.Layout.{execution, first_builtin, builtin_count, layout_of, no_stops}
use Rattle.builtin_segments.specs.Used.{IsUsed, AreUsed}
use Rattle.builtin_segments.specs.Start.{start_stack, start_memory, first_state}
use Rattle.builtin_segments.specs.Rules.{rules_of}
use Rattle.builtin_segments.proofs.StartMemory.{few_builtins, start-count, start-words, start-stack}
use Rattle.run_steps.specs.ValueRun.{registers_at, HoldsRelocated, InSegments}
use Rattle.run_steps.proofs.Relocated.{run_at}
use Rattle.vm_runner.specs.Run.{Ran, run_of}
use Rattle.vm_runner.specs.Completes.{last_pc, Completes}
use Rattle.vm_runner.proofs.Completing.{completes as completes_run}
use Rattle.relocation.specs.Relocated.{RelocatedRun, relocated_cells, relocated_run, shown_places, LeavesCells, field_run}
use Rattle.relocation.specs.declared.run.FieldRun.{FieldRun}
use Rattle.relocation.proofs.CellMemory.{holds_relocated, address_low, in_bounds, can_be_listed, has_words}
use Rattle.relocation.proofs.RunLaws.{shown_ascend, shown-count, shown_held, run_in_field}
use Rattle.memory_columns.specs.OneMemory.{Holds}
use Rattle.access_lists.specs.Accesses.{program_cells}
use Rattle.trace_files.specs.TraceFile.{IsState, state_limit, trace_limit, trace_bytes, SpellsTrace}
use Rattle.trace_files.specs.MemoryFile.{memory_cell_limit, memory_limit, memory_bytes, SpellsMemory}
use Rattle.trace_files.proofs.TraceFile.{SpellsTrace-written, length-spelled_trace}
use Rattle.trace_files.proofs.MemoryFile.{SpellsMemory-written, length-spelled_memory}
use Rattle.public_input.specs.Limits.{public_limit}
use Rattle.public_input.specs.Statement.{Statement}
use Rattle.public_input.specs.Spelling.{SpellsPublic}
use Rattle.public_input.specs.Valid.{KeepsLimits}
use Rattle.public_input.specs.Written.{written as public_bytes}
use Rattle.public_input.proofs.ReadsBack.{SpellsPublic-written}
use Rattle.table_file.specs.Limits.{tables_limit}
use Rattle.table_file.specs.Tables.{Contents}
use Rattle.table_file.specs.Spelling.{spelling, SpellsTables}
use Rattle.table_file.proofs.Lengths.{length-spelled_tables}
use Rattle.constraint_checker.specs.declared.Verdict.TheVariants.{Accepted}
use Rattle.constraint_checker.specs.Constraints.{MeetsAll}
use Rattle.constraint_checker.specs.Verdict.{verdict}
use Rattle.constraint_checker.proofs.Acceptances.{accepted_exactly}
use Rattle.table_builder.specs.declared.faults.BuildFault.{BuildFault}
use Rattle.table_builder.specs.declared.faults.BuildFault.TheVariants as fault_is
use Rattle.table_builder.specs.Findings.{Finding, finding_of}
use Rattle.table_builder.specs.Rows.{first_of, last_of, no_state}
use Rattle.table_builder.specs.TablesOf.{AreTablesOf, AreInField}
use Rattle.table_builder.specs.Building.{building}
use Rattle.table_builder.specs.Public.{public_of, HasRangeCell, CanBeStated, IsRunOf}
use Rattle.table_builder.proofs.Accepted.{built_valid, built_sixteen, built_meets}
use Rattle.table_builder.proofs.BuiltTables.{built_tables}
use Rattle.table_builder.proofs.Stated.{limits_kept}
use Rattle.table_builder.proofs.StatedRuns.{can_be_stated, run_built}
use Rattle.cairo_commands.specs.Parts.{WasRun}
use Rattle.cairo_commands.specs.Commands.Run.{laid_out, run_tables, HoldsGiven}
use Rattle.cairo_commands.proofs.PublicSizes.{public_fits}

-- what is written of a run
pub record WrittenRun (p : Listing) (h : HintList) (ran : Ran) : Type 0 where
  pub of_run : AreTablesOf p (public_of (laid_out p ran)) (memory_of (laid_out p ran).cells) (laid_out p ran).states (run_tables p (laid_out p ran))
  pub given : HoldsGiven p h ran.memory.sizes (memory_of (laid_out p ran).cells)
  pub trace : SpellsTrace (trace_bytes (laid_out p ran).states) (laid_out p ran).states
  pub trace_short : length (trace_bytes (laid_out p ran).states) ≤ trace_limit
  pub memory : SpellsMemory (memory_bytes (laid_out p ran).cells) (laid_out p ran).cells
  pub memory_short : length (memory_bytes (laid_out p ran).cells) ≤ memory_limit
  pub public : SpellsPublic (public_bytes (public_of (laid_out p ran))) (public_of (laid_out p ran))
  pub public_short : length (public_bytes (public_of (laid_out p ran))) ≤ public_limit
  pub tables : SpellsTables (spelling (run_tables p (laid_out p ran))) (run_tables p (laid_out p ran))
  pub tables_short : length (spelling (run_tables p (laid_out p ran))) ≤ tables_limit
  pub meets : MeetsAll p (public_of (laid_out p ran)) (run_tables p (laid_out p ran))

-- ---- lists of states

-- the first of the states once they are laid out
first_of_slice : (f : RelState → Registers) (states : List RelState) (s : RelState) (first : Registers) → slice_get states 0 ≡ Some s → slice_get (map f states) 0 ≡ Some first → f s ≡ first
first_of_slice f [] s first at there = cc
first_of_slice f (t ∷ rest) s first at there =
    let same : t ≡ s = cc in
    let it : f t ≡ first = cc in
    sym (ap f same) ∙ it

first_at : (f : RelState → Registers) (states : List RelState) (s : RelState) → slice_get states 0 ≡ Some s → first_of (map f states) ≡ f s
first_at f [] s first = cc
first_at f (t ∷ rest) s first = let same : t ≡ s = cc in ap f same

-- the state at a place, by its pc
state_at : (f : RelState → Registers) (states : List RelState) (k : ℕ) (p : Place) → option_map (λ (s : RelState). s.pc) (slice_get states k) ≡ Some p → (s : RelState) × (s.pc ≡ p) × (slice_index_or (map f states) k no_state ≡ f s)
state_at f [] k p at = cc
state_at f (s ∷ rest) zero p at = (s, cc, refl)
state_at f (s ∷ rest) (suc k) p at = state_at f rest k p at

last_at : (f : RelState → Registers) (states : List RelState) (p : Place) → last_pc states ≡ Some p → (s : RelState) × (s.pc ≡ p) × (last_of (map f states) ≡ f s)
unfolding last_pc
last_at f states p last =
    let at = state_at f states (length states - 1) p last in
    (at.0, at.1, ap (λ n. slice_index_or (map f states) (n - 1) no_state) (length-map states f) ∙ at.2)

-- ---- the start stack

-- the cells of the execution segment are held that have these values, from a first one on
all_held : (m : RunMemory) (first : ℕ) (values : List Value) → ((off : ℕ) (v : Value) → slice_get values off ≡ Some v → cell m (place execution (first + off)) ≡ Some v) → AllByRecursion (λ q. IsSome (cell m q)) (map (place execution) (range_with_len first (length values)))
all_held m first [] held = tt
all_held m first (v ∷ values) held = (
  subst (λ (k : ℕ). IsSome (cell m (place execution k))) (omega arith) (subst IsSome (sym (held 0 v refl)) refl),
  all_held m (first + 1) values (λ off w at. subst (λ (k : ℕ). cell m (place execution k) ≡ Some w) (omega arith) (held (suc off) w at)),
)

-- ---- a run that came to its end

module _ (p : Listing) (h : HintList) (is_program : IsProgram p) (are_hints : AreHints h) (ran : Ran) (completes : Completes p h ran) where
  abbrev sizes : List ℕ
  sizes = ran.memory.sizes

  abbrev run : RelocatedRun
  run = laid_out p ran

  abbrev m : Memory
  m = memory_of run.cells

  held : HoldsRelocated ran.memory m
  unfolding relocated_run
  held = holds_relocated ran.memory completes.memory

  legal : LegalRun m run.states
  unfolding relocated_run
  legal = run_at ran.memory m ran.states completes.memory held completes.run

  -- the start stack is still there
  stack_cell : (off : ℕ) (v : Value) → slice_get (start_stack p.builtins) off ≡ Some v → cell ran.memory (place execution off) ≡ Some v
  stack_cell off v at = completes.started.cells (place execution off) v (start-stack p h.extra off is_program are_hints.few_extra ∙ at)

  first_cell : cell ran.memory (place execution 0) ≡ Some (Ptr (place execution 2))
  unfolding start_stack
  first_cell = stack_cell 0 (Ptr (place execution 2)) refl

  stack_is_held : All (λ q. IsSome (cell ran.memory q)) (shown_places p.builtins)
  unfolding shown_places
  stack_is_held =
      All-from_recursion (λ q. IsSome (cell ran.memory q)) (map (place execution) (range_with_len 0 (length (start_stack p.builtins))))
      (all_held ran.memory 0 (start_stack p.builtins) (λ off v at. subst (λ (k : ℕ). cell ran.memory (place execution k) ≡ Some v) (sym (zero-add off)) (stack_cell off v at)))

  first_fits : IsState (registers_at sizes (first_state p))
  unfolding first_state registers_at address base
  first_fits =
      let inside = is_program.start_inside in
      let few = is_program.few_words in
      let low = address_low ran.memory (place execution 0) (Ptr (place execution 2)) completes.memory first_cell in
      record { pc = omega arith; ap = omega arith; fp = omega arith }

  in_field : AreInField run.states
  unfolding relocated_run
  in_field =
      run_in_field ran.memory run.states legal (λ first at.
      subst IsState (first_of_slice (registers_at sizes) ran.states (first_state p) first completes.first at) first_fits)

  has_program : Holds m (program_cells p.words)
  unfolding Holds program_cells relocated_run
  has_program = has_words ran.memory p.words completes.memory (λ i x at. completes.started.cells (place 0 i) (Num x) (start-words p h.extra i is_program are_hints.few_extra ∙ ap (option_map (λ (y : Felt). Num y)) at))

  low_cells : All (λ (c : Pair). (1 ≤ c.addr.number) × (c.addr.number ≤ memory_cell_limit)) (relocated_cells ran.memory)
  low_cells =
      All-weaker (λ (c : Pair). (1 ≤ c.addr.number) × (c.addr.number ≤ sum sizes)) (λ (c : Pair). (1 ≤ c.addr.number) × (c.addr.number ≤ memory_cell_limit))
      (λ c b. (b.0, omega (arith, b.1, completes.memory.total))) (relocated_cells ran.memory) (in_bounds ran.memory completes.memory)

  is_run : IsRunOf p run
  unfolding relocated_run shown_places registers_at address base first_state
  is_run =
      let first = first_at (registers_at sizes) ran.states (first_state p) completes.first in
      let last = last_at (registers_at sizes) ran.states (place 0 p.end) completes.last in
      record {
        legal = legal;
        few_states = subst (λ n. n ≤ state_limit) (sym (length-map ran.states (registers_at sizes))) completes.few_states;
        in_field = in_field;
        first_pc = ap (λ (r : Registers). r.pc) first;
        first_fp = ap (λ (r : Registers). r.fp) first ∙ sym (ap (λ (r : Registers). r.ap) first);
        last_pc = ap (λ (r : Registers). r.pc) last.2 ∙ ap (address sizes) last.1;
        has_program = has_program;
        few_shown = omega (arith, shown-count p.builtins ran.stops ran.memory ran.states, few_builtins p.builtins);
        ascending = shown_ascend p.builtins ran.stops ran.memory ran.states;
        shown_held = shown_held p.builtins ran.stops ran.memory ran.states completes.memory stack_is_held;
        few_range_cells = omega arith;
        range_held = All-from_recursion (HasRangeCell run) (range_with_len 0 0) tt;
        low = low_cells;
      }

  given : HoldsGiven p h sizes m
  given = record {
    program = has_program;
    stack = λ off v at. held.holds (place execution off) v (stack_cell off v at);
    hints = All-weaker _ _ (λ (c : HintCell) is. held.holds c.place c.value is) h.cells completes.hints;
  }

  abbrev tables : Contents
  tables = run_tables p run

  abbrev stated : Statement
  stated = public_of run

  low_values : (a v : ℕ) → m a ≡ Some v → v < prime
  low_values = memory_of-low run.cells

  limits : KeepsLimits stated
  limits = limits_kept run in_field (can_be_stated p run is_run)

  built : building p stated m run.states ≡ Ok tables
  built = run_built p is_program run is_run

  spelled_trace : SpellsTrace (trace_bytes run.states) run.states
  spelled_trace = SpellsTrace-written run.states legal.has_step is_run.few_states (recursion_from_All IsState run.states in_field)

  spelled_memory : SpellsMemory (memory_bytes run.cells) run.cells
  unfolding relocated_run
  spelled_memory =
      let listed = can_be_listed ran.memory completes.memory in
      SpellsMemory-written run.cells listed.most listed.ascending

  spelled_tables : SpellsTables (spelling tables) tables
  spelled_tables = record {
    parts = refl;
    valid = built_valid p stated m run.states low_values in_field is_program limits legal.has_step tables built;
    sixteen = built_sixteen p stated m run.states low_values in_field is_program limits legal.has_step tables built;
  }

  pub written_completed : WrittenRun p h ran
  written_completed =
      let most = spelled_trace.most in
      let most_cells = spelled_memory.most in
      record {
        of_run = built_tables p stated m run.states low_values in_field limits tables built;
        given = given;
        trace = spelled_trace;
        trace_short = omega (arith, length-spelled_trace (trace_bytes run.states) run.states spelled_trace);
        memory = spelled_memory;
        memory_short = omega (arith, length-spelled_memory (memory_bytes run.cells) run.cells spelled_memory);
        public = SpellsPublic-written stated limits;
        public_short = public_fits stated limits;
        tables = spelled_tables;
        tables_short = length-spelled_tables (spelling tables) tables spelled_tables;
        meets = built_meets p stated m run.states low_values in_field is_program limits legal.has_step tables built;
      }

-- what is written of the run of a program with its hints
pub written_run : (p : Listing) (h : HintList) → IsProgram p → AreHints h → (ran : Ran) → run_of (rules_of p.builtins) p h ≡ Ok ran → WrittenRun p h ran
written_run p h is_program are_hints ran run = written_completed p h is_program are_hints ran (completes_run p h ran is_program are_hints run)

-- ---- what is said of every run that came to its end

module _ (p : Listing) (h : HintList) (ran : Ran) (is_program : IsProgram p) (are_hints : AreHints h) (run_is : run_of (rules_of p.builtins) p h ≡ Ok ran) where
  abbrev came_to_end : Completes p h ran
  came_to_end = completes_run p h ran is_program are_hints run_is

  pub run_of_program : IsRunOf p (laid_out p ran)
  run_of_program = is_run p h is_program are_hints ran came_to_end

  pub run_stated : CanBeStated (laid_out p ran)
  run_stated = can_be_stated p (laid_out p ran) run_of_program

  pub run_legal : LegalRun (memory_of (laid_out p ran).cells) (laid_out p ran).states
  run_legal = run_of_program.legal

  pub run_given : HoldsGiven p h ran.memory.sizes (memory_of (laid_out p ran).cells)
  run_given = given p h is_program are_hints ran came_to_end

  pub tables_built : building p (public_of (laid_out p ran)) (memory_of (laid_out p ran).cells) (laid_out p ran).states ≡ Ok (run_tables p (laid_out p ran))
  tables_built = built p h is_program are_hints ran came_to_end

  pub tables_accepted : verdict p (public_of (laid_out p ran)) (run_tables p (laid_out p ran)) ≡ Accepted
  tables_accepted =
      (accepted_exactly p (public_of (laid_out p ran)) (run_tables p (laid_out p ran))).1 (written_completed p h is_program are_hints ran came_to_end).meets

-- ---- where there are no builtins

unused : (n : RunMemory) (is_there : Bool) (seg : ℕ) → ◌≡◌ {A = ℕ} (if is_there then 1 else 0) 0 → IsUsed n (if is_there then Some seg else None) None
unused n true seg none = absurd (omega arith)
unused n false seg none = tt

none_used : (m : RunMemory) (b : Builtins) → builtin_count b ≡ 0 → AreUsed m b no_stops
unfolding layout_of builtin_count
none_used m b none = record {
  output = unused m b.output first_builtin (omega arith);
  range = unused m b.range (if b.output then first_builtin + 1 else first_builtin) (omega arith);
}

last_leaves : (count : ℕ) (found : Option RelState) (p : Place) → count ≡ 0 → option_map (λ (s : RelState). s.pc) found ≡ Some p → (last : RelState) × (found ≡ Some last) × (count ≤ last.ap.off)
last_leaves count (Some last) p none there = (last, refl, omega arith)
last_leaves count None p none there = absurd (cc)

-- ---- what the code's parts ask of a run

module _ (p : Listing) (ran : Ran) (was : WasRun p ran) where
  abbrev was_completed : Completes p was.hints ran
  was_completed = completes_run p was.hints ran was.is_program was.are_hints was.completes

  pub was_inside : All (InSegments (length ran.memory.sizes)) ran.states
  was_inside = was_completed.inside

  pub was_started : (layout_of p.builtins).first_extra ≤ length ran.memory.sizes
  unfolding layout_of
  was_started =
      let count = start-count p was.hints.extra was.is_program was.are_hints.few_extra in
      let grown = was_completed.started.segments in
      omega arith

  pub was_used : AreUsed ran.memory p.builtins ran.stops
  was_used = subst (AreUsed ran.memory p.builtins) (sym was_completed.stops) (none_used ran.memory p.builtins was_completed.no_builtins)

  pub was_left : LeavesCells (builtin_count p.builtins) ran.states
  unfolding last_pc
  was_left = last_leaves (builtin_count p.builtins) (slice_get ran.states (length ran.states - 1)) (place 0 p.end) was_completed.no_builtins was_completed.last

  pub was_run_of : IsRunOf p (laid_out p ran)
  was_run_of = is_run p was.hints was.is_program was.are_hints ran was_completed

-- ---- what the code's parts ask of a run that is laid out

module _ (p : Listing) (ran : Ran) (was : WasRun p ran) (run : FieldRun) (same : field_run run ≡ laid_out p ran) where
  pub laid_run_of : IsRunOf p (field_run run)
  laid_run_of = subst (IsRunOf p) (sym same) (was_run_of p ran was)

  pub laid_stated : CanBeStated (field_run run)
  laid_stated = can_be_stated p (field_run run) laid_run_of

  pub laid_least : 2 ≤ length run.states.items
  laid_least = subst (λ n. 2 ≤ n) (length-map run.states.items registers) laid_run_of.legal.has_step

  pub laid_most : length run.states.items ≤ state_limit
  laid_most = subst (λ n. n ≤ state_limit) (length-map run.states.items registers) laid_run_of.few_states

-- what is built of a run of a program, with its own public input
module _ (p : Listing) (stated : Statement) (run : RelocatedRun) (cells : List Pair) (states : List Registers) (is_program : IsProgram p) (is : IsRunOf p run) (public : stated ≡ public_of run) (same_cells : cells ≡ run.cells) (same_states : states ≡ run.states) where
  told_built : building p stated (memory_of cells) states ≡ Ok (run_tables p run)
  told_built =
      ap (λ s. building p s (memory_of cells) states) public
      ∙ (ap (λ cs. building p (public_of run) (memory_of cs) states) same_cells
      ∙ (ap (building p (public_of run) (memory_of run.cells)) same_states
      ∙ run_built p is_program run is))

  pub tables_told : (tables : Contents) → building p stated (memory_of cells) states ≡ Ok tables → tables ≡ run_tables p run
  tables_told tables told = same_ok (sym told ∙ told_built)
    where
      same_ok : {a b : Contents} → ◌≡◌ {A = Result Contents Finding} (Ok a) (Ok b) → a ≡ b
      same_ok e = cc

  refused : (found : Finding) → building p stated (memory_of cells) states ≡ Err found → ⊥
  refused found told = ok_or_err (sym told_built ∙ told)
    where
      ok_or_err : {a : Contents} {b : Finding} → ◌≡◌ {A = Result Contents Finding} (Ok a) (Err b) → ⊥
      ok_or_err e = cc

  pub nothing_found : (fault : BuildFault) → (fault ≡ fault_is.Memory → ⊥) → IfSome (finding_of fault) (λ found. building p stated (memory_of cells) states ≡ Err found) → ⊥
  unfolding finding_of
  nothing_found (fault_is.Mismatch field one other) not told = refused _ told
  nothing_found (fault_is.Step step result) not told = refused _ told
  nothing_found (fault_is.NoCell address) not told = refused _ told
  nothing_found (fault_is.RangeWidth row) not told = refused _ told
  nothing_found (fault_is.TooWide least greatest) not told = refused _ told
  nothing_found fault_is.Memory not told = not refl
