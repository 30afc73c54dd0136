use Rattle.std.proofs.Common.{◌≡◌, ◌∙◌, map, Some, None, Ok, ap, subst, arith}
use Rattle.std.specs.Prelude.{IfSome}
use Rattle.std.proofs.lemmas.List.{length-map}
use Rattle.casm_word.specs.Transition.{registers}
use Rattle.goldilocks.specs.Felts.{numbers}
use Rattle.goldilocks.specs.Cells.{memory_of}
use Rattle.goldilocks.proofs.Cells.{memory_of-low}
use Rattle.trace_files.specs.CellList.{listed}
use Rattle.program_file.specs.declared.Program.{Program}
use Rattle.program_file.specs.Listing.{listing, IsProgram}
use Rattle.public_input.specs.Statement.{statement}
use Rattle.constraint_checker.proofs.Acceptances.{accepted_exactly}
use Rattle.table_builder.specs.Findings.{finding_of, first_found, limit_findings, width_finding}
use Rattle.table_builder.proofs.Accepted.{built_valid, built_meets}
use Rattle.table_builder.proofs.Chain.{ends_refuse, step_refuses, cells_refuse, range_refuses, limits_refuse, width_refuses, all_built}
use Rattle.table_builder.proofs.BuiltRun.{refuses, registers_low, last_built, reads_are, small_are, tables_are}
use Rattle.table_builder.proofs.builder.build.Goals as goal

pub returns-in_err-ends_agree-clause-fault : goal.returns-in_err-ends_agree-clause-fault
returns-in_err-ends_agree-clause-fault c =
    refuses _ _ c.from_residual.result c.in_err-ends_agree.field-0.0 c.from_residual.ensures.1
    (ends_refuse (listing c.args.program.now) (statement c.args.public.now) (memory_of (listed c.args.cells.now)) (map registers c.args.states.now))
    c.in_err-ends_agree.ensures.told

pub returns-in_err-rows-clause-fault : goal.returns-in_err-rows-clause-fault
returns-in_err-rows-clause-fault c =
    refuses _ _ c.from_residual-in_err-rows.result c.in_err-rows.field-0.0 c.from_residual-in_err-rows.ensures.1
    (step_refuses (listing c.args.program.now) (statement c.args.public.now) (memory_of (listed c.args.cells.now)) (map registers c.args.states.now) c.in_ok-ends_agree.ensures.told.0)
    c.in_err-rows.ensures

pub returns-in_err-cells_agree-clause-fault : goal.returns-in_err-cells_agree-clause-fault
returns-in_err-cells_agree-clause-fault c =
    refuses _ _ c.from_residual-in_err-cells_agree.result c.in_err-cells_agree.field-0.0 c.from_residual-in_err-cells_agree.ensures.1
    (cells_refuse (listing c.args.program.now) (statement c.args.public.now) (memory_of (listed c.args.cells.now)) (map registers c.args.states.now) c.in_ok-ends_agree.ensures.told.0 c.in_ok-rows.ensures.0)
    c.in_err-cells_agree.ensures

pub returns-in_err-range-clause-fault : goal.returns-in_err-range-clause-fault
returns-in_err-range-clause-fault c =
    refuses _ _ c.from_residual-in_err-range.result c.in_err-range.field-0.0 c.from_residual-in_err-range.ensures.1
    (range_refuses (listing c.args.program.now) (statement c.args.public.now) (memory_of (listed c.args.cells.now)) (map registers c.args.states.now) c.in_ok-ends_agree.ensures.told.0 c.in_ok-rows.ensures.0 c.in_ok-cells_agree.ensures.0)
    c.in_err-range.ensures

pub returns-in_err-small-clause-fault : goal.returns-in_err-small-clause-fault
returns-in_err-small-clause-fault c =
    let program = listing c.args.program.now in
    let public = statement c.args.public.now in
    let m = memory_of (listed c.args.cells.now) in
    let states = map registers c.args.states.now in
    let same = small_are program public m states c.in_ok-rows.rows.items c.index-states-states.result c.in_ok-range.range.items c.in_ok-rows.ensures.1
    (last_built c.args.states.now c.index-states-states.result c.requires.least c.index-states-states.is) c.in_ok-range.ensures.1 in
    refuses _ _ c.from_residual-in_err-small.result c.in_err-small.field-0.0 c.from_residual-in_err-small.ensures.1
    (limits_refuse program public m states c.in_ok-ends_agree.ensures.told.0 c.in_ok-rows.ensures.0 c.in_ok-cells_agree.ensures.0 c.in_ok-range.ensures.0)
    (subst (λ vs. IfSome (finding_of c.in_err-small.field-0.0) (λ told. first_found (limit_findings public (numbers vs)) ≡ Some told)) same
    (rw (c.deref.ensures.value, c.deref-2.ensures.value) at c.in_err-small.ensures))

pub returns-in_err-memory-clause-fault : goal.returns-in_err-memory-clause-fault
returns-in_err-memory-clause-fault c =
    let program = listing c.args.program.now in
    let public = statement c.args.public.now in
    let m = memory_of (listed c.args.cells.now) in
    let states = map registers c.args.states.now in
    let last = last_built c.args.states.now c.index-states-states.result c.requires.least c.index-states-states.is in
    let values = small_are program public m states c.in_ok-rows.rows.items c.index-states-states.result c.in_ok-range.range.items c.in_ok-rows.ensures.1 last c.in_ok-range.ensures.1 in
    let cells = reads_are program public m states c.in_ok-rows.rows.items c.index-states-states.result c.in_ok-range.range.items c.in_ok-rows.ensures.1 last c.in_ok-range.ensures.1 in
    let no_limit = subst (λ vs. first_found (limit_findings public (numbers vs)) ≡ None) values (rw (c.deref.ensures.value, c.deref-2.ensures.value) at c.in_ok-small.ensures.0) in
    refuses _ _ c.from_residual-in_err-memory.result c.in_err-memory.field-0.0 c.from_residual-in_err-memory.ensures.1
    (width_refuses program public m states c.in_ok-ends_agree.ensures.told.0 c.in_ok-rows.ensures.0 c.in_ok-cells_agree.ensures.0 c.in_ok-range.ensures.0 no_limit)
    (subst (λ xs. IfSome (finding_of c.in_err-memory.field-0.0) (λ told. width_finding xs ≡ Some told)) cells (rw (c.deref-3.ensures.value, c.deref-4.ensures.value) at c.in_err-memory.ensures))

is_program : (p : Program) → IsProgram (listing p)
is_program p = record { few_words = p.few_words; start_inside = p.start_inside; end_inside = p.end_inside }

pub returns-clause-tables : goal.returns-clause-tables
returns-clause-tables c =
    let program = listing c.args.program.now in
    let public = statement c.args.public.now in
    let m = memory_of (listed c.args.cells.now) in
    let states = map registers c.args.states.now in
    let last = last_built c.args.states.now c.index-states-states.result c.requires.least c.index-states-states.is in
    let values = small_are program public m states c.in_ok-rows.rows.items c.index-states-states.result c.in_ok-range.range.items c.in_ok-rows.ensures.1 last c.in_ok-range.ensures.1 in
    let cells = reads_are program public m states c.in_ok-rows.rows.items c.index-states-states.result c.in_ok-range.range.items c.in_ok-rows.ensures.1 last c.in_ok-range.ensures.1 in
    let small = rw (c.deref.ensures.value, c.deref-2.ensures.value) at c.in_ok-small.ensures in
    let memory = rw (c.deref-3.ensures.value, c.deref-4.ensures.value) at c.in_ok-memory.ensures in
    all_built program public m states c.in_ok-ends_agree.ensures.told.0 c.in_ok-rows.ensures.0 c.in_ok-cells_agree.ensures.0 c.in_ok-range.ensures.0
    (subst (λ vs. first_found (limit_findings public (numbers vs)) ≡ None) values small.0) (subst (λ xs. width_finding xs ≡ None) cells memory.0)
    ∙ ap Ok (tables_are program public m states c.in_ok-rows.rows.items c.index-states-states.result c.in_ok-range.range.items c.in_ok-rows.ensures.1 last c.in_ok-range.ensures.1
    c.in_ok-memory.memory.fill.items c.in_ok-memory.memory.sorted.items c.in_ok-small.small.fill.items c.in_ok-small.small.sorted.items memory.1 small.1)

pub returns-clause-valid : goal.returns-clause-valid
returns-clause-valid c =
    let program = listing c.args.program.now in
    let public = statement c.args.public.now in
    let m = memory_of (listed c.args.cells.now) in
    let states = map registers c.args.states.now in
    built_valid program public m states (memory_of-low (listed c.args.cells.now)) (registers_low c.args.states.now) (is_program c.args.program.now) c.requires.valid_public (omega (arith, length-map c.args.states.now registers, c.requires.least)) _ (returns-clause-tables c)

pub returns-clause-accepted : goal.returns-clause-accepted
returns-clause-accepted c =
    let program = listing c.args.program.now in
    let public = statement c.args.public.now in
    let m = memory_of (listed c.args.cells.now) in
    let states = map registers c.args.states.now in
    (accepted_exactly program public _).1
    (built_meets program public m states (memory_of-low (listed c.args.cells.now)) (registers_low c.args.states.now) (is_program c.args.program.now) c.requires.valid_public (omega (arith, length-map c.args.states.now registers, c.requires.least)) _ (returns-clause-tables c))
