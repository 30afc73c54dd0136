use Rattle.std.proofs.Common.{◌≡◌, ◌++◌, List, ◌∙◌, length, subst, ap, arith}
use Rattle.goldilocks.specs.declared.Pair.{Pair}
use Rattle.sorted_lists.specs.Order.{in_order}
use Rattle.memory_columns.specs.Equations.{pair_cmp}
use Rattle.memory_columns.specs.Filling.{AreFillers, IsCause}
use Rattle.program_file.specs.Listing.{listing}
use Rattle.public_input.specs.Statement.{statement}
use Rattle.table_builder.specs.Columns.{reads_of}
use Rattle.table_builder.specs.Findings.{build_fault, width_finding}
use Rattle.table_builder.proofs.Told.{handed_on}
use Rattle.table_builder.proofs.BuiltColumns.{fillers_built, not_too_wide, sorting_refuses, some_access}
use Rattle.table_builder.proofs.columns.memory_columns.Goals as goal

pub sort_columns-requires : goal.sort_columns-requires
sort_columns-requires g c =
    let program = listing c.args.program.now in
    let some = some_access program (statement c.args.public.now) c.args.rows.now c.args.range_rows.now c.args.program.now.start_inside in
    omega (arith, some, ap length (rw (c.words.ensures, c.deref.ensures.value) at c.in_ok-accesses.ensures))

pub returns : goal.returns
returns g c =
    let m = g.M.Reads.cells c.args.m.now in
    let accessed : List Pair = reads_of (listing c.args.program.now) (statement c.args.public.now) c.args.rows.now c.args.range_rows.now in
    let is : c.in_ok-accesses.accesses.items ≡ accessed = rw (c.words.ensures, c.deref.ensures.value) at c.in_ok-accesses.ensures in
    let fill = c.in_ok-sort_columns.field-0.fill.items in
    let are : AreFillers m accessed fill = subst (λ xs. AreFillers m xs fill) is c.in_ok-sort_columns.ensures.fill in (
      not_too_wide m accessed fill are c.in_ok-sort_columns.ensures.room,
      record {
        fillers = fillers_built m accessed fill are;
        in_turn = c.in_ok-sort_columns.ensures.sorted ∙ ap (λ xs. in_order pair_cmp (xs ++ fill)) is;
      },
    )

pub returns-in_err-sort_columns : goal.returns-in_err-sort_columns
returns-in_err-sort_columns g c =
    let accessed : List Pair = reads_of (listing c.args.program.now) (statement c.args.public.now) c.args.rows.now c.args.range_rows.now in
    let is : c.in_ok-accesses.accesses.items ≡ accessed = rw (c.words.ensures, c.deref.ensures.value) at c.in_ok-accesses.ensures in
    let fault = c.in_err-sort_columns.field-0.0 in
    handed_on (width_finding accessed) _ _ c.from_residual-in_err-sort_columns.result (build_fault fault) c.from_residual-in_err-sort_columns.ensures.1
    (λ told found. found)
    (sorting_refuses accessed fault (subst (λ xs. IsCause xs fault) is c.in_err-sort_columns.ensures.cause))
