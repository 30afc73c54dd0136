use Rattle.std.proofs.Common.{◌≡◌, ◌∙◌, ap, sym}
use Rattle.table_file.specs.Tables.{contents}
use Rattle.range_columns.specs.Equations.{first_range_fault}
use Rattle.constraint_checker.specs.Lists.{table_small_values}
use Rattle.constraint_checker.proofs.Groups.{of_range_fault, small_by_fault}
use Rattle.constraint_checker.proofs.checking.verdict_on_small_values.Goals as goal

pub returns-in-Some : goal.returns-in-Some
returns-in-Some c =
    let fault_is : c.in_ok-fault.field-0 ≡ first_range_fault (table_small_values (contents c.args.tables.now)) c.args.tables.now.small.sorted.items c.args.public.now.rc_min c.args.public.now.rc_max =
    c.in_ok-fault.ensures.fault
    ∙ (ap (λ xs. first_range_fault xs c.as_slice-sorted.result.now c.args.public.now.rc_min c.args.public.now.rc_max) (rw (c.deref.ensures.value, c.deref-2.ensures.value, c.deref-3.ensures.value) at c.in_ok-values.ensures)
    ∙ ap (λ ys. first_range_fault (table_small_values (contents c.args.tables.now)) ys c.args.public.now.rc_min c.args.public.now.rc_max) c.as_slice-sorted.ensures.value) in
    c.refused.ensures ∙ sym (small_by_fault (table_small_values (contents c.args.tables.now)) c.args.tables.now.small.sorted.items c.args.public.now.rc_min c.args.public.now.rc_max ∙ ap of_range_fault (sym fault_is ∙ c.in-Some.is))

pub returns-in-None : goal.returns-in-None
returns-in-None c =
    let fault_is : c.in_ok-fault.field-0 ≡ first_range_fault (table_small_values (contents c.args.tables.now)) c.args.tables.now.small.sorted.items c.args.public.now.rc_min c.args.public.now.rc_max =
    c.in_ok-fault.ensures.fault
    ∙ (ap (λ xs. first_range_fault xs c.as_slice-sorted.result.now c.args.public.now.rc_min c.args.public.now.rc_max) (rw (c.deref.ensures.value, c.deref-2.ensures.value, c.deref-3.ensures.value) at c.in_ok-values.ensures)
    ∙ ap (λ ys. first_range_fault (table_small_values (contents c.args.tables.now)) ys c.args.public.now.rc_min c.args.public.now.rc_max) c.as_slice-sorted.ensures.value) in
    sym (small_by_fault (table_small_values (contents c.args.tables.now)) c.args.tables.now.small.sorted.items c.args.public.now.rc_min c.args.public.now.rc_max ∙ ap of_range_fault (sym fault_is ∙ c.in-None.is))
