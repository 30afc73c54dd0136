use Rattle.std.proofs.Common.{◌≡◌, ◌∙◌, List, subst, ap, None}
use Rattle.std.specs.Prelude.{◌++◌}
use Rattle.goldilocks.specs.declared.Felt.{Felt}
use Rattle.goldilocks.specs.Felts.{numbers}
use Rattle.sorted_lists.specs.Order.{in_order}
use Rattle.range_columns.specs.Equations.{felt_cmp}
use Rattle.range_columns.specs.Filling.{absent_values}
use Rattle.public_input.specs.Statement.{statement}
use Rattle.table_builder.specs.Columns.{row_small_values}
use Rattle.table_builder.specs.Findings.{first_found, limit_findings}
use Rattle.table_builder.proofs.Filled.{small_within}
use Rattle.table_builder.proofs.Limits.{limits_hold}
use Rattle.table_builder.proofs.BuiltColumns.{absent_built}
use Rattle.table_builder.proofs.columns.small_columns.Goals as goal

pub sort_range-requires-clause-within : goal.sort_range-requires-clause-within
sort_range-requires-clause-within c =
    let public = statement c.args.public.now in
    let values = c.in_ok-values.values.items in
    let hold = limits_hold public (numbers values) (rw c.deref.ensures.value at c.in_ok-within_limits.ensures.0) in
    small_within values public.rc_min public.rc_max hold.0 hold.1

pub returns : goal.returns
returns c =
    let public = statement c.args.public.now in
    let values : List Felt = row_small_values c.args.rows.now c.args.range_rows.now in
    let is : c.in_ok-values.values.items ≡ values = c.in_ok-values.ensures in
    let made = c.in_ok-sort_range.field-0 in (
      subst (λ vs. first_found (limit_findings public (numbers vs)) ≡ None) is (rw c.deref.ensures.value at c.in_ok-within_limits.ensures.0),
      record {
        fillers = absent_built made.fill.items (absent_values values public.rc_min public.rc_max) (c.in_ok-sort_range.ensures.fill ∙ ap (λ vs. absent_values vs public.rc_min public.rc_max) is);
        in_turn = c.in_ok-sort_range.ensures.sorted ∙ ap (λ vs. in_order felt_cmp (vs ++ made.fill.items)) is;
      },
    )
