use Rattle.std.proofs.Common.{◌∙◌, refl, ap}
use Rattle.std.specs.Prelude.{unwrap_or}
use Rattle.table_builder.specs.Rows.{limb_row}
use Rattle.table_builder.proofs.Kept.{limbs_kept}
use Rattle.table_builder.proofs.RangeRows.{narrow_range_cell}
use Rattle.table_builder.proofs.rows.range_row.Goals as goal

pub returns-in-Some-split : goal.returns-in-Some-split
returns-in-Some-split g c = (
  narrow_range_cell c.args.i c.args.addr.number c.in-Some.value.number (g.M.Reads.cells c.args.m.now c.args.addr.number) c.in-Some.ensures (c.in-Some-split.ensures.some.0 refl),
  limbs_kept c.in-Some.value.number c.in-Some-split.row c.in-Some-split.ensures.limbs
      ∙ ap (λ o. limb_row (unwrap_or o 0)) c.in-Some.ensures,
)
