use Rattle.std.proofs.Common.{◌∙◌, ap, map}
use Rattle.std.proofs.lemmas.Result.{on_ok_weaker}
use Rattle.segments.specs.Columns.{slot_value, with_value}
use Rattle.segments.proofs.Slots.{values-written_at}
use Rattle.segments.proofs.column.Column.put.Goals as goal

pub returns-clause-ok : goal.returns-clause-ok
returns-clause-ok c =
    on_ok_weaker c.write_slot.result
    (λ written. ap (map slot_value) written
    ∙ (values-written_at c.self.inside.slots.items c.args.off c.with.result c.args.value c.with.ensures
    ∙ ap (λ column. with_value column c.args.off c.args.value) c.self.view_is))
    c.write_slot.ensures.ok
