use Rattle.std.proofs.Common.{◌∙◌, ap, Some, map}
use Rattle.serde_json.specs.View.{view}
use Rattle.json_fields.proofs.ReadValues.{list_in-view}
use Rattle.hint_cells.proofs.reading.list_in.Goals as goal

pub returns : goal.returns
returns c = ap (λ vs. Some (map view vs)) c.as_slice.ensures.value ∙ list_in-view (view c.args.value.now) c.in_ok-entries.entries.now.items c.in_ok-entries.ensures
