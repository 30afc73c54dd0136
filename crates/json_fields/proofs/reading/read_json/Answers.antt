use Rattle.std.proofs.Common.{◌∙◌, sym, ap}
use Rattle.serde_json.specs.Read.{read}
use Rattle.json_fields.proofs.ReadValues.{json_of-text, json_of-no_text}
use Rattle.json_fields.proofs.reading.read_json.Goals as goal

pub returns-in_default : goal.returns-in_default
returns-in_default c = json_of-no_text c.args.bytes.now c.in_default.ensures.cases.0

pub returns-in-Ok-from_str : goal.returns-in-Ok-from_str
returns-in-Ok-from_str c =
    sym c.in-Ok-from_str.ensures.ok ∙ ap read c.in-Ok.ensures.cases.0 ∙ sym (json_of-text c.args.bytes.now c.in-Ok.ensures.cases.1)
