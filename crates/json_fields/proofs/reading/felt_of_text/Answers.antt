use Rattle.std.proofs.Common.{◌∙◌, ap}
use Rattle.json_fields.specs.FieldTexts.{felt_of_text}
use Rattle.json_fields.proofs.NumberTexts.{felt_of_text-read}
use Rattle.json_fields.proofs.reading.felt_of_text.Goals as goal

pub returns : goal.returns
returns c =
    c.ok.ensures.value
    ∙ felt_of_text-read c.as_bytes.result.now c.read_text.result c.read_text.ensures.reads c.read_text.ensures.accepted
    ∙ ap felt_of_text c.as_bytes.ensures.value
