use Rattle.json_fields.proofs.ReadBack.{json_of-compact_text}
use Rattle.json_fields.proofs.laws.read_back_laws.Goals as goal

pub returns : goal.returns
returns c = json_of-compact_text
