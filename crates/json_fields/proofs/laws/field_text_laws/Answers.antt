use Rattle.json_fields.proofs.NumberTexts.{felt_of_text-Writes, Writes-felt_of_text, felt_of_text-hex_text}
use Rattle.json_fields.proofs.laws.field_text_laws.Goals as goal

pub returns-clause-read : goal.returns-clause-read
returns-clause-read c text x = (Writes-felt_of_text text x, felt_of_text-Writes text x)

pub returns-clause-written : goal.returns-clause-written
returns-clause-written c = felt_of_text-hex_text
