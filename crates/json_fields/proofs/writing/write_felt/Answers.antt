use Rattle.std.proofs.Common.{◌∙◌}
use Rattle.json_fields.specs.FieldTexts.{hex_text}
use Rattle.json_fields.proofs.WrittenTokens.{string_written}
use Rattle.json_fields.proofs.writing.write_felt.Goals as goal

pub returns : goal.returns
returns c = string_written c.string.result c.args.out.now c.string.new.self c.as_str.result.now (hex_text c.args.number) c.string.ensures (c.as_str.ensures.value ∙ c.in_ok-text.ensures)
