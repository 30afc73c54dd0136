use Rattle.std.proofs.Common.{rules}
use Rattle.casm_text.proofs.parser.add_line_unless.Goals as goal

pub returns-in-Some : goal.returns-in-Some
returns-in-Some c = search rules
