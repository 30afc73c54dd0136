use Rattle.std.proofs.Common.{arith}
use Rattle.casm_text.proofs.Columns.{column_in, column_last}
use Rattle.casm_text.proofs.parser.column_at.Goals as goal

pub returns-then-at-lexemes : goal.returns-then-at-lexemes
returns-then-at-lexemes c = column_in 0 c.args.lexemes.now c.args.at _ (omega arith)

pub returns-then-at-gt0 : goal.returns-then-at-gt0
returns-then-at-gt0 c = column_last 0 c.args.lexemes.now c.args.at _ (omega arith) (omega arith)
