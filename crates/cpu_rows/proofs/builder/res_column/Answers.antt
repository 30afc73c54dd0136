use Rattle.cpu_rows.proofs.BuiltRows.{IsRes-jump, IsRes-other}
use Rattle.cpu_rows.proofs.builder.res_column.Goals as goal

pub returns-then-flags : goal.returns-then-flags
returns-then-flags c = IsRes-jump c.args.flags _ _ _ _ c.if-flags.true c.inverse_or_zero.ensures

pub returns-else-flags : goal.returns-else-flags
returns-else-flags c = IsRes-other c.args.flags _ _ _ _ c.if-flags.false c.res.ensures
