use Rattle.std.proofs.Common.{refl}
use Rattle.cpu_rows.proofs.BuiltRows.{IsInverseOrZero-from_option}
use Rattle.cpu_rows.proofs.builder.inverse_or_zero.Goals as goal

pub returns : goal.returns
returns c = IsInverseOrZero-from_option _ c.inverse.result c.unwrap_or.result _ refl c.inverse.ensures.none c.inverse.ensures.some c.unwrap_or.ensures
