use Rattle.std.proofs.Common.{refl}
use Rattle.segments.proofs.laws.limit_laws.Goals as goal

pub returns : goal.returns
returns c = record { segments = refl; total = refl }
