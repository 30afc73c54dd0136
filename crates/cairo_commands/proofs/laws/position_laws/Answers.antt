use Rattle.cairo_commands.proofs.AskedNames.{KeepsPlaces-kept}
use Rattle.cairo_commands.proofs.laws.position_laws.Goals as goal

pub returns : goal.returns
returns c = λ form words call there kept. KeepsPlaces-kept form words call there kept
