use Rattle.std.proofs.Common.{refl}
use Rattle.segments.proofs.Places.{cmp-less, cmp-equal, eq-same}
use Rattle.segments.proofs.laws.order_of_places.Goals as goal

pub returns : goal.returns
returns c = record { less = cmp-less; equal = cmp-equal; eq = eq-same; defined = λ p q. refl }
