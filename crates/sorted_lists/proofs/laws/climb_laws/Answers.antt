use Rattle.sorted_lists.proofs.Neighbours.{climb_cases, climb_from_cases}
use Rattle.sorted_lists.proofs.laws.climb_laws.Goals as goal

pub returns : goal.returns
returns c = λ a b. (climb_cases a b, climb_from_cases a b)
