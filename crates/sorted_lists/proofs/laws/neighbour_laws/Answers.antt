use Rattle.sorted_lists.proofs.Neighbours.{first_between-none, none_between, some_between}
use Rattle.sorted_lists.proofs.laws.neighbour_laws.Goals as goal

pub returns : goal.returns
returns g c = record {
  none = λ found xs. (none_between found xs, first_between-none found xs);
  some = some_between;
}
