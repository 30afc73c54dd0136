use Rattle.sorted_lists.proofs.Differences.{difference-none, difference-some}
use Rattle.sorted_lists.proofs.laws.difference_laws.Goals as goal

pub returns : goal.returns
returns g c = record {
  none = difference-none g.T.PartialEq.eq;
  some = difference-some g.T.PartialEq.eq;
}
