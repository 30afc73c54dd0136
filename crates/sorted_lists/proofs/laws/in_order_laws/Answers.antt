use Rattle.sorted_lists.proofs.InOrder.{in_order-is, in_order_only}
use Rattle.sorted_lists.proofs.laws.in_order_laws.Goals as goal

pub returns : goal.returns
returns g c = record {
  is = in_order-is g.T.Ord.cmp g.met.T.Ord.total;
  only = in_order_only g.T.Ord.cmp g.met.T.Ord.total;
}
