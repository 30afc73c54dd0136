use Rattle.std.proofs.Common.{◌≡◌, sym}
use Rattle.std.specs.Prelude.{IsSorted}
use Rattle.sorted_lists.specs.Order.{in_order}
use Rattle.sorted_lists.proofs.Differences.{difference-none}
use Rattle.sorted_lists.proofs.InOrder.{in_order_kept, in_order-from_sorted, sorted_from_test}
use Rattle.sorted_lists.proofs.Occurrences.{eq_tells}
use Rattle.sorted_lists.proofs.order_difference.Goals as goal

pub returns-then-same_items : goal.returns-then-same_items
returns-then-same_items g c =
    let left = in_order g.T.Ord.cmp c.args.left.items in
    let right = in_order g.T.Ord.cmp c.args.right.now in
    let alike : left ≡ right = (rw c.deref.ensures.value at c.same_items.ensures) c.if-same_items.true in
    sym ((difference-none g.T.PartialEq.eq (eq_tells g.T.Ord.cmp g.T.PartialEq.eq c.requires g.met.T.Eq.laws.refl g.met.T.Ord.matches_eq) left right).1 alike)

pub returns-then-is_sorted : goal.returns-then-is_sorted
returns-then-is_sorted g c =
    let left : in_order g.T.Ord.cmp c.args.left.items ≡ c.sort_unstable.new.self.items = in_order-from_sorted g.T.Ord.cmp g.met.T.Ord.total c.requires c.args.left.items c.sort_unstable.new.self.items c.sort_unstable.ensures.permutation c.sort_unstable.ensures.sorted in
    let up : IsSorted g.T.Ord.cmp c.args.right.now = sorted_from_test g.T.Ord.cmp g.met.T.Ord.total g.T.PartialOrd.partial_cmp g.met.T.Ord.matches_partial_cmp c.args.right.now c.if-is_sorted.ensures.cases in
    rw (left, in_order_kept g.T.Ord.cmp g.met.T.Ord.total c.requires c.args.right.now up, ← c.deref-then-is_sorted.ensures.value) c.first_difference.ensures

pub returns : goal.returns
returns g c =
    let left : in_order g.T.Ord.cmp c.args.left.items ≡ c.sort_unstable.new.self.items = in_order-from_sorted g.T.Ord.cmp g.met.T.Ord.total c.requires c.args.left.items c.sort_unstable.new.self.items c.sort_unstable.ensures.permutation c.sort_unstable.ensures.sorted in
    let copied : c.in_ok-ordered.ordered.items ≡ c.args.right.now = c.in_ok-ordered.ensures.items in
    let right : in_order g.T.Ord.cmp c.in_ok-ordered.ordered.items ≡ c.sort_unstable-2.new.self.items = in_order-from_sorted g.T.Ord.cmp g.met.T.Ord.total c.requires c.in_ok-ordered.ordered.items c.sort_unstable-2.new.self.items c.sort_unstable-2.ensures.permutation c.sort_unstable-2.ensures.sorted in
    rw (left, ← copied, right, ← c.deref-2.ensures.value, ← c.deref-3.ensures.value) c.first_difference-2.ensures
