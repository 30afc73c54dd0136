use Rattle.std.proofs.Common.{inl, inr}
use Rattle.sorted_lists.proofs.Differences.{difference-at_items, difference-at_end, difference-nowhere}
use Rattle.sorted_lists.proofs.first_difference.Goals as goal

pub returns-then-left-right : goal.returns-then-left-right
returns-then-left-right g c =
    difference-at_end g.T.PartialEq.eq c.args.left.now c.args.right.now c.first_unequal-unequal.result c.is_none.result c.first_unequal-unequal.ensures c.is_none.ensures c.if-is_none.true c.if-left-right.true c.min.result c.min.ensures

pub returns-else-is_none : goal.returns-else-is_none
returns-else-is_none g c =
    elim c.else-is_none.either [
      | inl w ↦ difference-nowhere g.T.PartialEq.eq c.args.left.now c.args.right.now c.first_unequal-unequal.result c.is_none.result c.first_unequal-unequal.ensures c.is_none.ensures w.0 w.1
      | inr w ↦ difference-at_items g.T.PartialEq.eq c.args.left.now c.args.right.now c.first_unequal-unequal.result c.is_none.result c.first_unequal-unequal.ensures c.is_none.ensures w
    ]
