use Rattle.std.proofs.Common.{◌++◌, ◌∙◌, ap}
use Rattle.access_lists.specs.SmallValues.{limbs}
use Rattle.access_lists.proofs.Pieces.{pieces_more, all_pieces}
use Rattle.access_lists.proofs.values.push_limbs.Goals as goal

pub loop-row-preserved : goal.loop-row-preserved
loop-row-preserved c =
    pieces_more limbs c.args.all.now.items c.loop-row.all.items c.extend_from_slice.new.self.items c.args.rows.now c.loop-row.row-index c.row-item.result
    c.loop-row-test.true c.row-item.is c.loop-row.invariant (c.in_ok-extend_from_slice.ensures.items ∙ ap (λ xs. c.loop-row.all.items ++ xs) c.limbs.ensures)

pub returns : goal.returns
returns c = all_pieces limbs c.args.all.now.items c.loop-row.all.items c.args.rows.now c.loop-row.row-index c.loop-row-test.false c.loop-row.invariant
