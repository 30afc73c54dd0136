use Rattle.std.proofs.Common.{◌++◌, ◌∙◌, ap}
use Rattle.access_lists.specs.SmallValues.{row_offsets}
use Rattle.access_lists.proofs.Pieces.{pieces_more, all_pieces}
use Rattle.access_lists.proofs.values.push_offsets.Goals as goal

pub loop-row-preserved : goal.loop-row-preserved
loop-row-preserved c =
    pieces_more row_offsets c.args.all.now.items c.loop-row.all.items c.extend_from_slice.new.self.items c.args.rows.now c.loop-row.row-index c.row-item.result
    c.loop-row-test.true c.row-item.is c.loop-row.invariant (c.in_ok-extend_from_slice.ensures.items ∙ ap (λ xs. c.loop-row.all.items ++ xs) c.row_offsets.ensures)

pub returns : goal.returns
returns c = all_pieces row_offsets c.args.all.now.items c.loop-row.all.items c.args.rows.now c.loop-row.row-index c.loop-row-test.false c.loop-row.invariant
