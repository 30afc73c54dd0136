use Rattle.std.proofs.Common.{◌++◌, ◌∷◌, [], ◌∙◌, ap, append-nil, sym, map}
use Rattle.std.proofs.lemmas.List.{take_all}
use Rattle.goldilocks.specs.Cells.{cells_from}
use Rattle.access_lists.proofs.Pieces.{range_cell_more, next_address, first_address}
use Rattle.access_lists.proofs.cells.push_range_cells.Goals as goal

pub loop-row-init : goal.loop-row-init
unfolding cells_from
loop-row-init c = record { address = first_address c.args.begin; items = sym (append-nil c.args.all.now.items) }

pub loop-row-preserved : goal.loop-row-preserved
loop-row-preserved c = record {
  address = c.add-addr.ensures ∙ next_address c.args.begin.number c.loop-row.row-index c.loop-row.addr.number c.loop-row.invariant.address;
  items =
      range_cell_more c.args.all.now.items c.loop-row.all.items c.push.new.self.items c.args.begin.number c.args.rows.now c.loop-row.row-index c.loop-row.addr c.row-item.result
      c.loop-row-test.true c.row-item.is c.loop-row.invariant.items c.loop-row.invariant.address
      (c.in_ok-push.ensures.items ∙ ap (λ x. c.loop-row.all.items ++ x ∷ []) c.cell.ensures);
}

pub returns : goal.returns
returns c = c.loop-row.invariant.items ∙ ap (λ rows. c.args.all.now.items ++ cells_from c.args.begin.number (map (λ r. r.value) rows)) (take_all c.loop-row.row-index c.args.rows.now c.loop-row-test.false)
