use Rattle.std.proofs.Common.{◌++◌, ◌∷◌, [], ◌∙◌, ap, append-nil, sym}
use Rattle.std.proofs.lemmas.List.{take_all}
use Rattle.goldilocks.specs.Cells.{cells_from}
use Rattle.access_lists.proofs.Pieces.{cell_more, next_address, first_address}
use Rattle.access_lists.proofs.cells.push_cells_from.Goals as goal

pub loop-value-init : goal.loop-value-init
unfolding cells_from
loop-value-init c = record { address = first_address c.args.begin; items = sym (append-nil c.args.all.now.items) }

pub loop-value-preserved : goal.loop-value-preserved
loop-value-preserved c = record {
  address = c.add-addr.ensures ∙ next_address c.args.begin.number c.loop-value.value-index c.loop-value.addr.number c.loop-value.invariant.address;
  items =
      cell_more c.args.all.now.items c.loop-value.all.items c.push.new.self.items c.args.begin.number c.args.values.now c.loop-value.value-index c.loop-value.addr c.value-item.result
      c.loop-value-test.true c.value-item.is c.loop-value.invariant.items c.loop-value.invariant.address
      (c.in_ok-push.ensures.items ∙ ap (λ x. c.loop-value.all.items ++ x ∷ []) c.cell.ensures);
}

pub returns : goal.returns
returns c = c.loop-value.invariant.items ∙ ap (λ values. c.args.all.now.items ++ cells_from c.args.begin.number values) (take_all c.loop-value.value-index c.args.values.now c.loop-value-test.false)
