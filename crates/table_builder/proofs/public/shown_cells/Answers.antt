use Rattle.std.proofs.Common.{sym, ◌∙◌}
use Rattle.table_builder.proofs.ShownCells.{no_cells, one_more_cell}
use Rattle.table_builder.proofs.public.shown_cells.Goals as goal

pub loop-addr-init : goal.loop-addr-init
loop-addr-init g c = c.in_ok-cells.ensures.items ∙ sym (no_cells (g.M.Reads.cells c.args.m.now))

pub loop-addr-preserved : goal.loop-addr-preserved
loop-addr-preserved g c =
    one_more_cell (g.M.Reads.cells c.args.m.now) c.args.shown.now c.loop-addr.addr-index c.addr-item.result c.value_at.result c.loop-addr.cells.items c.push.new.self.items
    c.loop-addr-test.true c.addr-item.is c.value_at.ensures c.loop-addr.invariant c.in_ok-push.ensures.items
