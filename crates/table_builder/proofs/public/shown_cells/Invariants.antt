use Rattle.std.proofs.Common.{◌≡◌, take}
use Rattle.goldilocks.specs.Felts.{numbers}
use Rattle.table_builder.specs.Columns.{cells_at}
use Rattle.table_builder.proofs.public.shown_cells.Given as goal

abbrev pub invariant-loop-addr : goal.invariant-loop-addr
invariant-loop-addr g l = l.cells.items ≡ cells_at (g.M.Reads.cells l.m) (numbers (take l.addr-index l.shown))
