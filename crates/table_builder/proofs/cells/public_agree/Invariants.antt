use Rattle.std.proofs.Common.{◌≡◌, map, take, None}
use Rattle.goldilocks.specs.declared.Pair.{Pair}
use Rattle.table_builder.specs.Findings.{cell_finding, first_found}
use Rattle.table_builder.proofs.cells.public_agree.Given as goal

abbrev pub invariant-loop-cell : goal.invariant-loop-cell
invariant-loop-cell g l = first_found (map (λ (x : Pair). cell_finding x (g.M.Reads.cells l.m x.addr.number)) (take l.cell-index l.cells)) ≡ None
