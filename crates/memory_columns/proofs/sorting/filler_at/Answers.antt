use Rattle.std.proofs.Common.{ap, refl}
use Rattle.memory_columns.specs.Filling.{filler_at}
use Rattle.memory_columns.proofs.Cells.{value_or_zero}
use Rattle.memory_columns.proofs.sorting.filler_at.Goals as goal

pub returns : goal.returns
unfolding filler_at
returns g c = ap (λ v. (c.args.addr.number, v)) (value_or_zero c.read.result c.unwrap_or-value.result _ (g.M.Reads.cells c.args.m.now c.args.addr.number) c.unwrap_or-value.ensures refl c.read.ensures)
