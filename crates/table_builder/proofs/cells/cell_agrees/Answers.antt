use Rattle.std.proofs.Common.{rules}
use Rattle.table_builder.specs.Findings.{finding_of}
use Rattle.table_builder.proofs.cells.cell_agrees.Goals as goal

pub returns-in-None : goal.returns-in-None
unfolding finding_of
returns-in-None g c = search rules
