use Rattle.casm_word.specs.Transition.{registers}
use Rattle.cpu_rows.specs.Columns.{columns}
use Rattle.cpu_rows.specs.Steps.{row_of}
use Rattle.cpu_rows.proofs.builder.row_with.Goals as goal

pub returns-clause-columns : goal.returns-clause-columns
unfolding columns row_of registers
returns-clause-columns c = cc
