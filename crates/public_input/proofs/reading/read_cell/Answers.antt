use Rattle.std.proofs.Common.{rules}
use Rattle.public_input.specs.Reading.{next_cell}
use Rattle.public_input.proofs.reading.read_cell.Goals as goal

pub returns-in_err-cell : goal.returns-in_err-cell
unfolding next_cell
returns-in_err-cell c = search rules
