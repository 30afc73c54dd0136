use Rattle.std.proofs.Common.{arith, rules}
use Rattle.std.proofs.lemmas.Grind.{common_steps}
use Rattle.public_input.specs.Reading.{cells_in}
use Rattle.public_input.proofs.reading.read_cells.Goals as goal

pub returns-in_default : goal.returns-in_default
unfolding cells_in
returns-in_default c = search rules

pub returns : goal.returns
unfolding cells_in
returns c = grind (arith, common_steps)
