use Rattle.std.proofs.Common.{rules}
use Rattle.public_input.specs.Reading.{steps_in}
use Rattle.public_input.proofs.reading.read_steps.Goals as goal

pub returns : goal.returns
unfolding steps_in
returns c = search rules
