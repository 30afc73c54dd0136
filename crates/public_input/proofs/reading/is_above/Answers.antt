use Rattle.std.proofs.Common.{rules}
use Rattle.public_input.specs.Reading.{is_above}
use Rattle.public_input.proofs.reading.is_above.Goals as goal

pub returns-in-Some : goal.returns-in-Some
unfolding is_above
returns-in-Some c = search rules
