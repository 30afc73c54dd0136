use Rattle.std.proofs.Common.{rules}
use Rattle.public_input.specs.Reading.{rc_max_in}
use Rattle.public_input.proofs.reading.read_rc_max.Goals as goal

pub returns-then-rc_max-from-clause-line : goal.returns-then-rc_max-from-clause-line
unfolding rc_max_in
returns-then-rc_max-from-clause-line c = search rules
