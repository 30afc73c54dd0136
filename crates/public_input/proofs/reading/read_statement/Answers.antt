use Rattle.std.proofs.Common.{rules}
use Rattle.public_input.specs.Reading.{statement_in}
use Rattle.public_input.proofs.reading.read_statement.Goals as goal

pub returns-in_err-range_begin : goal.returns-in_err-range_begin
unfolding statement_in
returns-in_err-range_begin c = search rules
