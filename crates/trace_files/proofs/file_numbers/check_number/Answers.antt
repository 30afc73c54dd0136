use Rattle.std.proofs.Common.{arith}
use Rattle.file_records.proofs.FileNumbers.{numbers_more, IsNumberAt-from_below}
use Rattle.trace_files.proofs.file_numbers.check_number.Goals as goal

pub returns-then-read_number-lt-PRIME-clause-goes_on :
    goal.returns-then-read_number-lt-PRIME-clause-goes_on
returns-then-read_number-lt-PRIME-clause-goes_on c =
    numbers_more c.args.bytes.now c.args.place c.requires.eighth c.requires.before
    (IsNumberAt-from_below c.args.bytes.now c.args.place (λ i. omega (arith, c.type_inv.bytes i)) c.requires.within (omega (arith, c.if-read_number-lt-PRIME.true, c.read_number.ensures)))
