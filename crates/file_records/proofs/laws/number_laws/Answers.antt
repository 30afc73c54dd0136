use Rattle.file_records.proofs.FileNumbers.{IsBytes-from_all, IsNumberAt-from_below}
use Rattle.file_records.proofs.laws.number_laws.Goals as goal

pub returns : goal.returns
returns c = λ bytes place all fits.
    ((λ is. is.below), IsNumberAt-from_below bytes place (IsBytes-from_all bytes all) fits)
