use Rattle.table_file.proofs.Readings.{reading-spells, spells-reading, reading-first, first-reading, bytes_of_all}
use Rattle.table_file.proofs.laws.reading_laws.Goals as goal

pub returns-clause-tables : goal.returns-clause-tables
returns-clause-tables c = λ bytes t all. (λ e. spells-reading bytes t (bytes_of_all bytes all) e, λ spells. reading-spells bytes t spells)

pub returns-clause-fault : goal.returns-clause-fault
returns-clause-fault c = λ bytes f. (λ e. first-reading bytes f e, λ first. reading-first bytes f first)
