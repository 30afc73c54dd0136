use Rattle.std.proofs.Common.{refl}
use Rattle.table_file.proofs.Lengths.{length-spelled_tables}
use Rattle.table_file.proofs.laws.limit_laws.Goals as goal

pub returns-clause-value : goal.returns-clause-value
returns-clause-value c = refl

pub returns-clause-within : goal.returns-clause-within
returns-clause-within c = length-spelled_tables
