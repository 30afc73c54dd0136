use Rattle.cpu_rows.proofs.Excluded.{flags-first_fifteen, first_broken-failing_number}
use Rattle.cpu_rows.proofs.Faults.{names}
use Rattle.cpu_rows.proofs.laws.equation_laws.Goals as goal

pub returns : goal.returns
returns c = record { names = names; flags = flags-first_fifteen; shapes = first_broken-failing_number }
