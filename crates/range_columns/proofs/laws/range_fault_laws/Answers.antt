use Rattle.range_columns.proofs.FirstFault.{no_fault_exactly, first_fault_is}
use Rattle.range_columns.proofs.laws.range_fault_laws.Goals as goal

pub returns : goal.returns
returns c = record { none = no_fault_exactly; some = first_fault_is }
