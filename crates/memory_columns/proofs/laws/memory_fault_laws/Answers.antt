use Rattle.memory_columns.proofs.OneMemory.{no_fault_exactly, first_fault_is}
use Rattle.memory_columns.proofs.laws.memory_fault_laws.Goals as goal

pub returns : goal.returns
returns c = record { none = no_fault_exactly; some = first_fault_is }
