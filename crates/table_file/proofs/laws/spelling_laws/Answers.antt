use Rattle.std.proofs.Common.{refl}
use Rattle.table_file.proofs.FirstFaults.{first_fault_is_one}
use Rattle.table_file.proofs.Spellings.{spelled_once, no_fault}
use Rattle.table_file.proofs.laws.spelling_laws.Goals as goal

pub returns-clause-once : goal.returns-clause-once
returns-clause-once c = spelled_once

pub returns-clause-no_fault : goal.returns-clause-no_fault
returns-clause-no_fault c = no_fault

pub returns-clause-spelled : goal.returns-clause-spelled
returns-clause-spelled c = λ t valid sixteen. record { parts = refl; valid = valid; sixteen = sixteen }

pub returns-clause-one_first : goal.returns-clause-one_first
returns-clause-one_first c = first_fault_is_one
