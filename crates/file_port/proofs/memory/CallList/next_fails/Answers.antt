use Rattle.std.proofs.Common.{rules}
use Rattle.file_port.proofs.memory.CallList.next_fails.Goals as goal

pub returns-then-listed-clause-listed : goal.returns-then-listed-clause-listed
returns-then-listed-clause-listed c = search rules

pub returns-else-listed-clause-listed : goal.returns-else-listed-clause-listed
returns-else-listed-clause-listed c = search rules
