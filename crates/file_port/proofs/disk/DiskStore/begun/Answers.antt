use Rattle.std.proofs.Common.{rules}
use Rattle.file_port.proofs.disk.DiskStore.begun.Goals as goal

pub returns-in-Ok-None-clause-begins : goal.returns-in-Ok-None-clause-begins
returns-in-Ok-None-clause-begins g c = search rules
