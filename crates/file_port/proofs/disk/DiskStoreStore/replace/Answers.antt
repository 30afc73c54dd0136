use Rattle.std.proofs.Common.{rules}
use Rattle.file_port.proofs.disk.DiskStoreStore.replace.Goals as goal

pub returns-in-Err-Failed-clause-replaces : goal.returns-in-Err-Failed-clause-replaces
returns-in-Err-Failed-clause-replaces g c = search rules
