use Rattle.std.proofs.Common.{rules}
use Rattle.file_port.proofs.disk.DiskStoreStore.read.Goals as goal

pub returns-in-Some-read_patiently-clause-reads : goal.returns-in-Some-read_patiently-clause-reads
returns-in-Some-read_patiently-clause-reads g c = search rules
