use Rattle.std.proofs.Common.{rules}
use Rattle.file_port.proofs.sure.SureStoreStore.begin_read.Goals as goal

pub returns-in-None : goal.returns-in-None
returns-in-None c = search rules
