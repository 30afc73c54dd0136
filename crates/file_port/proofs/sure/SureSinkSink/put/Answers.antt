use Rattle.std.proofs.Common.{rules}
use Rattle.file_port.proofs.sure.SureSinkSink.put.Goals as goal

pub returns-in-Ok : goal.returns-in-Ok
returns-in-Ok c = search rules
