use Rattle.std.proofs.Common.{rules}
use Rattle.file_port.proofs.replacing.flushed_in_place.Goals as goal

pub returns-in_default : goal.returns-in_default
returns-in_default c = search rules
