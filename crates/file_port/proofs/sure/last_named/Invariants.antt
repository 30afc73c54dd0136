use Rattle.file_port.proofs.NamedFiles.{HeldSoFar}
use Rattle.file_port.proofs.sure.last_named.Given as goal

abbrev pub invariant-loop-index : goal.invariant-loop-index
invariant-loop-index l = HeldSoFar l.files l.name l.index l.last
