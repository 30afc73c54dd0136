use Rattle.std.proofs.Common.{arith}
use Rattle.table_file.proofs.FirstFaults.{first_other_byte}
use Rattle.table_file.proofs.head.has_text.Goals as goal

pub returns-then-bytes-i : goal.returns-then-bytes-i
returns-then-bytes-i c =
    first_other_byte c.args.bytes.now c.loop-i.i (omega arith) (omega arith) c.loop-i.invariant c.if-bytes-i.true
