use Rattle.std.proofs.Common.{arith}
use Rattle.table_file.proofs.FirstFaults.{high_value}
use Rattle.table_file.proofs.WholeFiles.{low_counts, end_of_head}
use Rattle.table_file.proofs.Heads.{wrong_length}
use Rattle.table_file.proofs.reading.check.Goals as goal

pub file_len-end-requires : goal.file_len-end-requires
file_len-end-requires c = low_counts c.args.bytes.now c.in_ok-counts.counts c.in_ok-counts.ensures.head

pub high_value-requires-clause-head : goal.high_value-requires-clause-head
high_value-requires-clause-head c =
    omega (arith, c.min.ensures, c.file_len-end.ensures, c.in_ok-counts.ensures.head.has_counts.whole 4 (omega arith))

pub returns-in-Some-clause-fault : goal.returns-in-Some-clause-fault
returns-in-Some-clause-fault c =
    let bytes = c.args.bytes.now in
    let head = c.in_ok-counts.ensures.head in
    let end = end_of_head bytes c.in_ok-counts.counts head in
    let len = c.file_len-end.ensures in
    high_value bytes c.min.result c.in-Some.place c.if-not-has_text.ensures head.has_counts (omega (arith, c.min.ensures)) (omega (arith, c.min.ensures)) c.in-Some.ensures

pub returns-then-bytes-end-clause-fault : goal.returns-then-bytes-end-clause-fault
returns-then-bytes-end-clause-fault c =
    let len = c.file_len-end.ensures in
    wrong_length c.args.bytes.now c.in_ok-counts.counts c.min.result c.if-not-has_text.ensures c.in_ok-counts.ensures.head (rw len at c.min.ensures) c.in_default.ensures (rw len at c.if-bytes-end.true)

pub returns-clause-whole : goal.returns-clause-whole
returns-clause-whole c =
    let bytes = c.args.bytes.now in
    let head = c.in_ok-counts.ensures.head in
    let len = c.file_len-end.ensures in
    let end = end_of_head bytes c.in_ok-counts.counts head in
    let same = c.if-bytes-end.false in
    record {
      text = c.if-not-has_text.ensures;
      head = head;
      ends = omega arith;
      low = λ k whole. c.in_default.ensures k (omega (arith, c.min.ensures));
    }
