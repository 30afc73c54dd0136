use Rattle.std.proofs.Common.{◌<◌, ◌≤◌, ◌∙◌, refl, arith}
use Rattle.std.proofs.Math.ListN.{length-set}
use Rattle.std.specs.Prelude.{slice_index}
use Rattle.table_file.specs.Faults.{count_limits}
use Rattle.table_file.proofs.FirstFaults.{missing_count, high_count}
use Rattle.table_file.proofs.Heads.{no_counts, more_counts, one_more_count}
use Rattle.table_file.proofs.head.read_counts.Goals as goal

pub loop-k-init : goal.loop-k-init
loop-k-init c = record { five = refl; has = no_counts c.args.bytes.now; same = λ k inside. absurd (omega arith) }

pub returns-then-bytes-place-clause-fault : goal.returns-then-bytes-place-clause-fault
returns-then-bytes-place-clause-fault c =
    missing_count c.args.bytes.now c.loop-k.k (omega arith) c.requires (omega arith) c.loop-k.invariant.has

pub returns-then-count-k-clause-fault : goal.returns-then-count-k-clause-fault
returns-then-count-k-clause-fault c =
    let above : slice_index count_limits c.loop-k.k < c.read_number-count.result = c.if-count-k.true in
    high_count c.args.bytes.now c.loop-k.k (omega arith) c.requires (omega arith) c.loop-k.invariant.has (rw c.read_number-count.ensures at above)

pub loop-k-preserved : goal.loop-k-preserved
loop-k-preserved c =
    let bytes = c.args.bytes.now in
    let k = c.loop-k.k in
    let counts = c.loop-k.counts in
    let low : c.read_number-count.result ≤ slice_index count_limits k = c.if-count-k.false in
    record {
      five = length-set counts k c.read_number-count.result ∙ c.loop-k.invariant.five;
      has = more_counts bytes k c.loop-k.invariant.has (omega arith) (rw c.read_number-count.ensures at low);
      same = one_more_count bytes counts k c.read_number-count.result (omega (arith, c.loop-k.invariant.five)) c.loop-k.invariant.same c.read_number-count.ensures;
    }
