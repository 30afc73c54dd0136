use Rattle.std.proofs.Common.{◌≡◌, ◌++◌, ◌∷◌, [], ◌+◌, take, arith, sym, ◌∙◌, set}
use Rattle.std.proofs.Math.ListN.{length-set}
use Rattle.std.proofs.lemmas.List.{take_all, take_more_set}
use Rattle.file_records.specs.Records.{values_of_bytes, value_of_bytes}
use Rattle.file_records.proofs.RecordLists.{items_more, items_all, room_more}
use Rattle.file_records.proofs.records.read_values.Goals as goal

pub loop-i-preserved : goal.loop-i-preserved
loop-i-preserved g c =
    let rest = c.loop-i.rest.now in
    let i = c.loop-i.i in
    let values = c.loop-i.values in
    let more = items_more 8 value_of_bytes (values_of_bytes g.row.N c.args.bytes.now) (take i values) g.row.N i rest c.loop-i-test.true c.loop-i.invariant.read in
    let room = room_more 8 g.row.N i rest c.loop-i-test.true c.loop-i.invariant.room in
    let written : take (i + 1) (set values i c.read.result) ≡ take i values ++ c.read.result ∷ [] = take_more_set values i c.read.result (omega (arith, c.loop-i.invariant.whole)) in
    let read = c.read.ensures in
    let front = c.split_at.ensures.front in
    let back = c.split_at.ensures.back in
    record {
      whole = length-set values i c.read.result ∙ c.loop-i.invariant.whole;
      read = cc;
      room = rw back room.1;
    }

pub returns : goal.returns
returns g c =
    let values = c.loop-i.values in
    sym (take_all c.loop-i.i values (omega (arith, c.loop-i.invariant.whole)))
    ∙ items_all 8 value_of_bytes (values_of_bytes g.row.N c.args.bytes.now) (take c.loop-i.i values) g.row.N c.loop-i.i c.loop-i.rest.now c.loop-i-test.false c.loop-i.invariant.read
