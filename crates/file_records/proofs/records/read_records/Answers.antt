use Rattle.std.proofs.Common.{◌≡◌}
use Rattle.file_records.specs.Records.{records_in}
use Rattle.file_records.proofs.RecordLists.{items_more, items_all, room_more}
use Rattle.file_records.proofs.records.read_records.Goals as goal

pub loop-preserved : goal.loop-preserved
loop-preserved g c =
    let size = g.R.Record.SIZE in
    let value_in = g.R.Record.value_in in
    let rest = c.loop.rest.now in
    let more = items_more size value_in (records_in size value_in c.args.count c.args.bytes.now) c.loop.values.items c.args.count c.loop.counter rest c.loop-test.true c.loop.invariant.read in
    let room = room_more size c.args.count c.loop.counter rest c.loop-test.true c.loop.invariant.room in
    let pushed = c.in_ok-push.ensures.items in
    let read = c.read.ensures in
    let sized : c.SIZE.result ≡ size = c.SIZE.ensures in
    let front = c.split_at.ensures.front in
    let back = c.split_at.ensures.back in
    record {
      read = cc;
      room = rw (back, sized) room.1;
    }

pub returns : goal.returns
returns g c =
    items_all g.R.Record.SIZE g.R.Record.value_in _ c.loop.values.items c.args.count c.loop.counter c.loop.rest.now c.loop-test.false c.loop.invariant.read
