use Rattle.std.proofs.Common.{◌≡◌, ◌≤◌, ap, length, arith, vec_len}
use Rattle.segments.proofs.Slots.{grown, replaced}
use Rattle.segments.proofs.column.write_slot.Goals as goal

pub returns-then-off-len-clause-ok : goal.returns-then-off-len-clause-ok
returns-then-off-len-clause-ok c =
    replaced c.args.slots.now.items c.args.off c.args.slot (omega arith)

pub returns-clause-ok : goal.returns-clause-ok
returns-clause-ok c =
    let past : length c.args.slots.now.items ≤ c.args.off = omega arith in
    let long : vec_len c.make_room.new.slots ≡ length c.args.slots.now.items = omega (arith, ap length c.in_ok-make_room.ensures.items) in
    rw (c.in_ok-resize.ensures.items, long, c.in_ok-make_room.ensures.items) (grown c.args.slots.now.items c.args.off c.args.slot past)
