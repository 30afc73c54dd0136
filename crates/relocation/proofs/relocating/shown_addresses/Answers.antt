use Rattle.std.proofs.Common.{◌≡◌, length, ap, sym, ◌∙◌, arith}
use Rattle.goldilocks.specs.Felts.{numbers}
use Rattle.segments.specs.Relocation.{address}
use Rattle.builtin_segments.specs.Start.{start_stack}
use Rattle.relocation.proofs.Cells.{more_shown, all_shown}
use Rattle.relocation.proofs.relocating.shown_addresses.Goals as goal

pub loop-off-init : goal.loop-off-init
loop-off-init c sizes same = ap numbers c.in_ok-list.ensures.items

pub loop-off-preserved : goal.loop-off-preserved
loop-off-preserved c sizes same =
    more_shown sizes c.loop-off.list.items c.push.new.self.items c.loop-off.off c.address_at.result (c.loop-off.invariant sizes same)
    c.in_ok-push.ensures.items (c.address_at.ensures sizes same ∙ ap (address sizes) c.stack_place.ensures)

pub returns : goal.returns
returns c sizes same =
    all_shown sizes c.args.builtins c.loop-off.list.items c.loop-off.off (omega (arith, c.start_stack_length-count.ensures)) (c.loop-off.invariant sizes same)
