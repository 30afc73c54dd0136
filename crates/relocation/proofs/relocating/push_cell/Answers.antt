use Rattle.std.proofs.Common.{◌≡◌, length, Some, sym, ◌∙◌, ap, arith}
use Rattle.segments.specs.Memory.{cell}
use Rattle.relocation.proofs.Listed.{length-segment_bases}
use Rattle.relocation.proofs.Cells.{held_based, cells-held, cells-free}
use Rattle.relocation.proofs.relocating.push_cell.Goals as goal

pub address_at-requires-clause-there : goal.address_at-requires-clause-there
address_at-requires-clause-there c =
    omega (arith, c.requires.there, ap length c.requires.bases, length-segment_bases c.args.memory.now.sizes)

pub relocate_value-requires-clause-based : goal.relocate_value-requires-clause-based
relocate_value-requires-clause-based c =
    let held : cell c.args.memory.now c.args.at ≡ Some c.in-Some.value = sym c.get.ensures.value ∙ c.in-Some.is in
    held_based c.args.memory.now c.args.bases.now c.args.at c.in-Some.value c.get.ensures.memory c.requires.bases held

pub returns-in_ok-push : goal.returns-in_ok-push
returns-in_ok-push c =
    let held : cell c.args.memory.now c.args.at ≡ Some c.in-Some.value = sym c.get.ensures.value ∙ c.in-Some.is in
    cells-held c.args.memory.now c.args.at c.in-Some.value c.args.cells.now.items c.push.new.self.items c.address_at.result c.relocate_value.result
    c.requires.before held (c.address_at.ensures c.args.memory.now.sizes c.requires.bases) (c.relocate_value.ensures.of_sizes c.args.memory.now.sizes c.requires.bases) c.in_ok-push.ensures.items

pub returns-in_default : goal.returns-in_default
returns-in_default c =
    cells-free c.args.memory.now c.args.at c.args.cells.now.items c.requires.before (sym c.get.ensures.value ∙ c.in_default.is)
