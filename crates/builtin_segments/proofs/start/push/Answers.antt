use Rattle.std.proofs.Common.{◌+◌, length, sym, subst, ap, ◌∙◌}
use Rattle.segments.specs.Memory.{RunMemory}
use Rattle.builtin_segments.specs.Filling.{IsFilled}
use Rattle.builtin_segments.proofs.StartMemory.{may_push, pushed, pushed-count}
use Rattle.builtin_segments.proofs.start.push.Goals as goal

pub unreachable-requires : goal.unreachable-requires
unreachable-requires c =
    let some = (c.in-Err-Refused.ensures.refused c.in-Err-Refused.field-0-0).0 (cc) in
    let none = may_push c.args.memory.now c.args.off c.args.value c.requires.filled c.requires.low c.requires.named in
    cc

pub returns-in-Ok-clause-filled : goal.returns-in-Ok-clause-filled
returns-in-Ok-clause-filled c =
    subst (λ (m : RunMemory). IsFilled m (c.args.off + 1)) (sym c.in-Ok.ensures.ok)
    (pushed c.args.memory.now c.args.off c.args.value c.requires.filled c.requires.low c.requires.named)

pub returns-in-Ok-clause-count : goal.returns-in-Ok-clause-count
returns-in-Ok-clause-count c = ap (λ (m : RunMemory). length m.sizes) c.in-Ok.ensures.ok ∙ pushed-count c.args.memory.now c.args.off c.args.value
