use Rattle.std.proofs.Common.{◌≡◌, ◌≢◌, ◌<◌, ◌≤◌, ◌+◌, ◌-◌, ◌&&◌, true, false, arith, sym, ◌∙◌, ap}
use Rattle.std.specs.Prelude.{sum}
use Rattle.segments.specs.Memory.{has_segment, names_segment, conflict, size, total_limit, IsMemory}
use Rattle.segments.proofs.Memories.{cause_absent, cause_inside, cause_fixed, cause_limit, cause_none, there_inside}
use Rattle.segments.proofs.memory.Segments.put_cause.Goals as goal

pub returns-then-not-are_there-clause-cause : goal.returns-then-not-are_there-clause-cause
returns-then-not-are_there-clause-cause c =
    let absent : (has_segment c.args.self.now c.args.place.seg && names_segment c.args.self.now c.args.value) ≡ false = cc in
    sym (cause_absent c.args.self.now c.args.place c.args.value absent)

pub returns-then-place-size-clause-cause : goal.returns-then-place-size-clause-cause
returns-then-place-size-clause-cause c =
    let m = c.args.self.now in
    let there : (has_segment m c.args.place.seg && names_segment m c.args.value) ≡ true = cc in
    let inside : c.args.place.off < size m c.args.place.seg = omega (arith, c.size-size.ensures.size) in
    c.conflict.ensures
    ∙ (ap (λ o. conflict o c.args.value) c.get.ensures.value
    ∙ sym (cause_inside m c.args.place c.args.value c.get.ensures.memory there inside))

pub returns-then-place-eq0-clause-cause : goal.returns-then-place-eq0-clause-cause
returns-then-place-eq0-clause-cause c =
    let m = c.args.self.now in
    let there : (has_segment m c.args.place.seg && names_segment m c.args.value) ≡ true = cc in
    sym (cause_fixed m c.args.place c.args.value there (omega arith) (omega (arith, c.size-size.ensures.size)))

pub returns-then-place-size-2-clause-cause : goal.returns-then-place-size-2-clause-cause
returns-then-place-size-2-clause-cause c =
    let m = c.args.self.now in
    let is : IsMemory m = c.size-size.ensures.memory in
    let there : (has_segment m c.args.place.seg && names_segment m c.args.value) ≡ true = cc in
    let other : c.args.place.seg ≢ 0 = omega arith in
    let past : size m c.args.place.seg ≤ c.args.place.off = omega (arith, c.size-size.ensures.size) in
    let over : total_limit ≤ sum m.sizes + (c.args.place.off - size m c.args.place.seg) = omega (arith, c.size-size.ensures.size, c.total.ensures.total, is.total) in
    sym (cause_limit m c.args.place c.args.value there (there_inside m c.args.place c.args.value there) other past over)

pub returns-clause-cause : goal.returns-clause-cause
returns-clause-cause c =
    let m = c.args.self.now in
    let is : IsMemory m = c.size-size.ensures.memory in
    let there : (has_segment m c.args.place.seg && names_segment m c.args.value) ≡ true = cc in
    let other : c.args.place.seg ≢ 0 = omega arith in
    let past : size m c.args.place.seg ≤ c.args.place.off = omega (arith, c.size-size.ensures.size) in
    let under : sum m.sizes + (c.args.place.off - size m c.args.place.seg) < total_limit = omega (arith, c.size-size.ensures.size, c.total.ensures.total, is.total) in
    sym (cause_none m c.args.place c.args.value is there (there_inside m c.args.place c.args.value there) other past under)
