use Rattle.std.proofs.Common.{◌≡◌, ◌<◌, ◌≤◌, ◌+◌, List, ℕ, All, length, sym, ◌∙◌, subst, arith}
use Rattle.relocation.specs.Bases.{address_by}
use Rattle.segments.proofs.Addresses.{base_within}
use Rattle.relocation.proofs.Listed.{base-first, base-next, bases-pushed, bases-whole, bases-low, bases-distinct}
use Rattle.relocation.proofs.bases.Goals as goal

pub loop-seg-init : goal.loop-seg-init
loop-seg-init c = record { so_far = c.in_ok-list.ensures.items; next = sym (base-first c.args.s.now.sizes) }

pub overflow_add-base : goal.overflow_add-base
overflow_add-base c =
    let inside : c.loop-seg.seg < length c.args.s.now.sizes = omega (arith, c.count-seg-end.ensures.count) in
    omega (arith, base-next c.args.s.now c.loop-seg.seg inside, base_within c.args.s.now.sizes (c.loop-seg.seg + 1), c.size.ensures.memory.total, c.size.ensures.size, c.loop-seg.invariant.next)

pub loop-seg-preserved : goal.loop-seg-preserved
loop-seg-preserved c =
    let sizes = c.args.s.now.sizes in
    let inside : c.loop-seg.seg < length sizes = omega (arith, c.count-seg-end.ensures.count) in
    record {
      so_far =
          c.in_ok-push.ensures.items
          ∙ bases-pushed sizes c.loop-seg.list.items c.loop-seg.seg c.loop-seg.base c.loop-seg.invariant.so_far c.loop-seg.invariant.next;
      next = omega (arith, base-next c.args.s.now c.loop-seg.seg inside, c.size.ensures.size, c.loop-seg.invariant.next);
    }

pub returns-clause-bases : goal.returns-clause-bases
returns-clause-bases c =
    c.loop-seg.invariant.so_far ∙ bases-whole c.args.s.now.sizes c.loop-seg.seg (omega (arith, c.count-seg-end.ensures.count))

pub returns-clause-low : goal.returns-clause-low
returns-clause-low c =
    subst (λ (list : List ℕ). All (λ b. b ≤ 2097153) list) (sym (returns-clause-bases c)) (bases-low c.args.s.now.sizes c.count.ensures.memory.total)

pub returns-clause-distinct : goal.returns-clause-distinct
returns-clause-distinct c p q held_p held_q e =
    bases-distinct c.args.s.now p q c.count.ensures.memory held_p held_q
    (subst (λ (list : List ℕ). address_by list p ≡ address_by list q) (returns-clause-bases c) e)
