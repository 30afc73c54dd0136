use Rattle.std.proofs.Common.{◌∙◌, ap, sym, subst, ◌+◌}
use Rattle.std.specs.Prelude.{slice_index}
use Rattle.segments.specs.Relocation.{segment_bases, relocated}
use Rattle.relocation.specs.Bases.{HasBase, address_by, relocated_by}
use Rattle.segments.proofs.Memories.{relocated-not_zero}
use Rattle.relocation.proofs.Listed.{relocated_by-bases}
use Rattle.relocation.proofs.relocate_value.Goals as goal
use Rattle.relocation.proofs.relocate_value.Goals.{in-Num, in-Ptr}

pub returns-clause-value : goal.returns-clause-value
unfolding relocated_by address_by
returns-clause-value c =
    elim c.match-v.branch [
      | in-Num w ↦ rw w.in-Num.is (ap (λ r. r.0) w.result-is)
      | in-Ptr w ↦ rw w.in-Ptr.is (ap (λ r. r.0) w.result-is ∙ ap (λ o. slice_index c.args.bases.now w.in-Ptr.place.seg + o) w.from.ensures)
    ]

pub returns-clause-of_sizes : goal.returns-clause-of_sizes
returns-clause-of_sizes c sizes same =
    let based : HasBase (segment_bases sizes) c.args.v = subst (λ bases. HasBase bases c.args.v) same c.requires.based in
    returns-clause-value c ∙ (ap (λ bases. relocated_by bases c.args.v) same ∙ relocated_by-bases sizes c.args.v based)

pub returns-clause-not_zero : goal.returns-clause-not_zero
returns-clause-not_zero c sizes p same is zero =
    relocated-not_zero sizes p (ap (relocated sizes) (sym is) ∙ (sym (returns-clause-of_sizes c sizes same) ∙ zero))
