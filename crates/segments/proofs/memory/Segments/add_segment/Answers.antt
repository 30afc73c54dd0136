use Rattle.std.proofs.Common.{◌≡◌, [], ◌∷◌, ◌++◌, sym, ◌∙◌, ap, subst}
use Rattle.std.specs.Prelude.{sum}
use Rattle.segments.specs.Columns.{kept_memory}
use Rattle.segments.specs.Memory.{RunMemory, IsMemory, with_segment}
use Rattle.segments.proofs.Columns.{kept-with_segment, Cells}
use Rattle.segments.proofs.Memories.{IsMemory-with_segment, sum-with_segment}
use Rattle.segments.proofs.memory.Segments.add_segment.Goals as goal

pub returns-clause-ok : goal.returns-clause-ok
returns-clause-ok c =
    ap kept_memory (c.in_ok-push.ensures.items ∙ ap (λ (column : Cells). c.self.inside.columns.items ++ column ∷ []) c.new.ensures)
    ∙ (kept-with_segment c.self.inside.columns.items
    ∙ ap with_segment c.self.view_is)

pub returns-clause-memory : goal.returns-clause-memory
returns-clause-memory c =
    let is : IsMemory c.args.self.now = subst (λ (m : RunMemory). IsMemory m) c.self.view_is c.self.invariant.0 in
    subst (λ (m : RunMemory). IsMemory m) (sym (returns-clause-ok c)) (IsMemory-with_segment c.args.self.now is c.requires)

pub invariant_of-self-2 : goal.invariant_of-self-2
invariant_of-self-2 c =
    let total : c.self.inside.total ≡ sum c.args.self.now.sizes = c.self.invariant.1 ∙ ap (λ (m : RunMemory). sum m.sizes) c.self.view_is in (
      returns-clause-memory c,
      total ∙ (sym (sum-with_segment c.args.self.now) ∙ ap (λ (m : RunMemory). sum m.sizes) (sym (returns-clause-ok c))),
    )
