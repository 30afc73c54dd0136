use Rattle.std.proofs.Common.{[], ◌∷◌, ◌++◌, sym, ◌∙◌, ap, subst}
use Rattle.std.specs.Prelude.{sum}
use Rattle.segments.specs.Columns.{kept_memory}
use Rattle.segments.specs.Memory.{RunMemory, IsMemory}
use Rattle.segments.proofs.Columns.{kept-program, Cells}
use Rattle.segments.proofs.Memories.{IsMemory-program, sum-program}
use Rattle.segments.proofs.memory.Segments.new.Goals as goal

pub returns-clause-program : goal.returns-clause-program
returns-clause-program c =
    ap kept_memory (c.in_ok-push.ensures.items ∙ (ap (λ columns. columns ++ c.in_ok-of_words.field-0 ∷ []) c.new-columns.ensures.items ∙ ap (λ (column : Cells). column ∷ []) c.in_ok-of_words.ensures))
    ∙ kept-program c.args.words.now

pub returns-clause-memory : goal.returns-clause-memory
returns-clause-memory c =
    subst (λ (m : RunMemory). IsMemory m) (sym (returns-clause-program c)) (IsMemory-program c.args.words.now c.requires)

pub invariant_of-result : goal.invariant_of-result
invariant_of-result c = (
  returns-clause-memory c,
  sym (ap (λ (m : RunMemory). sum m.sizes) (returns-clause-program c) ∙ sum-program c.args.words.now),
)
