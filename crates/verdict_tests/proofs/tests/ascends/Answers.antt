use Rattle.std.proofs.Common.{◌≡◌, ℕ, ◌+◌, ◌-◌, ◌<◌, List, length, get_or, sym, ap, ◌∙◌, inl, inr, arith}
use Rattle.std.proofs.lemmas.Bool.{cases_eq}
use Rattle.std.proofs.lemmas.List.{get_or-map}
use Rattle.goldilocks.specs.declared.Pair.{Pair}
use Rattle.goldilocks.specs.Cells.{addresses}
use Rattle.verdict_tests.proofs.tests.ascends.Goals as goal

abbrev Rises : List Pair → ℕ → Type 0
Rises cells k = get_or (addresses cells) k 0 < get_or (addresses cells) (k + 1) 0

one_more : (cells : List Pair) (next : ℕ) (x y : Pair) → 0 < next → next < length cells → x ≡ get_or cells (next - 1) x → y ≡ get_or cells next y → x.addr.number < y.addr.number → ((k : ℕ) → k + 1 < next → Rises cells k) → (k : ℕ) → k + 1 < next + 1 → Rises cells k
one_more cells next x y some within at_x at_y rises before k lt =
    elim (cases_eq (k + 1) next) [
      | inl here ↦
          let addr : Pair → ℕ = λ c. c.addr.number in
          let place : k ≡ next - 1 = omega arith in
          let first : get_or (addresses cells) k 0 ≡ x.addr.number = get_or-map addr cells k x 0 (omega arith) ∙ (ap (λ i. addr (get_or cells i x)) place ∙ ap addr (sym at_x)) in
          let second : get_or (addresses cells) (k + 1) 0 ≡ y.addr.number = get_or-map addr cells (k + 1) y 0 (omega arith) ∙ (ap (λ i. addr (get_or cells i y)) here ∙ ap addr (sym at_y)) in
          omega arith
      | inr ne ↦ before k (omega arith)
    ]

pub loop-next-preserved : goal.loop-next-preserved
loop-next-preserved c =
    one_more c.args.cells.now c.loop-next.next c.index-cells-next.result c.index-cells-next-in-loop-next.result (omega arith) (omega arith)
    c.index-cells-next.is c.index-cells-next-in-loop-next.is
    (omega (arith, c.if-cells-next.false, ap (λ (z : Pair). z.addr.number) c.index-cells-next.is, ap (λ (z : Pair). z.addr.number) c.index-cells-next-in-loop-next.is))
    c.loop-next.invariant
