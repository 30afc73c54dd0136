use Rattle.std.proofs.Common.{◌≡◌, ℕ, ◌+◌, ◌-◌, ◌<◌, List, length, get_or, sym, ap, ◌∙◌, inl, inr, arith}
use Rattle.std.proofs.lemmas.Bool.{cases_eq}
use Rattle.std.proofs.lemmas.List.{get_or-map}
use Rattle.goldilocks.specs.declared.Felt.{Felt}
use Rattle.goldilocks.specs.Felts.{numbers}
use Rattle.verdict_tests.proofs.tests.stating.ascend.Goals as goal

abbrev Rises : List Felt → ℕ → Type 0
Rises xs k = get_or (numbers xs) k 0 < get_or (numbers xs) (k + 1) 0

one_more : (xs : List Felt) (next : ℕ) (x y : Felt) → 0 < next → next < length xs → x ≡ get_or xs (next - 1) x → y ≡ get_or xs next y → x.number < y.number → ((k : ℕ) → k + 1 < next → Rises xs k) → (k : ℕ) → k + 1 < next + 1 → Rises xs k
one_more xs next x y some within at_x at_y rises before k lt =
    elim (cases_eq (k + 1) next) [
      | inl here ↦
          let number : Felt → ℕ = λ c. c.number in
          let place : k ≡ next - 1 = omega arith in
          let first : get_or (numbers xs) k 0 ≡ x.number = get_or-map number xs k x 0 (omega arith) ∙ (ap (λ i. number (get_or xs i x)) place ∙ ap number (sym at_x)) in
          let second : get_or (numbers xs) (k + 1) 0 ≡ y.number = get_or-map number xs (k + 1) y 0 (omega arith) ∙ (ap (λ i. number (get_or xs i y)) here ∙ ap number (sym at_y)) in
          omega arith
      | inr ne ↦ before k (omega arith)
    ]

pub loop-next-preserved : goal.loop-next-preserved
loop-next-preserved c =
    one_more c.args.shown.now c.loop-next.next c.index-shown-next.result c.index-shown-next-in-loop-next.result (omega arith) (omega arith)
    c.index-shown-next.is c.index-shown-next-in-loop-next.is
    (omega (arith, c.if-shown-next.false, ap (λ (z : Felt). z.number) c.index-shown-next.is, ap (λ (z : Felt). z.number) c.index-shown-next-in-loop-next.is))
    c.loop-next.invariant
