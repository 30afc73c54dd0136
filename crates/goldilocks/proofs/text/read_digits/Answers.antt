use Rattle.std.proofs.Common.{◌≡◌, ◌<◌, ◌≤◌, ℕ, ◌∙◌, ap, subst, arith, inl, inr, get_or}
use Rattle.std.specs.Char.{digit_value}
use Rattle.std.specs.List.{slice_index}
use Rattle.std.proofs.lemmas.Bool.{cases_lt}
use Rattle.std.proofs.lemmas.Grind.{common_steps}
use Rattle.goldilocks.proofs.Texts.{value_turn, digits_turn}
use Rattle.goldilocks.proofs.text.read_digits.Goals as goal

pub loop-i-preserved : goal.loop-i-preserved
loop-i-preserved c =
    let text = c.args.text.now in
    let Q : ℕ → Type 0 = λ x. digit_value x < c.args.base in
    let low : digit_value (get_or c.args.text.now c.loop-i.i 0) < c.args.base = subst Q c.from.ensures c.in-Some.ensures.value.0 in
    record {
      value =
          rw (c.min-number.ensures, c.from-in-loop-i.ensures, c.from-in-loop-i-2.ensures, c.from-in-loop-i-3.ensures)
          (value_turn text c.args.start c.args.base c.loop-i.i (omega arith) (omega arith) c.loop-i.number c.in-Some.digit (omega arith) c.loop-i.invariant.value
          (c.in-Some.ensures.value.1 ∙ ap digit_value c.from.ensures));
      digits = digits_turn text c.args.start c.args.base c.loop-i.i (omega arith) (omega arith) c.loop-i.invariant.digits low;
      before = λ k l h.
          elim (cases_lt k c.loop-i.i) [
            | inl m ↦ c.loop-i.invariant.before k l m
            | inr m ↦
                let e : c.loop-i.i ≡ k = omega arith in
                let R : ℕ → Type 0 = λ x. digit_value (get_or c.args.text.now x 0) < c.args.base in
                subst R e low
          ];
    }

pub returns-in_default : goal.returns-in_default
returns-in_default c =
    let other : c.args.base ≤ digit_value (slice_index c.args.text.now c.loop-i.i) = grind (arith, common_steps) in
    record { answer = (omega arith, omega arith, other, c.loop-i.invariant.before) }

pub invariant_of-result : goal.invariant_of-result
invariant_of-result c = record { in_field = omega arith }
