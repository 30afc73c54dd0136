use Rattle.std.proofs.Common.{◌≡◌, ap, sym, subst}
use Rattle.std.specs.Prelude.{Ok, IfOk, Result, List, ℕ}
use Rattle.goldilocks.specs.Field.{field_mul}
use Rattle.segments.specs.declared.Value.{Value}
use Rattle.segments.specs.declared.arithmetic.ArithFault.{ArithFault}
use Rattle.segments.specs.Values.{value_product}
use Rattle.segments.specs.Relocation.{relocated}
use Rattle.segments.proofs.Values.{num_is_number}
use Rattle.segments.proofs.Relocations.{product_relocates}
use Rattle.segments.proofs.arithmetic.mul_value.Goals as goal

-- what an answer is, relocates as the definition does
carried : (a b : Value) (r : Result Value ArithFault) (sizes : List ℕ) → r ≡ value_product a b → IfOk (value_product a b) (λ v. relocated sizes v ≡ field_mul (relocated sizes a) (relocated sizes b)) → IfOk r (λ v. relocated sizes v ≡ field_mul (relocated sizes a) (relocated sizes b))
carried a b r sizes is law = subst (λ (s : Result Value ArithFault). IfOk s (λ v. relocated sizes v ≡ field_mul (relocated sizes a) (relocated sizes b))) (sym is) law

pub returns-in-Num-b-clause-answer : goal.returns-in-Num-b-clause-answer
unfolding value_product
returns-in-Num-b-clause-answer c =
    rw (c.in-Num.is, c.in-Num-b.is)
    (ap (λ v. Ok v) (num_is_number c.mul.result (field_mul c.in-Num.x.number c.in-Num-b.y.number) c.mul.ensures))

pub returns-in-Num-b-clause-relocates : goal.returns-in-Num-b-clause-relocates
returns-in-Num-b-clause-relocates c sizes =
    carried c.args.a c.args.b _ sizes (returns-in-Num-b-clause-answer c) (product_relocates sizes c.args.a c.args.b)
