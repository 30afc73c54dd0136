use Rattle.std.proofs.Common.{◌≡◌, ap, sym, subst, ◌∙◌}
use Rattle.std.specs.Prelude.{Ok, IfOk, Result, List, ℕ}
use Rattle.goldilocks.specs.Field.{field_add}
use Rattle.segments.specs.declared.Value.{Value}
use Rattle.segments.specs.declared.arithmetic.ArithFault.{ArithFault}
use Rattle.segments.specs.Values.{value_sum, pointer}
use Rattle.segments.specs.Relocation.{relocated}
use Rattle.segments.proofs.Values.{num_is_number}
use Rattle.segments.proofs.Relocations.{sum_relocates}
use Rattle.segments.proofs.arithmetic.add_value.Goals as goal

-- what an answer is, relocates as the definition does
carried : (a b : Value) (r : Result Value ArithFault) (sizes : List ℕ) → r ≡ value_sum a b → IfOk (value_sum a b) (λ v. relocated sizes v ≡ field_add (relocated sizes a) (relocated sizes b)) → IfOk r (λ v. relocated sizes v ≡ field_add (relocated sizes a) (relocated sizes b))
carried a b r sizes is law = subst (λ (s : Result Value ArithFault). IfOk s (λ v. relocated sizes v ≡ field_add (relocated sizes a) (relocated sizes b))) (sym is) law

pub returns-in-Num-b-clause-answer : goal.returns-in-Num-b-clause-answer
unfolding value_sum
returns-in-Num-b-clause-answer c =
    rw (c.in-Num.is, c.in-Num-b.is)
    (ap (λ v. Ok v) (num_is_number c.add.result (field_add c.in-Num.x.number c.in-Num-b.y.number) c.add.ensures))

pub returns-in-Num-b-clause-relocates : goal.returns-in-Num-b-clause-relocates
returns-in-Num-b-clause-relocates c sizes few =
    carried c.args.a c.args.b _ sizes (returns-in-Num-b-clause-answer c) (sum_relocates sizes c.args.a c.args.b few)

pub returns-in-Ptr-b-clause-answer : goal.returns-in-Ptr-b-clause-answer
unfolding value_sum
returns-in-Ptr-b-clause-answer c =
    rw (c.in-Num.is, c.in-Ptr-b.is)
    (c.pointer.ensures ∙ ap (pointer c.in-Ptr-b.q.seg) (c.add-in-Ptr-b.ensures ∙ ap (λ o. field_add o c.in-Num.x.number) c.offset.ensures))

pub returns-in-Ptr-b-clause-relocates : goal.returns-in-Ptr-b-clause-relocates
returns-in-Ptr-b-clause-relocates c sizes few =
    carried c.args.a c.args.b _ sizes (returns-in-Ptr-b-clause-answer c) (sum_relocates sizes c.args.a c.args.b few)

pub returns-in-Num-b-2-clause-answer : goal.returns-in-Num-b-2-clause-answer
unfolding value_sum
returns-in-Num-b-2-clause-answer c =
    rw (c.in-Ptr.is, c.in-Num-b-2.is)
    (c.pointer-in-Num-b-2.ensures ∙ ap (pointer c.in-Ptr.p.seg) (c.add-in-Num-b-2.ensures ∙ ap (λ o. field_add o c.in-Num-b-2.y.number) c.offset-in-Num-b-2.ensures))

pub returns-in-Num-b-2-clause-relocates : goal.returns-in-Num-b-2-clause-relocates
returns-in-Num-b-2-clause-relocates c sizes few =
    carried c.args.a c.args.b _ sizes (returns-in-Num-b-2-clause-answer c) (sum_relocates sizes c.args.a c.args.b few)
