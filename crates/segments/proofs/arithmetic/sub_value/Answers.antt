use Rattle.std.proofs.Common.{◌≡◌, ap, sym, subst, ◌∙◌, arith, nat_eq, true}
use Rattle.std.specs.Prelude.{Ok, IfOk, Result, List, ℕ}
use Rattle.std.proofs.lemmas.Bool.Decides.{nat_tests}
use Rattle.goldilocks.specs.Field.{field_sub}
use Rattle.segments.specs.declared.Value.{Value}
use Rattle.segments.specs.declared.arithmetic.ArithFault.{ArithFault}
use Rattle.segments.specs.Values.{value_difference, pointer}
use Rattle.segments.specs.Relocation.{relocated}
use Rattle.segments.proofs.Values.{num_is_number}
use Rattle.segments.proofs.Relocations.{difference_relocates}
use Rattle.segments.proofs.arithmetic.sub_value.Goals as goal

-- what an answer is, relocates as the definition does
carried : (a b : Value) (r : Result Value ArithFault) (sizes : List ℕ) → r ≡ value_difference a b → IfOk (value_difference a b) (λ v. relocated sizes v ≡ field_sub (relocated sizes a) (relocated sizes b)) → IfOk r (λ v. relocated sizes v ≡ field_sub (relocated sizes a) (relocated sizes b))
carried a b r sizes is law = subst (λ (s : Result Value ArithFault). IfOk s (λ v. relocated sizes v ≡ field_sub (relocated sizes a) (relocated sizes b))) (sym is) law

pub returns-in-Num-b-clause-answer : goal.returns-in-Num-b-clause-answer
unfolding value_difference
returns-in-Num-b-clause-answer c =
    rw (c.in-Num.is, c.in-Num-b.is)
    (ap (λ v. Ok v) (num_is_number c.sub.result (field_sub c.in-Num.x.number c.in-Num-b.y.number) c.sub.ensures))

pub returns-in-Num-b-clause-relocates : goal.returns-in-Num-b-clause-relocates
returns-in-Num-b-clause-relocates c sizes few =
    carried c.args.a c.args.b _ sizes (returns-in-Num-b-clause-answer c) (difference_relocates sizes c.args.a c.args.b few)

pub returns-in-Num-b-2-clause-answer : goal.returns-in-Num-b-2-clause-answer
unfolding value_difference
returns-in-Num-b-2-clause-answer c =
    rw (c.in-Ptr.is, c.in-Num-b-2.is)
    (c.pointer.ensures ∙ ap (pointer c.in-Ptr.p.seg) (c.sub-in-Num-b-2.ensures ∙ ap (λ o. field_sub o c.in-Num-b-2.y.number) c.offset.ensures))

pub returns-in-Num-b-2-clause-relocates : goal.returns-in-Num-b-2-clause-relocates
returns-in-Num-b-2-clause-relocates c sizes few =
    carried c.args.a c.args.b _ sizes (returns-in-Num-b-2-clause-answer c) (difference_relocates sizes c.args.a c.args.b few)

pub returns-then-p-q-clause-answer : goal.returns-then-p-q-clause-answer
unfolding value_difference
returns-then-p-q-clause-answer c =
    let one_segment : nat_eq c.in-Ptr.p.seg c.in-Ptr-b-2.q.seg ≡ true = grind (arith, nat_tests) in
    let offsets = rw (c.offset-then-p-q.ensures, c.offset-then-p-q-2.ensures) at c.sub-then-p-q.ensures in
    rw (c.in-Ptr.is, c.in-Ptr-b-2.is, one_segment)
    (ap (λ v. Ok v) (num_is_number c.sub-then-p-q.result (field_sub c.in-Ptr.p.off c.in-Ptr-b-2.q.off) offsets))

pub returns-then-p-q-clause-relocates : goal.returns-then-p-q-clause-relocates
returns-then-p-q-clause-relocates c sizes few =
    carried c.args.a c.args.b _ sizes (returns-then-p-q-clause-answer c) (difference_relocates sizes c.args.a c.args.b few)
