use Rattle.std.proofs.Common.{ap, sym, nat_eq, arith, ◌≡◌, ◌≢◌, false}
use Rattle.std.proofs.lemmas.Bool.Decides.{nat_tests}
use Rattle.std.specs.Prelude.{Ok}
use Rattle.segments.specs.Values.{value_quotient, field_quotient}
use Rattle.segments.specs.Relocation.{relocated}
use Rattle.segments.proofs.Values.{num_is_number, field_quotient_is}
use Rattle.segments.proofs.arithmetic.div_value.Goals as goal

pub returns-in-Some-clause-answer : goal.returns-in-Some-clause-answer
unfolding value_quotient
returns-in-Some-clause-answer c =
    let x = c.in-Num.x in
    let y = c.in-Num-b.y in
    let q = c.in-Some.quotient in
    let nonzero : y.number ≢ 0 = λ z. (let none = c.in-Some.ensures.none.1 z in cc) in
    let test : nat_eq y.number 0 ≡ false = grind (arith, nat_tests) in
    let is : q.number ≡ field_quotient x.number y.number = sym (field_quotient_is x.number y.number q.number x.in_field y.in_field nonzero q.in_field c.in-Some.ensures.some) in
    rw (c.in-Num.is, c.in-Num-b.is, test) (ap (λ v. Ok v) (num_is_number q (field_quotient x.number y.number) is))

pub returns-in-Some-clause-relocates : goal.returns-in-Some-clause-relocates
unfolding relocated
returns-in-Some-clause-relocates c sizes = rw (c.in-Num.is, c.in-Num-b.is) c.in-Some.ensures.some
