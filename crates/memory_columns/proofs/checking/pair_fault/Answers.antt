use Rattle.std.proofs.Common.{◌≡◌, true, eqb, sym}
use Rattle.std.proofs.lemmas.Bool.{eqb-true, eqb-false, not-true, not-false}
use Rattle.memory_columns.specs.Equations.{m1}
use Rattle.memory_columns.proofs.PairFaults.{fault-m1, fault-other_value, fault-nothing}
use Rattle.memory_columns.proofs.checking.pair_fault.Goals as goal
use Rattle.memory_columns.proofs.checking.pair_fault.Goals.{else-eq-via-then-eq+else-ne, else-eq-via-else-eq}

pub returns-then-not-climbs : goal.returns-then-not-climbs
unfolding m1
returns-then-not-climbs c =
    sym (fault-m1 c.args.pair c.args.next (λ e. let holds : c.climbs.result ≡ true = c.climbs.ensures.1 e in cc))

pub returns-then-ne : goal.returns-then-ne
unfolding m1
returns-then-ne c =
    sym (fault-other_value c.args.pair c.args.next
    (c.climbs.ensures.0 c.if-not-climbs.false)
    (eqb-true c.args.pair.addr.number c.args.next.addr.number (sym c.if-eq.ensures))
    (eqb-false c.args.pair.value.number c.args.next.value.number (not-true (eqb c.args.pair.value.number c.args.next.value.number) (sym c.if-ne.ensures))))

pub returns-else-eq : goal.returns-else-eq
unfolding m1
returns-else-eq c =
    sym (fault-nothing c.args.pair c.args.next
    (c.climbs.ensures.0 c.if-not-climbs.false)
    (λ same. elim c.else-eq.branch [
      | else-eq-via-then-eq+else-ne w ↦ eqb-true c.args.pair.value.number c.args.next.value.number (not-false (eqb c.args.pair.value.number c.args.next.value.number) (sym w.if-ne.ensures))
      | else-eq-via-else-eq w ↦ absurd (eqb-false c.args.pair.addr.number c.args.next.addr.number (sym w.if-eq.ensures) same)
    ]))
