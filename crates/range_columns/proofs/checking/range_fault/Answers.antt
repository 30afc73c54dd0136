use Rattle.std.proofs.Common.{◌≡◌, ◌∙◌, ap, sym, arith, rules}
use Rattle.std.specs.Option.{option_map}
use Rattle.range_columns.specs.Equations.{first_range_fault, fault_at, q4_fault}
use Rattle.range_columns.proofs.InRange.{q1-fails, q1-holds, q3-fails, q3-holds, at_q1, at_q2, at_q3, at_q4, within_range, none_is, number_of}
use Rattle.range_columns.proofs.FirstFault.{none_of_fault, first_of_fault}
use Rattle.range_columns.proofs.checking.range_fault.Goals as goal
use Rattle.range_columns.proofs.checking.range_fault.Goals.{After-map}

pub returns-then-sorted-from-clause-fault : goal.returns-then-sorted-from-clause-fault
returns-then-sorted-from-clause-fault c =
    at_q1 c.args.values.items c.args.sorted.now c.args.min c.args.max (fault_at 1 0)
    (q1-fails c.args.sorted.now c.args.min c.index-sorted-0.result c.requires.sorted_values c.index-sorted-0.is (λ e. c.if-sorted-from.true (ap number_of (sym c.index-sorted-0.is) ∙ (e ∙ sym c.from.ensures))))

pub returns-in-Some-clause-fault : goal.returns-in-Some-clause-fault
returns-in-Some-clause-fault c =
    at_q2 c.args.values.items c.args.sorted.now c.args.min c.args.max c.in-Some.fault
    (q1-holds c.args.sorted.now c.args.min c.index-sorted-0.result c.requires.sorted_values c.index-sorted-0.is (ap number_of c.index-sorted-0.is ∙ (c.if-sorted-from.false ∙ c.from.ensures)))
    (sym c.step_fault.ensures ∙ c.in-Some.is)

pub returns-then-sorted-last-clause-fault : goal.returns-then-sorted-last-clause-fault
returns-then-sorted-last-clause-fault c =
    at_q3 c.args.values.items c.args.sorted.now c.args.min c.args.max (fault_at 3 _)
    (q1-holds c.args.sorted.now c.args.min c.index-sorted-0.result c.requires.sorted_values c.index-sorted-0.is (ap number_of c.index-sorted-0.is ∙ (c.if-sorted-from.false ∙ c.from.ensures)))
    (sym c.step_fault.ensures ∙ c.in_default.is)
    (q3-fails c.args.sorted.now c.args.max c.index-sorted-last.result c.requires.sorted_values c.index-sorted-last.is (λ e. c.if-sorted-last.true (ap number_of (sym c.index-sorted-last.is) ∙ (e ∙ sym c.from-2.ensures))))

fault_is : (c : After-map) → c.map.result ≡ first_range_fault c.args.values.items c.args.sorted.now c.args.min c.args.max
unfolding q4_fault
fault_is c =
    let fourth : c.map.result ≡ option_map (λ row. fault_at 4 row) c.in_ok-place.place = search rules in
    at_q4 c.args.values.items c.args.sorted.now c.args.min c.args.max c.map.result
    (q1-holds c.args.sorted.now c.args.min c.index-sorted-0.result c.requires.sorted_values c.index-sorted-0.is (ap number_of c.index-sorted-0.is ∙ (c.if-sorted-from.false ∙ c.from.ensures)))
    (sym c.step_fault.ensures ∙ c.in_default.is)
    (q3-holds c.args.sorted.now c.args.max c.index-sorted-last.result c.requires.sorted_values c.index-sorted-last.is (ap number_of c.index-sorted-last.is ∙ (c.if-sorted-last.false ∙ c.from-2.ensures)))
    (rw (← c.in_ok-place.ensures) fourth)

pub returns-clause-fault : goal.returns-clause-fault
returns-clause-fault c = fault_is c

pub returns-clause-within : goal.returns-clause-within
returns-clause-within c = λ none short. within_range c.args.values.items c.args.sorted.now c.args.min c.args.max c.requires.range (omega arith) short (sym (fault_is c) ∙ none_is c.map.result none)

pub returns-then-sorted-from-clause-none : goal.returns-then-sorted-from-clause-none
returns-then-sorted-from-clause-none c = none_of_fault c.args.values.items c.args.sorted.now c.args.min c.args.max _ (returns-then-sorted-from-clause-fault c)

pub returns-then-sorted-from-clause-first : goal.returns-then-sorted-from-clause-first
returns-then-sorted-from-clause-first c = first_of_fault c.args.values.items c.args.sorted.now c.args.min c.args.max _ (returns-then-sorted-from-clause-fault c)

pub returns-in-Some-clause-none : goal.returns-in-Some-clause-none
returns-in-Some-clause-none c = none_of_fault c.args.values.items c.args.sorted.now c.args.min c.args.max _ (returns-in-Some-clause-fault c)

pub returns-in-Some-clause-first : goal.returns-in-Some-clause-first
returns-in-Some-clause-first c = first_of_fault c.args.values.items c.args.sorted.now c.args.min c.args.max _ (returns-in-Some-clause-fault c)

pub returns-then-sorted-last-clause-none : goal.returns-then-sorted-last-clause-none
returns-then-sorted-last-clause-none c = none_of_fault c.args.values.items c.args.sorted.now c.args.min c.args.max _ (returns-then-sorted-last-clause-fault c)

pub returns-then-sorted-last-clause-first : goal.returns-then-sorted-last-clause-first
returns-then-sorted-last-clause-first c = first_of_fault c.args.values.items c.args.sorted.now c.args.min c.args.max _ (returns-then-sorted-last-clause-fault c)

pub returns-clause-none : goal.returns-clause-none
returns-clause-none c = none_of_fault c.args.values.items c.args.sorted.now c.args.min c.args.max c.map.result (fault_is c)

pub returns-clause-first : goal.returns-clause-first
returns-clause-first c = first_of_fault c.args.values.items c.args.sorted.now c.args.min c.args.max c.map.result (fault_is c)
