use Rattle.std.proofs.Common.{◌≡◌, rules, sym, ◌∙◌, refl}
use Rattle.std.specs.Option.{option_map}
use Rattle.memory_columns.specs.Equations.{first_memory_fault, fault_at}
use Rattle.memory_columns.proofs.Cells.{pair_equal}
use Rattle.memory_columns.proofs.OneMemory.{one_memory, none_is, none_of_fault, first_of_fault}
use Rattle.memory_columns.proofs.checking.memory_fault.Goals as goal
use Rattle.memory_columns.proofs.checking.memory_fault.Goals.{After-map}

pub order_difference-requires : goal.order_difference-requires
order_difference-requires c = pair_equal

pub returns-in-Some-clause-fault : goal.returns-in-Some-clause-fault
unfolding first_memory_fault
returns-in-Some-clause-fault c = rw (← c.neighbours_fault.ensures) (rw c.in-Some.is refl)

fault_is : (c : After-map) → c.map.result ≡ first_memory_fault c.args.accesses.items c.args.sorted.now
unfolding first_memory_fault
fault_is c =
    let third : c.map.result ≡ option_map (λ row. fault_at 3 row) c.in_ok-place.place = search rules in
    rw (← c.neighbours_fault.ensures) (rw (c.in_default.is, ← c.in_ok-place.ensures) third)

pub returns-clause-fault : goal.returns-clause-fault
returns-clause-fault c = fault_is c

pub returns-clause-one_memory : goal.returns-clause-one_memory
returns-clause-one_memory c = λ none short. one_memory c.args.accesses.items c.args.sorted.now (sym (fault_is c) ∙ none_is c.map.result none) short

pub returns-in-Some-clause-none : goal.returns-in-Some-clause-none
returns-in-Some-clause-none c = none_of_fault c.args.accesses.items c.args.sorted.now _ (returns-in-Some-clause-fault c)

pub returns-in-Some-clause-first : goal.returns-in-Some-clause-first
returns-in-Some-clause-first c = first_of_fault c.args.accesses.items c.args.sorted.now _ (returns-in-Some-clause-fault c)

pub returns-clause-none : goal.returns-clause-none
returns-clause-none c = none_of_fault c.args.accesses.items c.args.sorted.now c.map.result (fault_is c)

pub returns-clause-first : goal.returns-clause-first
returns-clause-first c = first_of_fault c.args.accesses.items c.args.sorted.now c.map.result (fault_is c)
