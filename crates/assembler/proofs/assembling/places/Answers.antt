use Rattle.std.proofs.Common.{arith, rules}
use Rattle.assembler.proofs.assembling.places.Goals as goal

pub returns-then-end-count-clause-fault : goal.returns-then-end-count-clause-fault
returns-then-end-count-clause-fault c =
    let start = rw c.start_target.ensures at c.target_place-start.ensures in
    (search rules, omega (arith, start), search rules)

pub returns-clause-inside : goal.returns-clause-inside
returns-clause-inside c = (omega arith, omega arith)
