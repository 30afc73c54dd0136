-- Each exit's outcome, cell by cell. What is reached there follows from the outcome.
use Rattle.std.proofs.Common.{◌∙◌, sym}
use Rattle.casm_word.specs.Transition.{Registers, registers, Memory, outcome_of}
use Rattle.casm_word.proofs.Outcomes.{reached-next, outcome-no_word, outcome-word, outcome-fault, outcome-dst, outcome-no_dst, outcome-op0, outcome-no_op0, outcome-op1, outcome-no_op1}
use Rattle.casm_word.proofs.stepper.step.Goals as goal

pub returns-in_default-clause-outcome : goal.returns-in_default-clause-outcome
unfolding registers outcome_of
returns-in_default-clause-outcome g c =
    let m : Memory = g.M.Reads.cells c.args.m.now in
    let r : Registers = registers c.args.s in
    sym (outcome-no_word m r c.in_default.ensures)

pub returns-in_default-clause-next : goal.returns-in_default-clause-next
returns-in_default-clause-next g c = reached-next _ (g.M.Reads.cells c.args.m.now) (registers c.args.s) (returns-in_default-clause-outcome g c)

pub returns-in-Err-clause-outcome : goal.returns-in-Err-clause-outcome
unfolding registers outcome_of
returns-in-Err-clause-outcome g c =
    let m : Memory = g.M.Reads.cells c.args.m.now in
    let r : Registers = registers c.args.s in
    sym (outcome-fault m r c.in-Some.cell.number c.in-Err.fault c.in-Some.ensures c.in-Err.ensures.value)

pub returns-in-Err-clause-next : goal.returns-in-Err-clause-next
returns-in-Err-clause-next g c = reached-next _ (g.M.Reads.cells c.args.m.now) (registers c.args.s) (returns-in-Err-clause-outcome g c)

pub returns-in_default-read-clause-outcome : goal.returns-in_default-read-clause-outcome
unfolding registers outcome_of
returns-in_default-read-clause-outcome g c =
    let m : Memory = g.M.Reads.cells c.args.m.now in
    let r : Registers = registers c.args.s in
    let at_word = outcome-word m r c.in-Some.cell.number c.in-Ok.word c.in-Some.ensures c.in-Ok.ensures.value in
    sym (outcome-no_dst m r c.in-Ok.word c.dst_address-dst_address.result.number at_word c.dst_address-dst_address.ensures c.in_default-read.ensures)

pub returns-in_default-read-clause-next : goal.returns-in_default-read-clause-next
returns-in_default-read-clause-next g c = reached-next _ (g.M.Reads.cells c.args.m.now) (registers c.args.s) (returns-in_default-read-clause-outcome g c)

pub returns-in_default-read-2-clause-outcome : goal.returns-in_default-read-2-clause-outcome
unfolding registers outcome_of
returns-in_default-read-2-clause-outcome g c =
    let m : Memory = g.M.Reads.cells c.args.m.now in
    let r : Registers = registers c.args.s in
    let at_word = outcome-word m r c.in-Some.cell.number c.in-Ok.word c.in-Some.ensures c.in-Ok.ensures.value in
    let at_dst = outcome-dst m r c.in-Ok.word c.dst_address-dst_address.result.number c.in-Some-read.dst.number at_word c.dst_address-dst_address.ensures c.in-Some-read.ensures in
    sym (outcome-no_op0 m r c.in-Ok.word c.in-Some-read.dst.number c.op0_address-op0_address.result.number at_dst c.op0_address-op0_address.ensures c.in_default-read-2.ensures)

pub returns-in_default-read-2-clause-next : goal.returns-in_default-read-2-clause-next
returns-in_default-read-2-clause-next g c = reached-next _ (g.M.Reads.cells c.args.m.now) (registers c.args.s) (returns-in_default-read-2-clause-outcome g c)

pub returns-in_default-read-3-clause-outcome : goal.returns-in_default-read-3-clause-outcome
unfolding registers outcome_of
returns-in_default-read-3-clause-outcome g c =
    let m : Memory = g.M.Reads.cells c.args.m.now in
    let r : Registers = registers c.args.s in
    let at_word = outcome-word m r c.in-Some.cell.number c.in-Ok.word c.in-Some.ensures c.in-Ok.ensures.value in
    let at_dst = outcome-dst m r c.in-Ok.word c.dst_address-dst_address.result.number c.in-Some-read.dst.number at_word c.dst_address-dst_address.ensures c.in-Some-read.ensures in
    let at_op0 = outcome-op0 m r c.in-Ok.word c.in-Some-read.dst.number c.op0_address-op0_address.result.number c.in-Some-read-2.op0.number at_dst c.op0_address-op0_address.ensures c.in-Some-read-2.ensures in
    sym (outcome-no_op1 m r c.in-Ok.word c.in-Some-read.dst.number c.in-Some-read-2.op0.number c.op1_address-op1_address.result.number at_op0 c.op1_address-op1_address.ensures c.in_default-read-3.ensures)

pub returns-in_default-read-3-clause-next : goal.returns-in_default-read-3-clause-next
returns-in_default-read-3-clause-next g c = reached-next _ (g.M.Reads.cells c.args.m.now) (registers c.args.s) (returns-in_default-read-3-clause-outcome g c)

pub returns-clause-outcome : goal.returns-clause-outcome
unfolding registers
returns-clause-outcome g c =
    let m : Memory = g.M.Reads.cells c.args.m.now in
    let r : Registers = registers c.args.s in
    let at_word = outcome-word m r c.in-Some.cell.number c.in-Ok.word c.in-Some.ensures c.in-Ok.ensures.value in
    let at_dst = outcome-dst m r c.in-Ok.word c.dst_address-dst_address.result.number c.in-Some-read.dst.number at_word c.dst_address-dst_address.ensures c.in-Some-read.ensures in
    let at_op0 = outcome-op0 m r c.in-Ok.word c.in-Some-read.dst.number c.op0_address-op0_address.result.number c.in-Some-read-2.op0.number at_dst c.op0_address-op0_address.ensures c.in-Some-read-2.ensures in
    c.apply.ensures
    ∙ sym (outcome-op1 m r c.in-Ok.word c.in-Some-read.dst.number c.in-Some-read-2.op0.number c.op1_address-op1_address.result.number c.in-Some-read-3.op1.number at_op0 c.op1_address-op1_address.ensures c.in-Some-read-3.ensures)

pub returns-clause-next : goal.returns-clause-next
returns-clause-next g c = reached-next _ (g.M.Reads.cells c.args.m.now) (registers c.args.s) (returns-clause-outcome g c)
