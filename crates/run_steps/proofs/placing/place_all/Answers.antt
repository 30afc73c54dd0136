use Rattle.std.proofs.Common.{ap, sym, ◌∙◌, Err}
use Rattle.run_steps.specs.Step.{placed}
use Rattle.run_steps.proofs.Passing.{same-fault, all_placed-op0, all_placed-op1, all_placed-dst}
use Rattle.run_steps.proofs.placing.place_all.Goals as goal

pub returns-in_err-place_found-clause-refused : goal.returns-in_err-place_found-clause-refused
returns-in_err-place_found-clause-refused c = λ rules cause e.
    let m = c.args.memory.now in
    let found = c.args.found in
    let fault = same-fault c.from_residual.result c.in_err-place_found.field-0.0 _ c.from_residual.ensures.1 e in
    all_placed-op0 rules m found cause
    (ap (λ o. placed rules m found.at.op0 o found.op0) (sym c.get-op0.ensures.value)
    ∙ c.in_err-place_found.ensures.refused rules cause (ap (λ f. Err f) fault))

pub returns-in_err-place_found-2-clause-refused : goal.returns-in_err-place_found-2-clause-refused
returns-in_err-place_found-2-clause-refused c = λ rules cause e.
    let m = c.args.memory.now in
    let found = c.args.found in
    let first = c.place_found.new.memory in
    let fault = same-fault c.from_residual-in_err-place_found-2.result c.in_err-place_found-2.field-0.0 _ c.from_residual-in_err-place_found-2.ensures.1 e in
    all_placed-op1 rules m first found cause
    (ap (λ o. placed rules m found.at.op0 o found.op0) (sym c.get-op0.ensures.value) ∙ c.in_ok-place_found.ensures.placed rules)
    (ap (λ o. placed rules first found.at.op1 o found.op1) (sym c.get-op1.ensures.value)
    ∙ c.in_err-place_found-2.ensures.refused rules cause (ap (λ f. Err f) fault))

pub returns-in_err-place_found-3-clause-refused : goal.returns-in_err-place_found-3-clause-refused
returns-in_err-place_found-3-clause-refused c = λ rules cause e.
    let m = c.args.memory.now in
    let found = c.args.found in
    let first = c.place_found.new.memory in
    let second = c.place_found-2.new.memory in
    let fault = same-fault c.from_residual-in_err-place_found-3.result c.in_err-place_found-3.field-0.0 _ c.from_residual-in_err-place_found-3.ensures.1 e in
    all_placed-dst rules m first second found cause
    (ap (λ o. placed rules m found.at.op0 o found.op0) (sym c.get-op0.ensures.value) ∙ c.in_ok-place_found.ensures.placed rules)
    (ap (λ o. placed rules first found.at.op1 o found.op1) (sym c.get-op1.ensures.value) ∙ c.in_ok-place_found-2.ensures.placed rules)
    (ap (λ o. placed rules second found.at.dst o found.dst) (sym c.get-dst.ensures.value)
    ∙ c.in_err-place_found-3.ensures.refused rules cause (ap (λ f. Err f) fault))
