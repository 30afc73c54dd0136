use Rattle.std.proofs.Common.{◌∙◌, ap}
use Rattle.casm_word.specs.Transition.{registers}
use Rattle.program_file.specs.Listing.{listing}
use Rattle.public_input.specs.Statement.{statement}
use Rattle.table_builder.specs.Findings.{first_found}
use Rattle.table_builder.proofs.Told.{handed_on, told_as}
use Rattle.table_builder.proofs.EndFindings.{first_is_found, first_is_none, only_one, ends_are}
use Rattle.table_builder.proofs.ends.ends_agree.Goals as goal

pub returns-in_err-agrees-clause-told : goal.returns-in_err-agrees-clause-told
unfolding registers
returns-in_err-agrees-clause-told c =
    let whole = ap first_found (ends_are c.args.states.now c.requires.least (listing c.args.program.now) (statement c.args.public.now) c.index-states-0.result c.index-states-states.result c.index-states-0.is c.index-states-states.is) in
    handed_on _ _ _ c.from_residual.result c.in_err-agrees.field-0.0 c.from_residual.ensures.1
    (λ told found. whole ∙ first_is_found _ _ told found)
    (rw c.felt.ensures at c.in_err-agrees.ensures.told)

pub returns-in_err-agrees-2-clause-told : goal.returns-in_err-agrees-2-clause-told
unfolding registers
returns-in_err-agrees-2-clause-told c =
    let whole = ap first_found (ends_are c.args.states.now c.requires.least (listing c.args.program.now) (statement c.args.public.now) c.index-states-0.result c.index-states-states.result c.index-states-0.is c.index-states-states.is) in
    let steps = rw c.felt.ensures at c.in_ok-agrees.ensures.told.0 in
    handed_on _ _ _ c.from_residual-in_err-agrees-2.result c.in_err-agrees-2.field-0.0 c.from_residual-in_err-agrees-2.ensures.1
    (λ told found. whole ∙ (first_is_none _ _ steps ∙ first_is_found _ _ told found))
    (rw (c.address_of.ensures, c.start.ensures) at c.in_err-agrees-2.ensures.told)

pub returns-in_err-agrees-3-clause-told : goal.returns-in_err-agrees-3-clause-told
unfolding registers
returns-in_err-agrees-3-clause-told c =
    let whole = ap first_found (ends_are c.args.states.now c.requires.least (listing c.args.program.now) (statement c.args.public.now) c.index-states-0.result c.index-states-states.result c.index-states-0.is c.index-states-states.is) in
    let steps = rw c.felt.ensures at c.in_ok-agrees.ensures.told.0 in
    let pc_first = rw (c.address_of.ensures, c.start.ensures) at c.in_ok-agrees-2.ensures.told.0 in
    handed_on _ _ _ c.from_residual-in_err-agrees-3.result c.in_err-agrees-3.field-0.0 c.from_residual-in_err-agrees-3.ensures.1
    (λ told found. whole ∙ (first_is_none _ _ steps ∙ (first_is_none _ _ pc_first ∙ first_is_found _ _ told found)))
    c.in_err-agrees-3.ensures.told

pub returns-in_err-agrees-4-clause-told : goal.returns-in_err-agrees-4-clause-told
unfolding registers
returns-in_err-agrees-4-clause-told c =
    let whole = ap first_found (ends_are c.args.states.now c.requires.least (listing c.args.program.now) (statement c.args.public.now) c.index-states-0.result c.index-states-states.result c.index-states-0.is c.index-states-states.is) in
    let steps = rw c.felt.ensures at c.in_ok-agrees.ensures.told.0 in
    let pc_first = rw (c.address_of.ensures, c.start.ensures) at c.in_ok-agrees-2.ensures.told.0 in
    handed_on _ _ _ c.from_residual-in_err-agrees-4.result c.in_err-agrees-4.field-0.0 c.from_residual-in_err-agrees-4.ensures.1
    (λ told found. whole ∙ (first_is_none _ _ steps ∙ (first_is_none _ _ pc_first ∙ (first_is_none _ _ c.in_ok-agrees-3.ensures.told.0 ∙ first_is_found _ _ told found))))
    c.in_err-agrees-4.ensures.told

pub returns-in_err-agrees-5-clause-told : goal.returns-in_err-agrees-5-clause-told
unfolding registers
returns-in_err-agrees-5-clause-told c =
    let whole = ap first_found (ends_are c.args.states.now c.requires.least (listing c.args.program.now) (statement c.args.public.now) c.index-states-0.result c.index-states-states.result c.index-states-0.is c.index-states-states.is) in
    let steps = rw c.felt.ensures at c.in_ok-agrees.ensures.told.0 in
    let pc_first = rw (c.address_of.ensures, c.start.ensures) at c.in_ok-agrees-2.ensures.told.0 in
    handed_on _ _ _ c.from_residual-in_err-agrees-5.result c.in_err-agrees-5.field-0.0 c.from_residual-in_err-agrees-5.ensures.1
    (λ told found. whole ∙ (first_is_none _ _ steps ∙ (first_is_none _ _ pc_first ∙ (first_is_none _ _ c.in_ok-agrees-3.ensures.told.0 ∙ (first_is_none _ _ c.in_ok-agrees-4.ensures.told.0 ∙ first_is_found _ _ told found)))))
    (rw (c.address_of-2.ensures, c.end.ensures) at c.in_err-agrees-5.ensures.told)

pub returns-clause-told : goal.returns-clause-told
unfolding registers
returns-clause-told c =
    let whole = ap first_found (ends_are c.args.states.now c.requires.least (listing c.args.program.now) (statement c.args.public.now) c.index-states-0.result c.index-states-states.result c.index-states-0.is c.index-states-states.is) in
    let steps = rw c.felt.ensures at c.in_ok-agrees.ensures.told.0 in
    let pc_first = rw (c.address_of.ensures, c.start.ensures) at c.in_ok-agrees-2.ensures.told.0 in
    let pc_last = rw (c.address_of-2.ensures, c.end.ensures) at c.in_ok-agrees-5.ensures.told.0 in
    told_as _ _ _ c.agrees-6.result
    (whole ∙ (first_is_none _ _ steps ∙ (first_is_none _ _ pc_first ∙ (first_is_none _ _ c.in_ok-agrees-3.ensures.told.0 ∙ (first_is_none _ _ c.in_ok-agrees-4.ensures.told.0 ∙ (first_is_none _ _ pc_last ∙ only_one _))))))
    c.agrees-6.ensures.told
