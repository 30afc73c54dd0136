use Rattle.std.proofs.Common.{true, false, sym, ◌∙◌}
use Rattle.goldilocks.proofs.Texts.{of_marked, reads_of, accepted_of, empty_of, bad_digit_of, too_large_of}
use Rattle.goldilocks.proofs.Felt.read_text.Goals as goal

pub returns-then-is_marked-clause-reads : goal.returns-then-is_marked-clause-reads
returns-then-is_marked-clause-reads c =
    let r = c.read_digits.result in
    reads_of c.args.text.now r (of_marked c.args.text.now true r (sym c.is_marked.ensures ∙ c.if-is_marked.true) c.read_digits.ensures.answer)

pub returns-then-is_marked-clause-accepted : goal.returns-then-is_marked-clause-accepted
returns-then-is_marked-clause-accepted c =
    let r = c.read_digits.result in
    accepted_of c.args.text.now r (of_marked c.args.text.now true r (sym c.is_marked.ensures ∙ c.if-is_marked.true) c.read_digits.ensures.answer)

pub returns-then-is_marked-clause-empty : goal.returns-then-is_marked-clause-empty
returns-then-is_marked-clause-empty c =
    let r = c.read_digits.result in
    empty_of c.args.text.now r (of_marked c.args.text.now true r (sym c.is_marked.ensures ∙ c.if-is_marked.true) c.read_digits.ensures.answer)

pub returns-then-is_marked-clause-bad_digit : goal.returns-then-is_marked-clause-bad_digit
returns-then-is_marked-clause-bad_digit c =
    let r = c.read_digits.result in
    bad_digit_of c.args.text.now r (of_marked c.args.text.now true r (sym c.is_marked.ensures ∙ c.if-is_marked.true) c.read_digits.ensures.answer)

pub returns-then-is_marked-clause-too_large : goal.returns-then-is_marked-clause-too_large
returns-then-is_marked-clause-too_large c =
    let r = c.read_digits.result in
    too_large_of c.args.text.now r (of_marked c.args.text.now true r (sym c.is_marked.ensures ∙ c.if-is_marked.true) c.read_digits.ensures.answer)

pub returns-else-is_marked-clause-reads : goal.returns-else-is_marked-clause-reads
returns-else-is_marked-clause-reads c =
    let r = c.read_digits-else-is_marked.result in
    reads_of c.args.text.now r (of_marked c.args.text.now false r (sym c.is_marked.ensures ∙ c.if-is_marked.false) c.read_digits-else-is_marked.ensures.answer)

pub returns-else-is_marked-clause-accepted : goal.returns-else-is_marked-clause-accepted
returns-else-is_marked-clause-accepted c =
    let r = c.read_digits-else-is_marked.result in
    accepted_of c.args.text.now r (of_marked c.args.text.now false r (sym c.is_marked.ensures ∙ c.if-is_marked.false) c.read_digits-else-is_marked.ensures.answer)

pub returns-else-is_marked-clause-empty : goal.returns-else-is_marked-clause-empty
returns-else-is_marked-clause-empty c =
    let r = c.read_digits-else-is_marked.result in
    empty_of c.args.text.now r (of_marked c.args.text.now false r (sym c.is_marked.ensures ∙ c.if-is_marked.false) c.read_digits-else-is_marked.ensures.answer)

pub returns-else-is_marked-clause-bad_digit : goal.returns-else-is_marked-clause-bad_digit
returns-else-is_marked-clause-bad_digit c =
    let r = c.read_digits-else-is_marked.result in
    bad_digit_of c.args.text.now r (of_marked c.args.text.now false r (sym c.is_marked.ensures ∙ c.if-is_marked.false) c.read_digits-else-is_marked.ensures.answer)

pub returns-else-is_marked-clause-too_large : goal.returns-else-is_marked-clause-too_large
returns-else-is_marked-clause-too_large c =
    let r = c.read_digits-else-is_marked.result in
    too_large_of c.args.text.now r (of_marked c.args.text.now false r (sym c.is_marked.ensures ∙ c.if-is_marked.false) c.read_digits-else-is_marked.ensures.answer)
