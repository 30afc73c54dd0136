use Rattle.std.proofs.Common.{◌≡◌, refl, sym, arith}
use Rattle.std.proofs.lemmas.Bool.{false≢true}
use Rattle.command_words.proofs.NumberWords.{begins_well, none-from_never, none_parsed, parsed_number}
use Rattle.command_words.proofs.numbers.number_in.Goals as goal

pub returns-then-not-has_no_leading_zero-clause-is : goal.returns-then-not-has_no_leading_zero-clause-is
returns-then-not-has_no_leading_zero-clause-is c =
    sym (none-from_never c.args.least c.args.most c.args.word.now (λ n is.
    false≢true (c.if-not-has_no_leading_zero.ensures.1 (begins_well c.args.least c.args.most c.args.word.now n (omega arith) is))))

pub returns-in-Ok-clause-is : goal.returns-in-Ok-clause-is
returns-in-Ok-clause-is c =
    sym (parsed_number c.args.least c.args.most c.args.word.now c.in-Ok.number c.parse.result c.parse.ensures.value.0 c.in-Ok.is c.if-least-number.true c.if-number-most.true (omega arith) (c.if-not-has_no_leading_zero.ensures.0 refl))

pub returns-in_default-clause-is : goal.returns-in_default-clause-is
returns-in_default-clause-is c = sym (none_parsed c.args.least c.args.most c.args.word.now c.parse.result c.parse.ensures.value.0 (omega arith) (λ n is low high.
    let same : c.in-Ok.number ≡ n = cc in absurd (omega arith)))

pub returns-in_default-2-clause-is : goal.returns-in_default-2-clause-is
returns-in_default-2-clause-is c = sym (none_parsed c.args.least c.args.most c.args.word.now c.parse.result c.parse.ensures.value.0 (omega arith) (λ n is low high.
    let same : c.in-Ok.number ≡ n = cc in absurd (omega arith)))

pub returns-in_default-3-clause-is : goal.returns-in_default-3-clause-is
returns-in_default-3-clause-is c = sym (none_parsed c.args.least c.args.most c.args.word.now c.parse.result c.parse.ensures.value.0 (omega arith) (λ n is low high. cc))
