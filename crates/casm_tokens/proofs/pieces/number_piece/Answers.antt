use Rattle.std.proofs.Common.{refl, sym, arith}
use Rattle.casm_tokens.specs.Marks.{mark_of}
use Rattle.casm_tokens.proofs.Numbers.{number_read, number_bad, number_large, number_none, number_length}
use Rattle.casm_tokens.proofs.pieces.number_piece.Goals as goal

pub returns-in-Ok-clause-value : goal.returns-in-Ok-clause-value
unfolding mark_of
returns-in-Ok-clause-value c = sym (number_read c.args.text.now c.in-Ok.value c.in-Ok.ensures.reads)

pub returns-in-Ok-clause-within : goal.returns-in-Ok-clause-within
returns-in-Ok-clause-within c = let h = number_length c.args.text.now (c.in-Ok.ensures.accepted.0 refl).0 in (omega arith, omega arith)

pub returns-in-Err-Empty-clause-value : goal.returns-in-Err-Empty-clause-value
returns-in-Err-Empty-clause-value c =
    sym (number_bad c.args.text.now (number_none c.args.text.now _ c.in-Err-Empty.ensures.accepted.1 (λ h. cc) (λ h. let e = c.in-Err-Empty.ensures.too_large.1 h in let f = c.in-Err-Empty.field-0-is in cc)))

pub returns-in-Err-BadDigit-clause-value : goal.returns-in-Err-BadDigit-clause-value
returns-in-Err-BadDigit-clause-value c =
    sym (number_bad c.args.text.now (number_none c.args.text.now _ c.in-Err-BadDigit.ensures.accepted.1 (λ h. cc) (λ h. let e = c.in-Err-BadDigit.ensures.too_large.1 h in let f = c.in-Err-BadDigit.field-0-is in cc)))

pub returns-in-Err-TooLarge-clause-value : goal.returns-in-Err-TooLarge-clause-value
returns-in-Err-TooLarge-clause-value c =
    sym (number_large c.args.text.now (c.in-Err-TooLarge.ensures.too_large.0 (let f = c.in-Err-TooLarge.field-0-is in cc)))
