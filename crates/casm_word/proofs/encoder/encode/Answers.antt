use Rattle.std.proofs.Common.{FitsSigned, w16, rules, ◌∙◌, ap}
use Rattle.casm_word.specs.Word.{decoding, word_number}
use Rattle.casm_word.specs.declared.Word.{Word}
use Rattle.casm_word.proofs.Encoding.{decoding-number, decoded_number}
use Rattle.casm_word.proofs.encoder.encode.Goals as goal

pub returns-clause-value : goal.returns-clause-value
unfolding word_number
returns-clause-value c = search rules

pub returns-clause-decoded : goal.returns-clause-decoded
returns-clause-decoded c defined =
    let w : Word = c.args.w.now in
    let dst : FitsSigned w16 w.off_dst = search rules in
    let op0 : FitsSigned w16 w.off_op0 = search rules in
    let op1 : FitsSigned w16 w.off_op1 = search rules in
    ap decoding (returns-clause-value c) ∙ decoding-number w dst op0 op1 defined

pub returns-clause-encoded : goal.returns-clause-encoded
returns-clause-encoded c v h = returns-clause-value c ∙ decoded_number v c.args.w.now h
