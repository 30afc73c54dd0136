use Rattle.std.proofs.Common.{◌∙◌, ◌<◌, ◌^◌, ap, rules}
use Rattle.casm_word.specs.Word.{word_of, word_number}
use Rattle.casm_word.proofs.Encoding.{word_number-of}
use Rattle.casm_word.proofs.decoder.decode.Goals as goal

pub returns-clause-word : goal.returns-clause-word
unfolding word_of
returns-clause-word c = search rules

pub returns-clause-encoded : goal.returns-clause-encoded
returns-clause-encoded c =
    let low : c.args.v < 2 ^ 63 = search rules in
    ap word_number (returns-clause-word c) ∙ word_number-of c.args.v low
