use Rattle.std.proofs.Common.{◌≤◌, ◌∙◌, arith}
use Rattle.casm_word.specs.Length.{program_word_limit}
use Rattle.casm_text.specs.Meaning.{bodies}
use Rattle.assembler.specs.Assembly.{word_count}
use Rattle.assembler.proofs.AssemblyLemmas.{labels_held}
use Rattle.assembler.proofs.assembling.labels_and_count.Goals as goal

pub returns-clause-labels : goal.returns-clause-labels
returns-clause-labels c =
    let s = c.in_ok-survey.ensures.surveys in
    let count = s.words_are in
    let short : word_count (bodies c.args.items.now) ≤ program_word_limit = omega arith in
    s.labels_are ∙ labels_held (bodies c.args.items.now) short
