use Rattle.assembler.proofs.AssemblyLemmas.{one_word, two_words}
use Rattle.assembler.proofs.words.statement_size.Goals as goal

pub returns-in_default-Some : goal.returns-in_default-Some
returns-in_default-Some c = two_words c.args.stmt.now c.to_word.result c.in_default-Some.field-0-1 c.to_word.ensures c.in_default-Some.is-1

pub returns-in_default-None : goal.returns-in_default-None
returns-in_default-None c = one_word c.args.stmt.now c.to_word.result c.to_word.ensures c.in_default-None.is-1
