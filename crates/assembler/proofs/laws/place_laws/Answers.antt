use Rattle.assembler.specs.Assembly.{labels_of}
use Rattle.assembler.proofs.AssemblyLemmas.{value_in-label, words_of-at, words_from-length}
use Rattle.assembler.proofs.laws.place_laws.Goals as goal

pub returns-clause-label : goal.returns-clause-label
returns-clause-label c = value_in-label

pub returns-clause-words : goal.returns-clause-words
returns-clause-words c = words_of-at

pub returns-clause-count : goal.returns-clause-count
returns-clause-count c = λ bs. words_from-length (labels_of bs) 0 bs
