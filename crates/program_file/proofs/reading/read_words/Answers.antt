use Rattle.std.proofs.Common.{arith}
use Rattle.std.proofs.lemmas.Grind.{common_steps}
use Rattle.program_file.specs.Reading.{words_in}
use Rattle.program_file.proofs.reading.read_words.Goals as goal

pub read_entries-requires : goal.read_entries-requires
read_entries-requires c = omega arith

pub returns-clause-words : goal.returns-clause-words
unfolding words_in
returns-clause-words c = grind (arith, common_steps)

pub returns-clause-few : goal.returns-clause-few
returns-clause-few c = grind (arith, common_steps)

pub returns-clause-fault : goal.returns-clause-fault
unfolding words_in
returns-clause-fault c = grind (arith, common_steps)
