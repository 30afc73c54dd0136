use Rattle.public_input.proofs.Spellings.{SpellsPublic-from_reading, reading-spelled, one_statement, none_spelled, spelled_or_faulty}
use Rattle.public_input.proofs.ReadsBack.{SpellsPublic-written, reading-written}
use Rattle.public_input.proofs.laws.spelling_laws.Goals as goal

pub returns : goal.returns
returns c = record {
  exact = λ bytes s. (SpellsPublic-from_reading bytes s, reading-spelled bytes s);
  one = one_statement;
  spells_nothing = none_spelled;
  spelled_or_faulty = spelled_or_faulty;
  spells = SpellsPublic-written;
  read_back = reading-written;
}
