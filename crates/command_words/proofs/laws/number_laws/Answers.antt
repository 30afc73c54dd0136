use Rattle.command_words.proofs.NumberWords.{some-from_IsNumber, IsNumber-from_some}
use Rattle.command_words.proofs.laws.number_laws.Goals as goal

pub returns : goal.returns
returns c = λ least most word number few. (some-from_IsNumber least most word number few, IsNumber-from_some least most word number)
