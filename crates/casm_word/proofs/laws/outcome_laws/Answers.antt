use Rattle.casm_word.proofs.Outcomes.{outcome-next}
use Rattle.casm_word.proofs.laws.outcome_laws.Goals as goal

pub returns : goal.returns
returns c = record { goes_on = outcome-next }
