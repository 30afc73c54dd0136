use Rattle.casm_text.proofs.Parses.{fault_means_nothing}
use Rattle.casm_text.proofs.TextLaws.{either, one_meaning, one_fault}
use Rattle.casm_text.proofs.laws.text_laws.Goals as goal

pub returns : goal.returns
returns c = record { either = either; not_both = fault_means_nothing; one_meaning = one_meaning; one_fault = one_fault }
