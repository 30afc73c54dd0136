use Rattle.casm_grammar.proofs.LineLaws.{line_or_fault, fault_excludes, one_meaning, one_fault}
use Rattle.casm_grammar.proofs.laws.line_laws.Goals as goal

pub returns : goal.returns
returns c = record { either = line_or_fault; not_both = fault_excludes; one_meaning = one_meaning; one_fault = one_fault }
