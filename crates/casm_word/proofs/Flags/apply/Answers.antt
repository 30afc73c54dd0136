use Rattle.std.proofs.Common.{rules}
use Rattle.casm_word.specs.Transition.{registers, outcome_of}
use Rattle.casm_word.proofs.Flags.apply.Goals as goal

pub returns-then-dst-s : goal.returns-then-dst-s
unfolding registers outcome_of
returns-then-dst-s c = search rules

pub returns-then-dst-res : goal.returns-then-dst-res
unfolding registers outcome_of
returns-then-dst-res c = search rules
