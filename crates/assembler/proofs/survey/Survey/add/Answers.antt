use Rattle.std.proofs.Common.{refl, sym, ◌∙◌}
use Rattle.assembler.proofs.survey.Survey.add.Goals as goal

pub returns-then-has-clause-fault : goal.returns-then-has-clause-fault
returns-then-has-clause-fault c = (sym c.has.ensures ∙ c.if-has.true, refl)
