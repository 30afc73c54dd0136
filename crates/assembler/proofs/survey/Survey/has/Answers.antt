use Rattle.std.proofs.Common.{ap, sym}
use Rattle.assembler.specs.Views.{has_given}
use Rattle.assembler.proofs.survey.Survey.has.Goals as goal

pub returns-in-End : goal.returns-in-End
returns-in-End c = sym (ap (has_given c.args.self.now) c.in-End.is)
