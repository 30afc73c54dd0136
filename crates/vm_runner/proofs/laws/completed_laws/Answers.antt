use Rattle.builtin_segments.specs.Rules.{rules_of}
use Rattle.vm_runner.proofs.Completing.{completes, first_end}
use Rattle.vm_runner.proofs.laws.completed_laws.Goals as goal

pub returns-clause-completes : goal.returns-clause-completes
returns-clause-completes c = λ p h r program hints e. completes p h r program hints e

pub returns-clause-first_end : goal.returns-clause-first_end
returns-clause-first_end c = λ p h r e. first_end (rules_of p.builtins) p h r e
