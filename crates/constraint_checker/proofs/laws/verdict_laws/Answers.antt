use Rattle.constraint_checker.specs.Constraints.{conditions}
use Rattle.constraint_checker.specs.Verdict.{verdict}
use Rattle.constraint_checker.proofs.Verdicts.{is_verdict, only_verdict}
use Rattle.constraint_checker.proofs.Acceptances.{accepted_exactly}
use Rattle.constraint_checker.proofs.laws.verdict_laws.Goals as goal

pub returns-clause-is : goal.returns-clause-is
unfolding verdict
returns-clause-is c = λ program public tables. is_verdict (conditions program public tables)

pub returns-clause-only : goal.returns-clause-only
unfolding verdict
returns-clause-only c = λ program public tables v h. only_verdict (conditions program public tables) v h

pub returns-clause-accepted : goal.returns-clause-accepted
returns-clause-accepted c = λ program public tables. accepted_exactly program public tables
