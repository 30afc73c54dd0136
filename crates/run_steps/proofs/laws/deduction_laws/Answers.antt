use Rattle.run_steps.proofs.TableCases.{called-case, op0-case, op1-case, found-cases}
use Rattle.run_steps.proofs.laws.deduction_laws.Goals as goal

pub returns : goal.returns
returns c = record { called = called-case; op0 = op0-case; op1 = op1-case; all = found-cases }
