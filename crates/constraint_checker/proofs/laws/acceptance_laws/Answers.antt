use Rattle.constraint_checker.proofs.Descriptions.{describe_run}
use Rattle.constraint_checker.proofs.RowSteps.{runs_where_met}
use Rattle.constraint_checker.proofs.laws.acceptance_laws.Goals as goal

pub returns : goal.returns
returns c = record {
  describes = λ program public tables listed limits valid sixteen meets.
      describe_run program public tables listed.few_words limits valid meets (runs_where_met tables sixteen meets.rows);
}
