use Rattle.cairo_commands.proofs.CompletedRuns.{run_of_program, run_stated, run_legal, run_given, tables_built, tables_accepted}
use Rattle.cairo_commands.proofs.laws.completed_run_laws.Goals as goal

pub returns : goal.returns
returns c = record {
  of_program = run_of_program;
  stated = run_stated;
  legal = run_legal;
  given = run_given;
  built = tables_built;
  accepted = tables_accepted;
}
