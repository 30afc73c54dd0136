use Rattle.table_builder.specs.Columns.{tables_of}
use Rattle.table_builder.specs.Public.{memory_in, public_of}
use Rattle.table_builder.proofs.StatedRuns.{run_built, run_accepted}
use Rattle.table_builder.proofs.laws.stated_run_laws.Goals as goal

pub returns : goal.returns
returns c = record {
  built = λ program run is_program is. (
    tables_of program (public_of run) (memory_in run) run.states,
    run_built program is_program run is,
    run_accepted program is_program run is,
  );
}
