use Rattle.std.proofs.Common.{ap}
use Rattle.table_builder.specs.Findings.{first_found, findings}
use Rattle.table_builder.specs.Columns.{tables_of}
use Rattle.table_builder.specs.Building.{unless_found, building}
use Rattle.table_builder.proofs.Findings.{building-ok, building-err, building-found, FoundFirst-from, FoundFirst-found}
use Rattle.table_builder.proofs.BuiltTables.{built_tables, built_some}
use Rattle.table_builder.proofs.OnlyTables.{only_built}
use Rattle.table_builder.proofs.Accepted.{built_valid, built_meets}
use Rattle.table_builder.proofs.laws.building_laws.Goals as goal

pub returns : goal.returns
unfolding building
returns c = record {
  is = λ program public m states tables low small limits built. built_tables program public m states low small limits tables built;
  only = λ program public m states tables low small are. only_built program public m states low small tables are;
  none = λ program public m states low small limits. (
    (λ nothing. (
      tables_of program public m states,
      built_tables program public m states low small limits (tables_of program public m states) (ap (λ o. unless_found o (tables_of program public m states)) nothing),
    )),
    (λ some.
        (building-ok (first_found (findings program public m states)) (tables_of program public m states) some.0
        (only_built program public m states low small some.0 some.1)).0),
  );
  first = λ program public m states found. (
    (λ refused. FoundFirst-from (findings program public m states) found (building-err (first_found (findings program public m states)) (tables_of program public m states) found refused)),
    (λ first. building-found (first_found (findings program public m states)) (tables_of program public m states) found (FoundFirst-found (findings program public m states) found first)),
  );
  valid = λ program public m states tables low small is_program limits built.
      built_valid program public m states low small is_program limits (built_some program public m states limits tables built) tables built;
  accepted = λ program public m states tables low small is_program limits built.
      built_meets program public m states low small is_program limits (built_some program public m states limits tables built) tables built;
}
