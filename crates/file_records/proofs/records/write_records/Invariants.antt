use Rattle.std.proofs.Common.{◌≡◌, ◌++◌, take, All}
use Rattle.std.specs.List.{flat_map}
use Rattle.file_records.proofs.records.write_records.Given as goal

abbrev pub invariant-loop-value : goal.invariant-loop-value
invariant-loop-value g l = record {
  bytes : l.out.items ≡ l.initial.out.items ++ flat_map g.R.Record.spelled (take l.value-index l.values);
  fit : All g.R.Record.fits (take l.value-index l.values);
}
