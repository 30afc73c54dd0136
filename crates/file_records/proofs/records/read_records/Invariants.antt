use Rattle.std.proofs.Common.{◌≡◌, ◌*◌, ◌-◌, ◌≤◌, ◌++◌, length}
use Rattle.file_records.specs.Records.{records_in}
use Rattle.file_records.proofs.records.read_records.Given as goal

abbrev pub invariant-loop : goal.invariant-loop
invariant-loop g l = record {
  read : records_in g.R.Record.SIZE g.R.Record.value_in l.count l.bytes ≡ l.values.items ++ records_in g.R.Record.SIZE g.R.Record.value_in (l.count - l.counter) l.rest;
  room : g.R.Record.SIZE * (l.count - l.counter) ≤ length l.rest;
}
