use Rattle.std.proofs.Common.{◌≡◌, ◌*◌, ◌-◌, ◌≤◌, ◌++◌, length, take}
use Rattle.file_records.specs.Records.{values_of_bytes}
use Rattle.file_records.proofs.records.read_values.Given as goal

abbrev pub invariant-loop-i : goal.invariant-loop-i
invariant-loop-i g l = record {
  whole : length l.values ≡ g.row.N;
  read : values_of_bytes g.row.N l.bytes ≡ take l.i l.values ++ values_of_bytes (g.row.N - l.i) l.rest;
  room : 8 * (g.row.N - l.i) ≤ length l.rest;
}
