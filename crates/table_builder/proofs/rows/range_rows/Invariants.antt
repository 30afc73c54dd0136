use Rattle.std.proofs.Common.{◌≡◌, map, take, None}
use Rattle.std.specs.List.{range_with_len}
use Rattle.public_input.specs.Statement.{statement}
use Rattle.table_builder.specs.Rows.{range_address}
use Rattle.table_builder.specs.Findings.{first_found}
use Rattle.table_builder.proofs.RangeLoop.{asked, made}
use Rattle.table_builder.proofs.rows.range_rows.Given as goal

abbrev pub invariant-loop-i : goal.invariant-loop-i
invariant-loop-i g l = record {
  address : l.addr.number ≡ range_address (statement l.public) l.i;
  nothing : first_found (map (asked (statement l.public) (g.M.Reads.cells l.m)) (take l.i (range_with_len 0 l.public.range_count))) ≡ None;
  rows : l.rows.items ≡ map (made (statement l.public) (g.M.Reads.cells l.m)) (take l.i (range_with_len 0 l.public.range_count));
}
