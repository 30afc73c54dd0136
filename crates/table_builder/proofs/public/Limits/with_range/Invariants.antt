use Rattle.std.proofs.Common.{◌≡◌, fold, max, min}
use Rattle.goldilocks.specs.Field.{field_add}
use Rattle.table_builder.specs.PublicParts.{all_digits, numbers_from}
use Rattle.table_builder.proofs.public.Limits.with_range.Given as goal

abbrev pub invariant-loop : goal.invariant-loop
invariant-loop g l = record {
  address : l.addr.number ≡ field_add l.fn.begin.number l.counter;
  least : l.limits.least ≡ fold min l.fn.self.least (all_digits (numbers_from (g.M.Reads.cells l.m) l.fn.begin.number l.counter));
  greatest : l.limits.greatest ≡ fold max l.fn.self.greatest (all_digits (numbers_from (g.M.Reads.cells l.m) l.fn.begin.number l.counter));
}
