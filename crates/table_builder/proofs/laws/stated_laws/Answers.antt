use Rattle.std.proofs.Common.{sym, ap}
use Rattle.table_builder.specs.Columns.{least_of, greatest_of}
use Rattle.table_builder.specs.Public.{stated_with, public_of}
use Rattle.table_builder.proofs.Stated.{public_small, limits_kept}
use Rattle.table_builder.proofs.StatedRuns.{can_be_stated}
use Rattle.table_builder.proofs.laws.stated_laws.Goals as goal

pub returns : goal.returns
unfolding public_of stated_with
returns c = record {
  can = λ program run is. can_be_stated program run is;
  limits = λ run small can. limits_kept run small can;
  least = λ run. ap least_of (sym (public_small run));
  greatest = λ run. ap greatest_of (sym (public_small run));
}
