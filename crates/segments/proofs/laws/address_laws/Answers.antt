use Rattle.std.proofs.Common.{ap}
use Rattle.segments.specs.Relocation.{relocated}
use Rattle.segments.proofs.Addresses.{address_positive}
use Rattle.segments.proofs.Memories.{addresses-distinct, addresses-to_total, relocated-in_field, relocated-not_zero}
use Rattle.segments.proofs.laws.address_laws.Goals as goal

pub returns : goal.returns
returns c = record {
  distinct = addresses-distinct;
  from_one = address_positive;
  to_total = addresses-to_total;
  in_field = relocated-in_field;
  not_zero = relocated-not_zero;
  equal = λ sizes v w e. ap (relocated sizes) e;
}
