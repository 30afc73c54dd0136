use Rattle.std.proofs.Common.{◌∙◌, ap}
use Rattle.segments.specs.Values.{same_value}
use Rattle.segments.proofs.Relocations.{sum_relocates, difference_relocates, product_relocates, quotient_relocates, move_relocates}
use Rattle.segments.proofs.Values.{equal_values, same_value-refl}
use Rattle.segments.proofs.laws.arithmetic_laws.Goals as goal

pub returns : goal.returns
returns c = record {
  sum = sum_relocates;
  difference = difference_relocates;
  product = product_relocates;
  quotient = quotient_relocates;
  moved = move_relocates;
  same = λ a b. (equal_values a b, λ e. ap (λ v. same_value v b) e ∙ same_value-refl b);
}
