use Rattle.std.proofs.Common.{◌∙◌}
use Rattle.goldilocks.specs.Field.{field_sub}
use Rattle.assembler.proofs.AssemblyLemmas.{distance-is}
use Rattle.assembler.proofs.words.distance.Goals as goal

pub returns : goal.returns
returns c =
    let to = c.from-number.ensures in
    let from = c.from.ensures in
    distance-is c.sub.result c.args.to c.args.from (c.sub.ensures ∙ (λ i. field_sub (to i) (from i)))
