use Rattle.std.proofs.Common.{eqb, ap, ◌∙◌}
use Rattle.range_columns.specs.Limbs.{meets_v1}
use Rattle.range_columns.proofs.RangeRow.meets_limbs.Goals as goal

pub returns : goal.returns
unfolding meets_v1
returns c = c.eq.ensures ∙ ap (eqb c.args.self.now.value.number) c.joined.ensures
