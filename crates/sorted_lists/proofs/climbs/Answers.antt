use Rattle.std.proofs.Common.{◌≤◌, arith}
use Rattle.std.proofs.lemmas.Bool.{leb-true, le-leb}
use Rattle.goldilocks.specs.Field.{field_sub}
use Rattle.sorted_lists.proofs.Neighbours.{step_from_climb, climb_from_step}
use Rattle.sorted_lists.proofs.climbs.Goals as goal

pub returns : goal.returns
returns c = (
  λ h. climb_from_step c.args.from.number c.args.to.number (omega (arith, leb-true c.sub.result.number 1 h)),
  λ e. let low : field_sub c.args.to.number c.args.from.number ≤ 1 = step_from_climb c.args.from.number c.args.to.number e in le-leb c.sub.result.number 1 (omega arith),
)
