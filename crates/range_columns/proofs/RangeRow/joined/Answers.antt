use Rattle.std.proofs.Common.{refl}
use Rattle.std.proofs.lemmas.Bool.{ne_eqb}
use Rattle.range_columns.specs.Limbs.{joined_limbs}
use Rattle.range_columns.proofs.RangeRow.joined.Goals as goal

pub returns-then-limbs-eq1 : goal.returns-then-limbs-eq1
unfolding joined_limbs
returns-then-limbs-eq1 c = rw c.if-limbs-eq1.true refl

pub returns-then-limbs-eq2 : goal.returns-then-limbs-eq2
unfolding joined_limbs
returns-then-limbs-eq2 c = rw (c.if-limbs-eq2.true, c.add-two.ensures, c.mul.ensures) refl

pub returns : goal.returns
unfolding joined_limbs
returns c = rw (ne_eqb c.args.limbs 1 c.if-limbs-eq1.false, ne_eqb c.args.limbs 2 c.if-limbs-eq2.false, c.add.ensures, c.add-two.ensures, c.mul.ensures, c.mul-2.ensures) refl
