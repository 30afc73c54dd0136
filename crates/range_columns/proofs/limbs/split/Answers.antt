use Rattle.std.proofs.Common.{◌<◌, subst, refl, arith}
use Rattle.std.proofs.lemmas.Bool.{lt-ltb, le-ltb}
use Rattle.range_columns.specs.Limbs.{limb_at, limb_or_first, range_bound}
use Rattle.range_columns.proofs.LimbLaws.{meets_split}
use Rattle.range_columns.proofs.limbs.split.Goals.{then-limbs-gt1, else-limbs-gt1, then-limbs-gt2, else-limbs-gt2}
use Rattle.range_columns.proofs.limbs.split.Goals as goal

pub returns-clause-limbs : goal.returns-clause-limbs
unfolding limb_at limb_or_first
returns-clause-limbs c =
    record {
      value = refl;
      l0 = omega arith;
      l1 = elim c.if-limbs-gt1.branch [
        | then-limbs-gt1 w ↦ rw (lt-ltb 1 c.args.limbs w.if-limbs-gt1.true) (omega (arith, w.middle-is))
        | else-limbs-gt1 w ↦ rw (le-ltb 1 c.args.limbs w.if-limbs-gt1.false) (omega (arith, w.middle-is))
      ];
      l2 = elim c.if-limbs-gt2.branch [
        | then-limbs-gt2 w ↦ rw (lt-ltb 2 c.args.limbs w.if-limbs-gt2.true) (omega (arith, w.high-is))
        | else-limbs-gt2 w ↦ rw (le-ltb 2 c.args.limbs w.if-limbs-gt2.false) (omega (arith, w.high-is))
      ];
    }

pub returns-clause-meets : goal.returns-clause-meets
returns-clause-meets c =
    let below : c.args.value.number < range_bound c.args.limbs = subst (λ n. c.args.value.number < n) c.bound.ensures c.if-value-bound.false in
    meets_split c.args.limbs _ c.args.value.number c.requires.width below (returns-clause-limbs c)
