use Rattle.std.proofs.Common.{get_or}
use Rattle.range_columns.proofs.LimbLaws.{none_fails, narrow_value}
use Rattle.range_columns.proofs.limbs.limb_fault.Goals as goal

pub returns-clause-none : goal.returns-clause-none
returns-clause-none c = none_fails c.args.limbs c.args.rows.now c.first_other.result c.first_other.ensures

pub returns-clause-narrow : goal.returns-clause-narrow
returns-clause-narrow c = λ none limbs k d lt. narrow_value c.args.limbs (get_or c.args.rows.now k d) c.requires.width ((none_fails c.args.limbs c.args.rows.now c.first_other.result c.first_other.ensures).0 none k d lt) (limbs k d lt)
