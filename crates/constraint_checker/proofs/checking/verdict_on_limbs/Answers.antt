use Rattle.std.proofs.Common.{◌∙◌, sym, refl}
use Rattle.range_columns.specs.Limbs.{limb_limit}
use Rattle.table_file.specs.Tables.{contents}
use Rattle.constraint_checker.proofs.Groups.{limbs_refused, limbs_accepted}
use Rattle.constraint_checker.proofs.checking.verdict_on_limbs.Goals as goal

pub returns-in-Some : goal.returns-in-Some
returns-in-Some c = c.refused.ensures ∙ sym (limbs_refused limb_limit (contents c.args.tables.now).range c.in-Some.row (sym (rw c.as_slice-rows.ensures.value at c.in-Some.ensures.fault)))

pub returns-in-None : goal.returns-in-None
returns-in-None c = sym ((limbs_accepted limb_limit (contents c.args.tables.now).range).1 (rw c.as_slice-rows.ensures.value at (c.in-None.ensures.none.0 refl)))
