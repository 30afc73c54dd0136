use Rattle.std.proofs.Common.{List, take, drop, refl}
use Rattle.std.specs.Prelude.{slice_range}
use Rattle.cpu_rows.specs.Columns.{columns}
use Rattle.cpu_rows.specs.Equations.{Equation, equations}
use Rattle.cpu_rows.proofs.Choices.{not_flag}
use Rattle.cpu_rows.proofs.Failing.{joined, unmet_is}
use Rattle.cpu_rows.proofs.Row.operand_fault.Goals as goal

pub returns : goal.returns
unfolding equations columns
returns c =
    λ after.
    let r = columns c.args.self.now in
    let es : List Equation = slice_range (equations r after) 20 24 in
    let has = c.requires in
    let f = c.args.flags in
    joined c.or-3.result c.or-2.result c.unmet-4.result (take 3 es) (take 1 (drop 3 es)) c.or-3.ensures
    (joined c.or-2.result c.or.result c.unmet-3.result (take 2 es) (take 1 (drop 2 es)) c.or-2.ensures
    (joined c.or.result c.unmet.result c.unmet-2.result (take 1 es) (take 1 (drop 1 es)) c.or.ensures
    (unmet_is c.unmet.result 21 _ _ _ _ c.unmet.ensures refl (cc))
    (unmet_is c.unmet-2.result 22 _ _ _ _ c.unmet-2.ensures (cc (not_flag f.pc_jnz)) (cc)))
    (unmet_is c.unmet-3.result 23 _ _ _ _ c.unmet-3.ensures refl (cc)))
    (unmet_is c.unmet-4.result 24 _ _ _ _ c.unmet-4.ensures refl (cc))
