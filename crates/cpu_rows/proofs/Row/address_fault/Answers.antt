use Rattle.std.proofs.Common.{List, take, drop, refl}
use Rattle.std.specs.Prelude.{slice_range}
use Rattle.cpu_rows.specs.Columns.{columns}
use Rattle.cpu_rows.specs.Equations.{Equation, equations}
use Rattle.cpu_rows.proofs.Choices.{one_of_two}
use Rattle.cpu_rows.proofs.Failing.{joined, unmet_is}
use Rattle.cpu_rows.proofs.Row.address_fault.Goals as goal

pub returns : goal.returns
unfolding equations columns
returns c =
    λ after.
    let r = columns c.args.self.now in
    let es : List Equation = slice_range (equations r after) 17 20 in
    let has = c.requires in
    joined c.or-2.result c.or.result c.unmet-3.result (take 2 es) (take 1 (drop 2 es)) c.or-2.ensures
    (joined c.or.result c.unmet.result c.unmet-2.result (take 1 es) (take 1 (drop 1 es)) c.or.ensures
    (unmet_is c.unmet.result 18 _ _ _ _ c.unmet.ensures refl (cc (one_of_two c.args.flags.dst_fp r.fp r.ap r.off_dst)))
    (unmet_is c.unmet-2.result 19 _ _ _ _ c.unmet-2.ensures refl (cc (one_of_two c.args.flags.op0_fp r.fp r.ap r.off_op0))))
    (unmet_is c.unmet-3.result 20 _ _ _ _ c.unmet-3.ensures refl (cc))
