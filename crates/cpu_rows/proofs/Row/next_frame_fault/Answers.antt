use Rattle.std.proofs.Common.{List, take, drop, refl}
use Rattle.std.specs.Prelude.{slice_range}
use Rattle.casm_word.specs.Transition.{registers}
use Rattle.cpu_rows.specs.Columns.{columns}
use Rattle.cpu_rows.specs.Equations.{Equation, equations}
use Rattle.cpu_rows.specs.Steps.{zero_or_one}
use Rattle.goldilocks.proofs.FieldLaws.{field_mul_comm}
use Rattle.cpu_rows.proofs.Failing.{joined, unmet_is}
use Rattle.cpu_rows.proofs.Row.next_frame_fault.Goals as goal

pub returns : goal.returns
unfolding equations columns registers
returns c =
    let r = columns c.args.self.now in
    let es : List Equation = slice_range (equations r (registers c.args.next)) 26 28 in
    let has = c.requires in
    let f = c.args.flags in
    joined c.or.result c.unmet.result c.unmet-2.result (take 1 es) (take 1 (drop 1 es)) c.or.ensures
    (unmet_is c.unmet.result 27 _ _ _ _ c.unmet.ensures refl (cc (field_mul_comm 2 (zero_or_one f.op_call))))
    (unmet_is c.unmet-2.result 28 _ _ _ _ c.unmet-2.ensures refl (cc))
