use Rattle.std.proofs.Common.{◌<◌, ◌∙◌, length, arith, sym, ap, Some}
use Rattle.std.proofs.Math.ListN.{length-set}
use Rattle.std.proofs.lemmas.Result.{err_from_is_err_and}
use Rattle.cpu_rows.specs.Columns.{columns}
use Rattle.cpu_rows.proofs.Failing.{bad_flag, more_flags}
use Rattle.cpu_rows.proofs.Row.flags.Goals as goal

pub returns-in_err-set : goal.returns-in_err-set
returns-in_err-set c =
    λ after.
    let p = err_from_is_err_and c.from_residual.result c.from_residual.ensures.1 in
    let below : c.loop-place.place < 15 = omega arith in
    rw (p.1, p.2)
    (bad_flag (columns c.args.self.now) after c.loop-place.set c.loop-place.place below c.loop-place.invariant.1 c.in_err-set.ensures.fails
    ∙ sym (ap Some c.in_err-set.ensures.number))

pub loop-place-preserved : goal.loop-place-preserved
loop-place-preserved c =
    let inside : c.loop-place.place < length c.loop-place.set = omega (arith, c.loop-place.invariant.0) in
    let more = more_flags (columns c.args.self.now) c.loop-place.set c.loop-place.place c.in_ok-set.field-0 inside c.loop-place.invariant.1 c.in_ok-set.ensures.set in
    (omega (arith, length-set c.loop-place.set c.loop-place.place c.in_ok-set.field-0, c.loop-place.invariant.0), more)

pub returns : goal.returns
returns c =
    λ after.
    record {
      dst_fp = c.loop-place.invariant.1 0 (omega arith);
      op0_fp = c.loop-place.invariant.1 1 (omega arith);
      op1_imm = c.loop-place.invariant.1 2 (omega arith);
      op1_fp = c.loop-place.invariant.1 3 (omega arith);
      op1_ap = c.loop-place.invariant.1 4 (omega arith);
      res_add = c.loop-place.invariant.1 5 (omega arith);
      res_mul = c.loop-place.invariant.1 6 (omega arith);
      pc_abs = c.loop-place.invariant.1 7 (omega arith);
      pc_rel = c.loop-place.invariant.1 8 (omega arith);
      pc_jnz = c.loop-place.invariant.1 9 (omega arith);
      ap_add = c.loop-place.invariant.1 10 (omega arith);
      ap_add1 = c.loop-place.invariant.1 11 (omega arith);
      op_call = c.loop-place.invariant.1 12 (omega arith);
      op_ret = c.loop-place.invariant.1 13 (omega arith);
      op_assert = c.loop-place.invariant.1 14 (omega arith);
    }
