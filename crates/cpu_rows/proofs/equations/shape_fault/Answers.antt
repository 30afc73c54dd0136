use Rattle.std.proofs.Common.{◌&&◌, ◌||◌, [], ◌∷◌, refl}
use Rattle.casm_word.specs.declared.Flags.{Flags}
use Rattle.casm_word.specs.declared.Shape.TheVariants.{Op1, Res, Pc, Opcode, ApBoth, JnzOpcode, JnzAp, CallAp}
use Rattle.casm_word.specs.Word.{breaks, first_broken}
use Rattle.cpu_rows.proofs.Failing.{shapes_joined, shape_is}
use Rattle.cpu_rows.proofs.equations.shape_fault.Goals as goal

pub returns : goal.returns
unfolding first_broken breaks
returns c =
    let f : Flags = c.args.flags in
    shapes_joined f c.or-7.result c.or-6.result c.excluded-8.result (Op1 ∷ Res ∷ Pc ∷ Opcode ∷ ApBoth ∷ JnzOpcode ∷ JnzAp ∷ []) (CallAp ∷ []) c.or-7.ensures
    (shapes_joined f c.or-6.result c.or-5.result c.excluded-7.result (Op1 ∷ Res ∷ Pc ∷ Opcode ∷ ApBoth ∷ JnzOpcode ∷ []) (JnzAp ∷ []) c.or-6.ensures
    (shapes_joined f c.or-5.result c.or-4.result c.excluded-6.result (Op1 ∷ Res ∷ Pc ∷ Opcode ∷ ApBoth ∷ []) (JnzOpcode ∷ []) c.or-5.ensures
    (shapes_joined f c.or-4.result c.or-3.result c.excluded-5.result (Op1 ∷ Res ∷ Pc ∷ Opcode ∷ []) (ApBoth ∷ []) c.or-4.ensures
    (shapes_joined f c.or-3.result c.or-2.result c.excluded-4.result (Op1 ∷ Res ∷ Pc ∷ []) (Opcode ∷ []) c.or-3.ensures
    (shapes_joined f c.or-2.result c.or.result c.excluded-3.result (Op1 ∷ Res ∷ []) (Pc ∷ []) c.or-2.ensures
    (shapes_joined f c.or.result c.excluded.result c.excluded-2.result (Op1 ∷ []) (Res ∷ []) c.or.ensures
    (shape_is f Op1 c.excluded.result c.are_two.result c.excluded.ensures c.are_two.ensures)
    (shape_is f Res c.excluded-2.result c.are_two-2.result c.excluded-2.ensures c.are_two-2.ensures))
    (shape_is f Pc c.excluded-3.result c.are_two-3.result c.excluded-3.ensures c.are_two-3.ensures))
    (shape_is f Opcode c.excluded-4.result c.are_two-4.result c.excluded-4.ensures c.are_two-4.ensures))
    (shape_is f ApBoth c.excluded-5.result (f.ap_add && f.ap_add1) c.excluded-5.ensures refl))
    (shape_is f JnzOpcode c.excluded-6.result (f.pc_jnz && (f.op_call || f.op_ret || f.op_assert)) c.excluded-6.ensures refl))
    (shape_is f JnzAp c.excluded-7.result (f.pc_jnz && f.ap_add) c.excluded-7.ensures refl))
    (shape_is f CallAp c.excluded-8.result (f.op_call && (f.ap_add || f.ap_add1)) c.excluded-8.ensures refl)
