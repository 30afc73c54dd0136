-- The statement that a word and an immediate may be of, read off the flags: what private functions answer. No public
-- contract rests on it, and none of it need be believed.
use Rattle.std.specs.Prelude.{ℤ, Bool, ◌||◌, if◌then◌else◌, List, [], ◌∷◌, Option, Some, None}
use Rattle.goldilocks.specs.declared.Felt.{Felt}
use Rattle.casm_word.specs.declared.Flags.{Flags}
use Rattle.casm_word.specs.declared.Word.{Word}
use Rattle.casm_statements.specs.declared.Reg.TheVariants.{Ap, Fp}
use Rattle.casm_statements.specs.declared.Cell.{Cell}
use Rattle.casm_statements.specs.declared.Term.{Term}
use Rattle.casm_statements.specs.declared.Term.TheVariants as term
use Rattle.casm_statements.specs.declared.Operand.{Operand}
use Rattle.casm_statements.specs.declared.Operand.TheVariants as operand
use Rattle.casm_statements.specs.declared.Stmt.{Stmt}
use Rattle.casm_statements.specs.declared.Stmt.TheVariants.{Assert, Jump, Branch, Call, Ret, AddAp}

-- The cell at this offset from fp, or from ap. Own.
abbrev pub cell_at : Bool → ℤ → Cell
cell_at fp off = record { reg = if fp then Fp else Ap; off = off }

-- The term that a word which has one has as op1. Own.
abbrev pub term_in : Word → Option Felt → Term
term_in w None = term.Cell (cell_at w.flags.op1_fp w.off_op1)
term_in w (Some v) = term.Imm v

-- An operand that isn't a sum or a product. Own.
abbrev pub plain_in : Word → Option Felt → Operand
plain_in w None =
    if (w.flags.op1_fp || w.flags.op1_ap) then operand.Deref (cell_at w.flags.op1_fp w.off_op1)
    else operand.Double (cell_at w.flags.op0_fp w.off_op0) w.off_op1
plain_in w (Some v) = operand.Imm v

-- The operand that a word which has one computes. Own.
abbrev pub operand_in : Word → Option Felt → Operand
operand_in w imm =
    if w.flags.res_add then operand.Sum (cell_at w.flags.op0_fp w.off_op0) (term_in w imm)
    else (if w.flags.res_mul then operand.Product (cell_at w.flags.op0_fp w.off_op0) (term_in w imm)
    else plain_in w imm)

-- The only statement that may be written as this word and immediate. Own.
unfoldable pub stmt_in : Word → Option Felt → Stmt
stmt_in w imm =
    if w.flags.op_assert then Assert (cell_at w.flags.dst_fp w.off_dst) (operand_in w imm) w.flags.ap_add1
    else (if w.flags.op_call then Call w.flags.pc_abs (term_in w imm)
    else (if w.flags.op_ret then Ret
    else (if w.flags.pc_jnz then Branch (cell_at w.flags.dst_fp w.off_dst) (term_in w imm) w.flags.ap_add1
    else (if w.flags.ap_add then AddAp (operand_in w imm)
    else Jump w.flags.pc_abs (operand_in w imm) w.flags.ap_add1))))

-- The flags in the order of their bits. Own.
abbrev pub flag_list : Flags → List Bool
flag_list f =
    f.dst_fp ∷ f.op0_fp ∷ f.op1_imm ∷ f.op1_fp ∷ f.op1_ap ∷ f.res_add ∷ f.res_mul ∷ f.pc_abs ∷ f.pc_rel ∷ f.pc_jnz ∷ f.ap_add ∷ f.ap_add1 ∷ f.op_call ∷ f.op_ret ∷ f.op_assert ∷ []
