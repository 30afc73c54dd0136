-- The word and the immediate of each statement. "The whitepaper" is Cairo's, ePrint 2021/1063.
use Rattle.std.specs.Prelude.{pos, negsuc, Bool, true, false, not, Option, Some, None}
use Rattle.goldilocks.specs.declared.Felt.{Felt}
use Rattle.casm_word.specs.declared.Flags.{Flags}
use Rattle.casm_word.specs.declared.Word.{Word}
use Rattle.casm_statements.specs.declared.Reg.{Reg}
use Rattle.casm_statements.specs.declared.Reg.TheVariants.{Ap, Fp}
use Rattle.casm_statements.specs.declared.Cell.{Cell}
use Rattle.casm_statements.specs.declared.Term.{Term}
use Rattle.casm_statements.specs.declared.Term.TheVariants as term
use Rattle.casm_statements.specs.declared.Operand.{Operand}
use Rattle.casm_statements.specs.declared.Operand.TheVariants as operand
use Rattle.casm_statements.specs.declared.Stmt.{Stmt}
use Rattle.casm_statements.specs.declared.Stmt.TheVariants.{Assert, Jump, Branch, Call, Ret, AddAp}

-- No flag is set. Own.
abbrev pub no_flags : Flags
no_flags = record {
  dst_fp = false;
  op0_fp = false;
  op1_imm = false;
  op1_fp = false;
  op1_ap = false;
  res_add = false;
  res_mul = false;
  pc_abs = false;
  pc_rel = false;
  pc_jnz = false;
  ap_add = false;
  ap_add1 = false;
  op_call = false;
  op_ret = false;
  op_assert = false;
}

-- The register is fp. Own.
abbrev pub is_fp : Reg → Bool
is_fp Ap = false
is_fp Fp = true

-- The word with dst and op0 one cell below fp, and nothing else: what stands where a statement says nothing of
-- them. Own.
abbrev pub unused : Word
unused = record { off_dst = negsuc 0; off_op0 = negsuc 0; off_op1 = pos 0; flags = record no_flags { dst_fp = true; op0_fp = true } }

-- The word with this cell as dst. Own.
abbrev pub with_dst : Word → Cell → Word
with_dst w c = record w { off_dst = c.off; flags = record w.flags { dst_fp = is_fp c.reg } }

-- The word with this cell as op0. Own.
abbrev pub with_op0 : Word → Cell → Word
with_op0 w c = record w { off_op0 = c.off; flags = record w.flags { op0_fp = is_fp c.reg } }

-- The word with this cell as op1. Own.
abbrev pub with_op1 : Word → Cell → Word
with_op1 w c = record w { off_op1 = c.off; flags = record w.flags { op1_fp = is_fp c.reg; op1_ap = not (is_fp c.reg) } }

-- The word with the number after it as op1. Own.
abbrev pub with_immediate : Word → Word
with_immediate w = record w { off_op1 = pos 1; flags = record w.flags { op1_imm = true } }

-- The word that takes op1 from a term, and the immediate. Own.
abbrev pub with_term : Word → Term → Word × Option Felt
with_term w (term.Cell c) = (with_op1 w c, None)
with_term w (term.Imm v) = (with_immediate w, Some v)

-- The word that computes an operand, and the immediate. Own.
abbrev pub with_operand : Word → Operand → Word × Option Felt
with_operand w (operand.Deref c) = (with_op1 w c, None)
with_operand w (operand.Double c o) = (record (with_op0 w c) { off_op1 = o }, None)
with_operand w (operand.Imm v) = (with_immediate w, Some v)
with_operand w (operand.Sum c t) = with_term (record (with_op0 w c) { flags = record (with_op0 w c).flags { res_add = true } }) t
with_operand w (operand.Product c t) = with_term (record (with_op0 w c) { flags = record (with_op0 w c).flags { res_mul = true } }) t

-- The word and the immediate of a statement. After the whitepaper's instruction structure; the offsets of operands that a
-- statement makes no use of are own.
unfoldable pub encoding : Stmt → Word × Option Felt
encoding (Assert dst res inc) =
    with_operand (with_dst (record unused { flags = record unused.flags { op_assert = true; ap_add1 = inc } }) dst) res
encoding (Jump abs res inc) =
    with_operand (record unused { flags = record unused.flags { pc_abs = abs; pc_rel = not abs; ap_add1 = inc } }) res
encoding (Branch cond to inc) =
    with_term (with_dst (record unused { flags = record unused.flags { pc_jnz = true; ap_add1 = inc } }) cond) to
encoding (Call abs to) =
    with_term (record { off_dst = pos 0; off_op0 = pos 1; off_op1 = pos 0; flags = record no_flags { pc_abs = abs; pc_rel = not abs; op_call = true } }) to
encoding Ret =
    (record { off_dst = negsuc 1; off_op0 = negsuc 0; off_op1 = negsuc 0; flags = record no_flags { dst_fp = true; op0_fp = true; op1_fp = true; pc_abs = true; op_ret = true } }, None)
encoding (AddAp res) =
    with_operand (record unused { flags = record unused.flags { ap_add = true } }) res
