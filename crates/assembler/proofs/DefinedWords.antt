-- The words of statements are defined, and a flag says whether an immediate stands behind one.
use Rattle.std.proofs.Common.{◌≡◌, Bool, true, false, not, None, is_some, refl, sym, pos}
use Rattle.casm_word.specs.declared.Flags.{Flags}
use Rattle.casm_word.specs.declared.Word.{Word}
use Rattle.casm_word.specs.declared.Shape.TheVariants.{Op1, Res, Pc, Opcode, ApBoth, JnzOpcode, JnzAp, CallAp}
use Rattle.casm_word.specs.Word.{breaks, two_of, first_broken}
use Rattle.casm_statements.specs.declared.Reg.{Reg}
use Rattle.casm_statements.specs.declared.Reg.TheVariants.{Ap, Fp}
use Rattle.casm_statements.specs.declared.Term.{Term}
use Rattle.casm_statements.specs.declared.Term.TheVariants as term
use Rattle.casm_statements.specs.declared.Operand.{Operand}
use Rattle.casm_statements.specs.declared.Operand.TheVariants as operand
use Rattle.casm_statements.specs.declared.Stmt.{Stmt}
use Rattle.casm_statements.specs.declared.Stmt.TheVariants.{Assert, Jump, Branch, Call, Ret, AddAp}
use Rattle.casm_statements.specs.Words.{is_fp, no_flags, unused, with_dst, with_op0, with_term, with_operand, encoding}

-- the flag of the immediate
term_immediate : (w : Word) (t : Term) → w.flags.op1_imm ≡ false → is_some (with_term w t).1 ≡ (with_term w t).0.flags.op1_imm
term_immediate w (term.Cell c) e = sym e
term_immediate w (term.Imm v) e = refl

operand_immediate : (w : Word) (o : Operand) → w.flags.op1_imm ≡ false → is_some (with_operand w o).1 ≡ (with_operand w o).0.flags.op1_imm
operand_immediate w (operand.Deref c) e = sym e
operand_immediate w (operand.Double c o) e = sym e
operand_immediate w (operand.Imm v) e = refl
operand_immediate w (operand.Sum c t) e = term_immediate (record (with_op0 w c) { flags = record (with_op0 w c).flags { res_add = true } }) t e
operand_immediate w (operand.Product c t) e = term_immediate (record (with_op0 w c) { flags = record (with_op0 w c).flags { res_mul = true } }) t e

pub has_immediate : (s : Stmt) → is_some (encoding s).1 ≡ (encoding s).0.flags.op1_imm
unfolding encoding
has_immediate (Assert dst res inc) = operand_immediate (with_dst (record unused { flags = record unused.flags { op_assert = true; ap_add1 = inc } }) dst) res refl
has_immediate (Jump abs res inc) = operand_immediate (record unused { flags = record unused.flags { pc_abs = abs; pc_rel = not abs; ap_add1 = inc } }) res refl
has_immediate (Branch cond to inc) = term_immediate (with_dst (record unused { flags = record unused.flags { pc_jnz = true; ap_add1 = inc } }) cond) to refl
has_immediate (Call abs to) = term_immediate (record { off_dst = pos 0; off_op0 = pos 1; off_op1 = pos 0; flags = record no_flags { pc_abs = abs; pc_rel = not abs; op_call = true } }) to refl
has_immediate Ret = refl
has_immediate (AddAp res) = operand_immediate (record unused { flags = record unused.flags { ap_add = true } }) res refl

-- the flags break no shape
record Unbroken (f : Flags) : Type 0 where
  op1 : breaks Op1 f ≡ false
  res : breaks Res f ≡ false
  pc : breaks Pc f ≡ false
  opcode : breaks Opcode f ≡ false
  ap_both : breaks ApBoth f ≡ false
  jnz_opcode : breaks JnzOpcode f ≡ false
  jnz_ap : breaks JnzAp f ≡ false
  call_ap : breaks CallAp f ≡ false

none_broken : (f : Flags) → Unbroken f → first_broken f ≡ None
unfolding first_broken
none_broken f u = rw (u.op1, u.res, u.pc, u.opcode, u.ap_both, u.jnz_opcode, u.jnz_ap, u.call_ap) refl

-- no source of op1 is chosen yet, and no operation
record IsPlain (f : Flags) : Type 0 where
  imm : f.op1_imm ≡ false
  fp : f.op1_fp ≡ false
  ap : f.op1_ap ≡ false

one_register : (r : Reg) → two_of false (is_fp r) (not (is_fp r)) ≡ false
one_register Ap = refl
one_register Fp = refl

with_op1_unbroken : (w : Word) (r : Reg) → IsPlain w.flags → Unbroken w.flags → Unbroken (record w.flags { op1_fp = is_fp r; op1_ap = not (is_fp r) })
unfolding breaks
with_op1_unbroken w r p u = record { op1 = rw p.imm (one_register r); res = u.res; pc = u.pc; opcode = u.opcode; ap_both = u.ap_both; jnz_opcode = u.jnz_opcode; jnz_ap = u.jnz_ap; call_ap = u.call_ap }

with_immediate_unbroken : (w : Word) → IsPlain w.flags → Unbroken w.flags → Unbroken (record w.flags { op1_imm = true })
unfolding breaks
with_immediate_unbroken w p u = record { op1 = rw (p.fp, p.ap) refl; res = u.res; pc = u.pc; opcode = u.opcode; ap_both = u.ap_both; jnz_opcode = u.jnz_opcode; jnz_ap = u.jnz_ap; call_ap = u.call_ap }

term_unbroken : (w : Word) (t : Term) → IsPlain w.flags → Unbroken w.flags → Unbroken (with_term w t).0.flags
term_unbroken w (term.Cell c) p u = with_op1_unbroken w c.reg p u
term_unbroken w (term.Imm v) p u = with_immediate_unbroken w p u

operand_unbroken : (w : Word) (o : Operand) → IsPlain w.flags → w.flags.res_add ≡ false → w.flags.res_mul ≡ false → w.flags.pc_jnz ≡ false → Unbroken w.flags → Unbroken (with_operand w o).0.flags
unfolding breaks
operand_unbroken w (operand.Deref c) p a m j u = with_op1_unbroken w c.reg p u
operand_unbroken w (operand.Double c o) p a m j u = record { op1 = u.op1; res = u.res; pc = u.pc; opcode = u.opcode; ap_both = u.ap_both; jnz_opcode = u.jnz_opcode; jnz_ap = u.jnz_ap; call_ap = u.call_ap }
operand_unbroken w (operand.Imm v) p a m j u = with_immediate_unbroken w p u
operand_unbroken w (operand.Sum c t) p a m j u =
    term_unbroken (record (with_op0 w c) { flags = record (with_op0 w c).flags { res_add = true } }) t (record { imm = p.imm; fp = p.fp; ap = p.ap })
    (record { op1 = u.op1; res = rw (m, j) refl; pc = u.pc; opcode = u.opcode; ap_both = u.ap_both; jnz_opcode = u.jnz_opcode; jnz_ap = u.jnz_ap; call_ap = u.call_ap })
operand_unbroken w (operand.Product c t) p a m j u =
    term_unbroken (record (with_op0 w c) { flags = record (with_op0 w c).flags { res_mul = true } }) t (record { imm = p.imm; fp = p.fp; ap = p.ap })
    (record { op1 = u.op1; res = rw (a, j) refl; pc = u.pc; opcode = u.opcode; ap_both = u.ap_both; jnz_opcode = u.jnz_opcode; jnz_ap = u.jnz_ap; call_ap = u.call_ap })

one_way : (abs : Bool) → two_of abs (not abs) false ≡ false
one_way true = refl
one_way false = refl

stmt_unbroken : (s : Stmt) → Unbroken (encoding s).0.flags
unfolding encoding breaks
stmt_unbroken (Assert dst res inc) =
    operand_unbroken (with_dst (record unused { flags = record unused.flags { op_assert = true; ap_add1 = inc } }) dst) res (record { imm = refl; fp = refl; ap = refl }) refl refl refl
    (record { op1 = refl; res = refl; pc = refl; opcode = refl; ap_both = refl; jnz_opcode = refl; jnz_ap = refl; call_ap = refl })
stmt_unbroken (Jump abs res inc) =
    operand_unbroken (record unused { flags = record unused.flags { pc_abs = abs; pc_rel = not abs; ap_add1 = inc } }) res (record { imm = refl; fp = refl; ap = refl }) refl refl refl
    (record { op1 = refl; res = refl; pc = one_way abs; opcode = refl; ap_both = refl; jnz_opcode = refl; jnz_ap = refl; call_ap = refl })
stmt_unbroken (Branch cond to inc) =
    term_unbroken (with_dst (record unused { flags = record unused.flags { pc_jnz = true; ap_add1 = inc } }) cond) to (record { imm = refl; fp = refl; ap = refl })
    (record { op1 = refl; res = refl; pc = refl; opcode = refl; ap_both = refl; jnz_opcode = refl; jnz_ap = refl; call_ap = refl })
stmt_unbroken (Call abs to) =
    term_unbroken (record { off_dst = pos 0; off_op0 = pos 1; off_op1 = pos 0; flags = record no_flags { pc_abs = abs; pc_rel = not abs; op_call = true } }) to (record { imm = refl; fp = refl; ap = refl })
    (record { op1 = refl; res = refl; pc = one_way abs; opcode = refl; ap_both = refl; jnz_opcode = refl; jnz_ap = refl; call_ap = refl })
stmt_unbroken Ret = record { op1 = refl; res = refl; pc = refl; opcode = refl; ap_both = refl; jnz_opcode = refl; jnz_ap = refl; call_ap = refl }
stmt_unbroken (AddAp res) =
    operand_unbroken (record unused { flags = record unused.flags { ap_add = true } }) res (record { imm = refl; fp = refl; ap = refl }) refl refl refl
    (record { op1 = refl; res = refl; pc = refl; opcode = refl; ap_both = refl; jnz_opcode = refl; jnz_ap = refl; call_ap = refl })

-- the flags of a statement's word are defined
pub is_defined : (s : Stmt) → first_broken (encoding s).0.flags ≡ None
is_defined s = none_broken (encoding s).0.flags (stmt_unbroken s)
