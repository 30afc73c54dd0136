-- The guess of an encoded statement is that statement.
use Rattle.std.proofs.Common.{◌≡◌, pos, Bool, true, false, not, ◌||◌, List, ◌∷◌, Option, Some, None, refl, ap, subst}
use Rattle.goldilocks.specs.declared.Felt.{Felt}
use Rattle.casm_word.specs.declared.Flags.{Flags}
use Rattle.casm_word.specs.declared.Word.{Word}
use Rattle.casm_statements.specs.declared.Reg.{Reg}
use Rattle.casm_statements.specs.declared.Reg.TheVariants.{Ap, Fp}
use Rattle.casm_statements.specs.declared.Cell.{Cell}
use Rattle.casm_statements.specs.declared.Term.{Term}
use Rattle.casm_statements.specs.declared.Term.TheVariants as term
use Rattle.casm_statements.specs.declared.Operand.{Operand}
use Rattle.casm_statements.specs.declared.Operand.TheVariants as operand
use Rattle.casm_statements.specs.declared.Stmt.{Stmt}
use Rattle.casm_statements.specs.declared.Stmt.TheVariants.{Assert, Jump, Branch, Call, Ret, AddAp}
use Rattle.casm_statements.specs.Words.{is_fp, no_flags, unused, with_dst, with_op0, with_op1, with_immediate, with_term, with_operand, encoding}
use Rattle.casm_statements.specs.Guesses.{cell_at, term_in, plain_in, operand_in, stmt_in, flag_list}

-- a cell is the one of its register and offset
cell_is : (c : Cell) → cell_at (is_fp c.reg) c.off ≡ c
unfolding cell_at
cell_is c = elim c.reg as (λ r. cell_at (is_fp r) c.off ≡ record { reg = r; off = c.off }) [ Ap ↦ refl | Fp ↦ refl ]

-- a word that takes op1 from a register has one of the two flags
takes_op1 : (r : Reg) → (is_fp r || not (is_fp r)) ≡ true
takes_op1 Ap = refl
takes_op1 Fp = refl

-- the term and the operand of a word that has them
term_is : (w : Word) (t : Term) → term_in (with_term w t).0 (with_term w t).1 ≡ t
unfolding term_in with_term with_op1 with_immediate
term_is w (term.Cell c) = ap term.Cell (cell_is c)
term_is w (term.Imm v) = refl

-- an operand of a word that has no flags of op1 and res
operand_is : (w : Word) (o : Operand) → w.flags.res_add ≡ false → w.flags.res_mul ≡ false → w.flags.op1_fp ≡ false → w.flags.op1_ap ≡ false → operand_in (with_operand w o).0 (with_operand w o).1 ≡ o
unfolding operand_in plain_in term_in with_operand with_term with_op0 with_op1 with_immediate
operand_is w (operand.Deref c) a m f p = rw (a, m, takes_op1 c.reg) (ap operand.Deref (cell_is c))
operand_is w (operand.Double c o) a m f p = rw (a, m, f, p) (ap (λ x. operand.Double x o) (cell_is c))
operand_is w (operand.Imm v) a m f p = rw (a, m) refl
operand_is w (operand.Sum c (term.Cell d)) a m f p = let e = cell_is c in let h = cell_is d in cc
operand_is w (operand.Sum c (term.Imm v)) a m f p = let e = cell_is c in cc
operand_is w (operand.Product c (term.Cell d)) a m f p = rw a (let e = cell_is c in let h = cell_is d in cc)
operand_is w (operand.Product c (term.Imm v)) a m f p = rw a (let e = cell_is c in cc)

-- what op0 and op1 are taken from leaves dst, pc, ap and the opcodes as they are
record KeepsRest (w u : Word) : Type 0 where
  off_dst : u.off_dst ≡ w.off_dst
  dst_fp : u.flags.dst_fp ≡ w.flags.dst_fp
  pc_abs : u.flags.pc_abs ≡ w.flags.pc_abs
  pc_jnz : u.flags.pc_jnz ≡ w.flags.pc_jnz
  ap_add : u.flags.ap_add ≡ w.flags.ap_add
  ap_add1 : u.flags.ap_add1 ≡ w.flags.ap_add1
  op_call : u.flags.op_call ≡ w.flags.op_call
  op_ret : u.flags.op_ret ≡ w.flags.op_ret
  op_assert : u.flags.op_assert ≡ w.flags.op_assert

term_keeps : (w : Word) (t : Term) → KeepsRest w (with_term w t).0
unfolding with_term with_op1 with_immediate
term_keeps w (term.Cell c) = record { off_dst = refl; dst_fp = refl; pc_abs = refl; pc_jnz = refl; ap_add = refl; ap_add1 = refl; op_call = refl; op_ret = refl; op_assert = refl }
term_keeps w (term.Imm v) = record { off_dst = refl; dst_fp = refl; pc_abs = refl; pc_jnz = refl; ap_add = refl; ap_add1 = refl; op_call = refl; op_ret = refl; op_assert = refl }

operand_keeps : (w : Word) (o : Operand) → KeepsRest w (with_operand w o).0
unfolding with_operand with_op0 with_op1 with_immediate
operand_keeps w (operand.Deref c) = record { off_dst = refl; dst_fp = refl; pc_abs = refl; pc_jnz = refl; ap_add = refl; ap_add1 = refl; op_call = refl; op_ret = refl; op_assert = refl }
operand_keeps w (operand.Double c o) = record { off_dst = refl; dst_fp = refl; pc_abs = refl; pc_jnz = refl; ap_add = refl; ap_add1 = refl; op_call = refl; op_ret = refl; op_assert = refl }
operand_keeps w (operand.Imm v) = record { off_dst = refl; dst_fp = refl; pc_abs = refl; pc_jnz = refl; ap_add = refl; ap_add1 = refl; op_call = refl; op_ret = refl; op_assert = refl }
operand_keeps w (operand.Sum c t) = let k = term_keeps (record (with_op0 w c) { flags = record (with_op0 w c).flags { res_add = true } }) t in record { off_dst = k.off_dst; dst_fp = k.dst_fp; pc_abs = k.pc_abs; pc_jnz = k.pc_jnz; ap_add = k.ap_add; ap_add1 = k.ap_add1; op_call = k.op_call; op_ret = k.op_ret; op_assert = k.op_assert }
operand_keeps w (operand.Product c t) = let k = term_keeps (record (with_op0 w c) { flags = record (with_op0 w c).flags { res_mul = true } }) t in record { off_dst = k.off_dst; dst_fp = k.dst_fp; pc_abs = k.pc_abs; pc_jnz = k.pc_jnz; ap_add = k.ap_add; ap_add1 = k.ap_add1; op_call = k.op_call; op_ret = k.op_ret; op_assert = k.op_assert }

-- the statement that is read off an encoded one is that statement
pub stmt_is : (s : Stmt) → stmt_in (encoding s).0 (encoding s).1 ≡ s
unfolding stmt_in encoding with_dst unused
stmt_is (Assert dst res inc) =
    let w = with_dst (record unused { flags = record unused.flags { op_assert = true; ap_add1 = inc } }) dst in
    let k = operand_keeps w res in let o = operand_is w res refl refl refl refl in let d = cell_is dst in
    rw k.op_assert (cc)
stmt_is (Jump abs res inc) =
    let w : Word = record unused { flags = record unused.flags { pc_abs = abs; pc_rel = not abs; ap_add1 = inc } } in
    let k = operand_keeps w res in let o = operand_is w res refl refl refl refl in
    rw (k.op_assert, k.op_call, k.op_ret, k.pc_jnz, k.ap_add) (cc)
stmt_is (Branch cond to inc) =
    let w = with_dst (record unused { flags = record unused.flags { pc_jnz = true; ap_add1 = inc } }) cond in
    let k = term_keeps w to in let o = term_is w to in let d = cell_is cond in
    rw (k.op_assert, k.op_call, k.op_ret, k.pc_jnz) (cc)
stmt_is (Call abs to) =
    let w : Word = record { off_dst = pos 0; off_op0 = pos 1; off_op1 = pos 0; flags = record no_flags { pc_abs = abs; pc_rel = not abs; op_call = true } } in
    let k = term_keeps w to in let o = term_is w to in
    rw (k.op_assert, k.op_call) (cc)
stmt_is Ret = refl
stmt_is (AddAp res) =
    let w : Word = record unused { flags = record unused.flags { ap_add = true } } in
    let k = operand_keeps w res in let o = operand_is w res refl refl refl refl in
    rw (k.op_assert, k.op_call, k.op_ret, k.pc_jnz, k.ap_add) (cc)

-- so a statement that is written as this word and immediate is the one that is read off
pub only_stmt : (s : Stmt) (w : Word) (imm : Option Felt) → encoding s ≡ (w, imm) → stmt_in w imm ≡ s
only_stmt s w imm e = let h = stmt_is s in let a = ap (λ p. p.0) e in let b = ap (λ p. p.1) e in cc

-- flags with one list are the same
flags_from : List Bool → Flags
flags_from (a ∷ b ∷ c ∷ d ∷ e ∷ f ∷ g ∷ h ∷ i ∷ j ∷ k ∷ l ∷ m ∷ n ∷ o ∷ _) = record { dst_fp = a; op0_fp = b; op1_imm = c; op1_fp = d; op1_ap = e; res_add = f; res_mul = g; pc_abs = h; pc_rel = i; pc_jnz = j; ap_add = k; ap_add1 = l; op_call = m; op_ret = n; op_assert = o }
flags_from _ = no_flags

pub same_flags : (a b : Flags) → flag_list a ≡ flag_list b → a ≡ b
unfolding flag_list flags_from
same_flags a b e = ap flags_from e

-- a pair is its two parts
pair_is : (p : Word × Option Felt) (w : Word) (imm : Option Felt) → p.0 ≡ w → p.1 ≡ imm → p ≡ (w, imm)
pair_is p w imm e f = subst (λ (x : Word). p ≡ (x, imm)) e (subst (λ (y : Option Felt). p ≡ (p.0, y)) f refl)

-- where the statement that is read off is written so, it is the only one that is
pub written : (s : Stmt) (w : Word) (imm : Option Felt) (g : Stmt) (p : Word × Option Felt) → g ≡ stmt_in w imm → p ≡ encoding g → p.0 ≡ w → p.1 ≡ imm → (Some g ≡ Some s → encoding s ≡ (w, imm)) × (encoding s ≡ (w, imm) → Some g ≡ Some s)
written s w imm g p is_guess is_written same_word same_imm =
    let q = pair_is p w imm same_word same_imm in
    (λ e. let h : g ≡ s = cc in cc, λ e. let h = only_stmt s w imm e in cc)

-- where it isn't, none is
pub unwritten : (s : Stmt) (w : Word) (imm : Option Felt) (g : Stmt) (p : Word × Option Felt) → g ≡ stmt_in w imm → p ≡ encoding g → (p.0 ≡ w → p.1 ≡ imm → ⊥) → (◌≡◌ {A = Option Stmt} None (Some s) → encoding s ≡ (w, imm)) × (encoding s ≡ (w, imm) → ◌≡◌ {A = Option Stmt} None (Some s))
unwritten s w imm g p is_guess is_written differs =
    (λ e. cc, λ e. let h = only_stmt s w imm e in let q : p ≡ (w, imm) = cc in absurd (differs (ap (λ x. x.0) q) (ap (λ x. x.1) q)))
