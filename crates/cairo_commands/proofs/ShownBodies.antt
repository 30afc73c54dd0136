-- What words are shown as keeps the bounds of items.
use Rattle.std.proofs.Common.{◌≡◌, ℕ, ◌+◌, ◌<◌, ◌^◌, w16, ℤ, pos, negsuc, Bool, true, false, not, ◌||◌, List, [], ◌∷◌, ◌++◌, refl, sym, subst, arith}
use Rattle.std.specs.Bool.{if◌then◌else◌}
use Rattle.std.specs.Prelude.{All, FitsSigned}
use Rattle.std.proofs.lemmas.List.Elements.{All-cons, All-nil}
use Rattle.goldilocks.specs.declared.Felt.{Felt}
use Rattle.casm_word.specs.declared.Word.{Word}
use Rattle.casm_statements.specs.declared.Term.{Term}
use Rattle.casm_statements.specs.declared.Term.TheVariants as term
use Rattle.casm_statements.specs.declared.Operand.{Operand}
use Rattle.casm_statements.specs.declared.Operand.TheVariants as operand
use Rattle.casm_statements.specs.declared.Stmt.{Stmt}
use Rattle.casm_statements.specs.declared.Stmt.TheVariants.{Assert, Jump, Branch, Call, Ret, AddAp}
use Rattle.casm_statements.specs.declared.Target.TheVariants.{Number}
use Rattle.casm_statements.specs.declared.Body.{Body}
use Rattle.casm_statements.specs.declared.Body.TheVariants as body
use Rattle.casm_statements.specs.declared.Item.{Item}
use Rattle.casm_statements.specs.Words.{no_flags, unused, with_dst, with_op0, with_term, with_operand, encoding}
use Rattle.casm_text.specs.Bounds.{IsOffset, IsTerm, IsOperand, IsStmt, IsBody}
use Rattle.casm_text.specs.Meaning.{item_on}
use Rattle.assembler.specs.StatementWords.{HasOffsets}
use Rattle.assembler.specs.Shown.{Shown}
use Rattle.assembler.specs.Disassembly.{on_lines, Disassembles}

is_offset : (z : ℤ) → FitsSigned w16 z → IsOffset z
is_offset (pos n) h = let low = h.sfits in omega arith
is_offset (negsuc n) h = let low = h.sfits in omega arith

is_term : (w : Word) (t : Term) → FitsSigned w16 (with_term w t).0.off_op1 → IsTerm t
is_term w (term.Cell c) h = is_offset c.off h
is_term w (term.Imm v) h = tt

-- a term leaves the other offsets of its word as they were
term_op0 : (w : Word) (t : Term) → (with_term w t).0.off_op0 ≡ w.off_op0
term_op0 w (term.Cell c) = refl
term_op0 w (term.Imm v) = refl

term_dst : (w : Word) (t : Term) → (with_term w t).0.off_dst ≡ w.off_dst
term_dst w (term.Cell c) = refl
term_dst w (term.Imm v) = refl

-- and so does an operand leave dst
operand_dst : (w : Word) (o : Operand) → (with_operand w o).0.off_dst ≡ w.off_dst
operand_dst w (operand.Deref c) = refl
operand_dst w (operand.Double c o) = refl
operand_dst w (operand.Imm v) = refl
operand_dst w (operand.Sum c t) = term_dst (record (with_op0 w c) { flags = record (with_op0 w c).flags { res_add = true } }) t
operand_dst w (operand.Product c t) = term_dst (record (with_op0 w c) { flags = record (with_op0 w c).flags { res_mul = true } }) t

is_operand : (w : Word) (o : Operand) → FitsSigned w16 (with_operand w o).0.off_op0 → FitsSigned w16 (with_operand w o).0.off_op1 → IsOperand o
is_operand w (operand.Deref c) a b = is_offset c.off b
is_operand w (operand.Double c o) a b = (is_offset c.off a, is_offset o b)
is_operand w (operand.Imm v) a b = tt
is_operand w (operand.Sum c t) a b =
    let u : Word = record (with_op0 w c) { flags = record (with_op0 w c).flags { res_add = true } } in
    (is_offset c.off (subst (λ (z : ℤ). FitsSigned w16 z) (term_op0 u t) a), is_term u t b)
is_operand w (operand.Product c t) a b =
    let u : Word = record (with_op0 w c) { flags = record (with_op0 w c).flags { res_mul = true } } in
    (is_offset c.off (subst (λ (z : ℤ). FitsSigned w16 z) (term_op0 u t) a), is_term u t b)

is_stmt : (s : Stmt) → HasOffsets s → IsStmt s
unfolding encoding
is_stmt (Assert dst res inc) h =
    let w = with_dst (record unused { flags = record unused.flags { op_assert = true; ap_add1 = inc } }) dst in
    (is_offset dst.off (subst (λ (z : ℤ). FitsSigned w16 z) (operand_dst w res) h.dst), is_operand w res h.op0 h.op1)
is_stmt (Jump abs res inc) h =
    is_operand (record unused { flags = record unused.flags { pc_abs = abs; pc_rel = not abs; ap_add1 = inc } }) res h.op0 h.op1
is_stmt (Branch cond to inc) h =
    let w = with_dst (record unused { flags = record unused.flags { pc_jnz = true; ap_add1 = inc } }) cond in
    (is_offset cond.off (subst (λ (z : ℤ). FitsSigned w16 z) (term_dst w to) h.dst), is_term w to h.op1)
is_stmt (Call abs to) h =
    is_term (record { off_dst = pos 0; off_op0 = pos 1; off_op1 = pos 0; flags = record no_flags { pc_abs = abs; pc_rel = not abs; op_call = true } }) to h.op1
is_stmt Ret h = tt
is_stmt (AddAp res) h =
    is_operand (record unused { flags = record unused.flags { ap_add = true } }) res h.op0 h.op1

-- items that keep their bounds
abbrev AreBodies : List Item → Type 0
AreBodies items = All (λ i. IsBody i.body) items

one_more : (n : ℕ) (b : Body) (items : List Item) → IsBody b → AreBodies items → AreBodies (item_on n b ∷ items)
one_more n b items h hs = All-cons (λ i. IsBody i.body) (item_on n b) items h hs

shown_bodies : (words : List Felt) (n : ℕ) (bs : List Body) → Shown words bs → AreBodies (on_lines n bs)
shown_bodies words n [] h = All-nil (λ (i : Item). IsBody i.body)
shown_bodies words n (body.Stmt s ∷ bs) h = one_more n (body.Stmt s) (on_lines (n + 1) bs) (is_stmt s h.1.offsets) (shown_bodies h.0 (n + 1) bs h.2)
shown_bodies words n (body.Dw v ∷ bs) h = one_more n (body.Dw v) (on_lines (n + 1) bs) tt (shown_bodies h.0 (n + 1) bs h.3)
shown_bodies words n (body.Builtins o r ∷ bs) h = absurd h
shown_bodies words n (body.Start t ∷ bs) h = absurd h
shown_bodies words n (body.End t ∷ bs) h = absurd h
shown_bodies words n (body.Label m ∷ bs) h = absurd h
shown_bodies words n (body.JumpTo m inc ∷ bs) h = absurd h
shown_bodies words n (body.BranchTo c m inc ∷ bs) h = absurd h
shown_bodies words n (body.CallTo m ∷ bs) h = absurd h

placed_bodies : (words : List Felt) (n s e : ℕ) (bs : List Body) → s < 2 ^ 32 → e < 2 ^ 32 → Shown words bs → AreBodies (on_lines n (body.Start (Number s) ∷ body.End (Number e) ∷ bs))
placed_bodies words n s e bs p q h =
    one_more n (body.Start (Number s)) (on_lines (n + 1) (body.End (Number e) ∷ bs)) p
    (one_more (n + 1) (body.End (Number e)) (on_lines (n + 1 + 1) bs) q (shown_bodies words (n + 1 + 1) bs h))

-- what a program is disassembled into keeps the bounds of items
pub disassembled_bodies : (words : List Felt) (s e : ℕ) (o r : Bool) (items : List Item) → s < 2 ^ 32 → e < 2 ^ 32 → Disassembles words s e o r items → All (λ i. IsBody i.body) items
disassembled_bodies words s e o r items p q d = subst AreBodies (sym d.lines_are) (by (o || r))
  where
    by : (b : Bool) → AreBodies (on_lines 1 ((if b then body.Builtins o r ∷ [] else []) ++ body.Start (Number s) ∷ body.End (Number e) ∷ [] ++ d.statements))
    by true =
        one_more 1 (body.Builtins o r) (on_lines (1 + 1) (body.Start (Number s) ∷ body.End (Number e) ∷ d.statements)) tt
        (placed_bodies words (1 + 1) s e d.statements p q d.shown)
    by false = placed_bodies words 1 s e d.statements p q d.shown
