-- The function that shows words gives the bodies that the relation has.
use Rattle.std.proofs.Common.{◌≡◌, ℕ, zero, suc, ◌≤◌, ◌||◌, Bool, true, false, not, List, [], ◌∷◌, ◌++◌, length, drop, Option, Some, None, is_some, refl, sym, ◌∙◌, ap, subst, arith, ℤ, pos, negsuc, w16, Decides, eq-eqb, eqb-true}
use Rattle.std.specs.Prelude.{FitsSigned}
use Rattle.std.specs.Bool.{if◌then◌else◌, then_some}
use Rattle.std.specs.List.{starts_with}
use Rattle.std.specs.Option.{option_to_list}
use Rattle.std.proofs.lemmas.Slice.Eq.{starts_is}
use Rattle.goldilocks.specs.declared.Felt.{Felt}
use Rattle.goldilocks.proofs.Pairs.{same_felt}
use Rattle.casm_word.specs.declared.Word.{Word}
use Rattle.casm_word.specs.Word.{word_of}
use Rattle.casm_statements.specs.declared.Cell.{Cell}
use Rattle.casm_statements.specs.declared.Term.{Term}
use Rattle.casm_statements.specs.declared.Term.TheVariants as term
use Rattle.casm_statements.specs.declared.Operand.{Operand}
use Rattle.casm_statements.specs.declared.Operand.TheVariants as operand
use Rattle.casm_statements.specs.declared.Stmt.{Stmt}
use Rattle.casm_statements.specs.declared.Stmt.TheVariants.{Assert, Jump, Branch, Call, Ret, AddAp}
use Rattle.casm_statements.specs.declared.Body.{Body}
use Rattle.casm_statements.specs.Words.{no_flags, unused, with_dst, with_op0, with_term, with_operand, encoding}
use Rattle.casm_statements.specs.Guesses.{term_in, plain_in, operand_in, stmt_in}
use Rattle.casm_statements.proofs.Guesses.{stmt_is}
use Rattle.assembler.specs.StatementWords.{statement_words, HasOffsets, BeginsWith, BeginsWithNone}
use Rattle.assembler.specs.Shown.{Shown}
use Rattle.assembler.specs.ShownBodies.{same_number, immediate_in, guessed, first_statement, first_body, takes_immediate, shown_from, shown_bodies}
use Rattle.assembler.proofs.DefinedWords.{has_immediate}
use Rattle.assembler.proofs.Begins.{begins_decodes, decoded-word, offset-fits}
use Rattle.assembler.proofs.ShownLemmas.{left_shorter}

-- ---- the offsets of a statement that is read off a word

-- the offsets of a word fit
record Fits (w : Word) : Type 0 where
  dst : FitsSigned w16 w.off_dst
  op0 : FitsSigned w16 w.off_op0
  op1 : FitsSigned w16 w.off_op1

term_fits : Term → Type 0
term_fits (term.Cell c) = FitsSigned w16 c.off
term_fits (term.Imm v) = Unit {0}

operand_fits : Operand → Type 0
operand_fits (operand.Deref c) = FitsSigned w16 c.off
operand_fits (operand.Double c o) = FitsSigned w16 c.off × FitsSigned w16 o
operand_fits (operand.Imm v) = Unit {0}
operand_fits (operand.Sum c t) = FitsSigned w16 c.off × term_fits t
operand_fits (operand.Product c t) = FitsSigned w16 c.off × term_fits t

one_fits : FitsSigned w16 (pos 1)
one_fits = record { sfits = omega arith }

zero_fits : FitsSigned w16 (pos 0)
zero_fits = record { sfits = omega arith }

minus_one_fits : FitsSigned w16 (negsuc 0)
minus_one_fits = record { sfits = omega arith }

minus_two_fits : FitsSigned w16 (negsuc 1)
minus_two_fits = record { sfits = omega arith }

unused_fits : (w : Word) → w.off_dst ≡ negsuc 0 → w.off_op0 ≡ negsuc 0 → w.off_op1 ≡ pos 0 → Fits w
unused_fits w a b c = record {
  dst = subst (λ (z : ℤ). FitsSigned w16 z) (sym a) minus_one_fits;
  op0 = subst (λ (z : ℤ). FitsSigned w16 z) (sym b) minus_one_fits;
  op1 = subst (λ (z : ℤ). FitsSigned w16 z) (sym c) zero_fits;
}

with_term-fits : (w : Word) (t : Term) → Fits w → term_fits t → Fits (with_term w t).0
unfolding term_fits
with_term-fits w (term.Cell c) f h = record { dst = f.dst; op0 = f.op0; op1 = h }
with_term-fits w (term.Imm v) f h = record { dst = f.dst; op0 = f.op0; op1 = one_fits }

with_operand-fits : (w : Word) (o : Operand) → Fits w → operand_fits o → Fits (with_operand w o).0
unfolding operand_fits
with_operand-fits w (operand.Deref c) f h = record { dst = f.dst; op0 = f.op0; op1 = h }
with_operand-fits w (operand.Double c o) f h = record { dst = f.dst; op0 = h.0; op1 = h.1 }
with_operand-fits w (operand.Imm v) f h = record { dst = f.dst; op0 = f.op0; op1 = one_fits }
with_operand-fits w (operand.Sum c t) f h =
    with_term-fits (record (with_op0 w c) { flags = record (with_op0 w c).flags { res_add = true } }) t (record { dst = f.dst; op0 = h.0; op1 = f.op1 }) h.1
with_operand-fits w (operand.Product c t) f h =
    with_term-fits (record (with_op0 w c) { flags = record (with_op0 w c).flags { res_mul = true } }) t (record { dst = f.dst; op0 = h.0; op1 = f.op1 }) h.1

offsets_of : (s : Stmt) → Fits (encoding s).0 → HasOffsets s
offsets_of s f = record { dst = f.dst; op0 = f.op0; op1 = f.op1 }

has_dst : (w : Word) (c : Cell) → Fits w → FitsSigned w16 c.off → Fits (with_dst w c)
has_dst w c f h = record { dst = h; op0 = f.op0; op1 = f.op1 }

assert_fits : (c : Cell) (o : Operand) (inc : Bool) → FitsSigned w16 c.off → operand_fits o → HasOffsets (Assert c o inc)
unfolding encoding
assert_fits c o inc h k =
    let w : Word = record unused { flags = record unused.flags { op_assert = true; ap_add1 = inc } } in
    offsets_of (Assert c o inc) (with_operand-fits (with_dst w c) o (has_dst w c (unused_fits w refl refl refl) h) k)

jump_fits : (abs : Bool) (o : Operand) (inc : Bool) → operand_fits o → HasOffsets (Jump abs o inc)
unfolding encoding
jump_fits abs o inc k =
    let w : Word = record unused { flags = record unused.flags { pc_abs = abs; pc_rel = not abs; ap_add1 = inc } } in
    offsets_of (Jump abs o inc) (with_operand-fits w o (unused_fits w refl refl refl) k)

branch_fits : (c : Cell) (t : Term) (inc : Bool) → FitsSigned w16 c.off → term_fits t → HasOffsets (Branch c t inc)
unfolding encoding
branch_fits c t inc h k =
    let w : Word = record unused { flags = record unused.flags { pc_jnz = true; ap_add1 = inc } } in
    offsets_of (Branch c t inc) (with_term-fits (with_dst w c) t (has_dst w c (unused_fits w refl refl refl) h) k)

call_fits : (abs : Bool) (t : Term) → term_fits t → HasOffsets (Call abs t)
unfolding encoding
call_fits abs t k =
    let w : Word = record { off_dst = pos 0; off_op0 = pos 1; off_op1 = pos 0; flags = record no_flags { pc_abs = abs; pc_rel = not abs; op_call = true } } in
    offsets_of (Call abs t) (with_term-fits w t (record { dst = zero_fits; op0 = one_fits; op1 = zero_fits }) k)

ret_fits : HasOffsets Ret
unfolding encoding
ret_fits = record { dst = minus_two_fits; op0 = minus_one_fits; op1 = minus_one_fits }

add_ap_fits : (o : Operand) → operand_fits o → HasOffsets (AddAp o)
unfolding encoding
add_ap_fits o k =
    let w : Word = record unused { flags = record unused.flags { ap_add = true } } in
    offsets_of (AddAp o) (with_operand-fits w o (unused_fits w refl refl refl) k)

term_in-fits : (w : Word) (imm : Option Felt) → Fits w → term_fits (term_in w imm)
unfolding term_fits
term_in-fits w None f = f.op1
term_in-fits w (Some v) f = tt

-- a choice keeps what both have
either_fits : (P : Operand → Type 0) (b : Bool) (x y : Operand) → P x → P y → P (if b then x else y)
either_fits P true x y p q = p
either_fits P false x y p q = q

either_stmt : (b : Bool) (x y : Stmt) → HasOffsets x → HasOffsets y → HasOffsets (if b then x else y)
either_stmt true x y p q = p
either_stmt false x y p q = q

plain_in-fits : (w : Word) (imm : Option Felt) → Fits w → operand_fits (plain_in w imm)
unfolding operand_fits
plain_in-fits w None f = either_fits operand_fits (w.flags.op1_fp || w.flags.op1_ap) _ _ f.op1 (f.op0, f.op1)
plain_in-fits w (Some v) f = tt

operand_in-fits : (w : Word) (imm : Option Felt) → Fits w → operand_fits (operand_in w imm)
unfolding operand_fits
operand_in-fits w imm f =
    either_fits operand_fits w.flags.res_add _ _ (f.op0, term_in-fits w imm f)
    (either_fits operand_fits w.flags.res_mul _ _ (f.op0, term_in-fits w imm f) (plain_in-fits w imm f))

stmt_in-fits : (w : Word) (imm : Option Felt) → Fits w → HasOffsets (stmt_in w imm)
unfolding stmt_in
stmt_in-fits w imm f =
    let o = operand_in-fits w imm f in
    let t = term_in-fits w imm f in
    either_stmt w.flags.op_assert _ _ (assert_fits _ _ _ f.dst o)
    (either_stmt w.flags.op_call _ _ (call_fits _ _ t)
    (either_stmt w.flags.op_ret _ _ ret_fits
    (either_stmt w.flags.pc_jnz _ _ (branch_fits _ _ _ f.dst t)
    (either_stmt w.flags.ap_add _ _ (add_ap_fits _ o) (jump_fits _ _ _ o)))))

word_of-fits : (n : ℕ) → Fits (word_of n)
unfolding word_of
word_of-fits n = record { dst = offset-fits n 0; op0 = offset-fits n 16; op1 = offset-fits n 32 }

-- ---- the statement that words begin with

decides_number : (a b : Felt) → Decides (same_number a b) (a ≡ b)
decides_number a b = (λ e. same_felt a b (eqb-true a.number b.number e), λ e. eq-eqb a.number b.number (ap (λ (v : Felt). v.number) e))

immediate_is : (o : Option Felt) (w : Word) (vs others : List Felt) → is_some o ≡ w.flags.op1_imm → vs ≡ option_to_list o ++ others → immediate_in w vs ≡ o
immediate_is None w [] others flag e = refl
immediate_is None w (x ∷ xs) others flag e = ap (λ (b : Bool). then_some b x) (sym flag)
immediate_is (Some y) w [] others flag e = absurd cc
immediate_is (Some y) w (x ∷ xs) others flag e =
    let same : x ≡ y = cc in ap (λ (b : Bool). then_some b x) (sym flag) ∙ ap Some same

-- words that begin with a statement have it as their first
first_statement-is : (v : Felt) (vs : List Felt) (s : Stmt) (others : List Felt) → BeginsWith (v ∷ vs) s others → first_statement (v ∷ vs) ≡ Some s
unfolding first_statement
first_statement-is v vs s others b =
    let d = begins_decodes v vs s others b in
    let word = decoded-word v.number (encoding s).0 d.word in
    let imm : immediate_in (word_of v.number) vs ≡ (encoding s).1 =
    ap (λ (w : Word). immediate_in w vs) word ∙ immediate_is (encoding s).1 (encoding s).0 vs others (has_immediate s) d.rest in
    let same : guessed v vs ≡ s =
    ap (λ (w : Word). stmt_in w (immediate_in (word_of v.number) vs)) word ∙ (ap (stmt_in (encoding s).0) imm ∙ stmt_is s) in
    let begins = (starts_is decides_number (v ∷ vs) (statement_words s) (starts_with same_number (v ∷ vs) (statement_words s)) refl).1 others b.parts in
    ap (λ (t : Stmt). then_some (starts_with same_number (v ∷ vs) (statement_words t)) t) same ∙ ap (λ (b : Bool). then_some b s) begins

-- and a first one is what they begin with
first_statement-begins : (v : Felt) (vs : List Felt) (s : Stmt) → first_statement (v ∷ vs) ≡ Some s → (others : List Felt) × BeginsWith (v ∷ vs) s others
unfolding first_statement
first_statement-begins v vs s e = by (starts_with same_number (v ∷ vs) (statement_words (guessed v vs))) refl e
  where
    by : (t : Bool) → starts_with same_number (v ∷ vs) (statement_words (guessed v vs)) ≡ t → then_some t (guessed v vs) ≡ Some s → (others : List Felt) × BeginsWith (v ∷ vs) s others
    by false begins is = absurd cc
    by true begins is =
        let same : guessed v vs ≡ s = cc in
        let parts = (starts_is decides_number (v ∷ vs) (statement_words (guessed v vs)) true (sym begins)).0 refl in (
          drop (length (statement_words (guessed v vs))) (v ∷ vs),
          subst (λ (t : Stmt). BeginsWith (v ∷ vs) t (drop (length (statement_words (guessed v vs))) (v ∷ vs))) same
              (record { offsets = stmt_in-fits (word_of v.number) (immediate_in (word_of v.number) vs) (word_of-fits v.number); parts = parts }),
        )

-- ---- what words are shown as

behind : (o : Option Felt) (vs others : List Felt) → vs ≡ option_to_list o ++ others → shown_from (is_some o) vs ≡ shown_from false others
unfolding shown_from
behind None vs others e = ap (shown_from false) e
behind (Some x) [] others e = absurd cc
behind (Some x) (y ∷ ys) others e = let rest : ys ≡ others = cc in ap (shown_from false) rest

shown_step : (n : ℕ) (v : Felt) (vs : List Felt) (o : Option Stmt) → first_statement (v ∷ vs) ≡ o → length vs ≤ n → ((ys : List Felt) → length ys ≤ n → Shown ys (shown_from false ys)) → Shown (v ∷ vs) (first_body v o ∷ shown_from (takes_immediate o) vs)
shown_step n v vs None e m more =
    let none : BeginsWithNone (v ∷ vs) = λ s ys b. let h = first_statement-is v vs s ys b in absurd cc in
    (vs, refl, none, more vs m)
shown_step n v vs (Some s) e m more =
    let found = first_statement-begins v vs s e in
    let ys = found.0 in
    let d = begins_decodes v vs s ys found.1 in
    let short = left_shorter (v ∷ vs) s ys found.1 in
    (ys, found.1, subst (λ (bs : List Body). Shown ys bs) (sym (behind (encoding s).1 vs ys d.rest)) (more ys (omega arith)))

shown_within : (n : ℕ) (words : List Felt) → length words ≤ n → Shown words (shown_from false words)
unfolding shown_from
shown_within n [] m = refl
shown_within zero (v ∷ vs) m = absurd (omega arith)
shown_within (suc n) (v ∷ vs) m = shown_step n v vs (first_statement (v ∷ vs)) refl (omega arith) (shown_within n)

-- the function gives what the relation has
pub shown_bodies-shown : (words : List Felt) → Shown words (shown_bodies words)
shown_bodies-shown words = shown_within (length words) words (omega arith)
