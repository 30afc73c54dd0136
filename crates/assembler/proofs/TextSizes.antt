-- The text of what words are shown as has at most 62 bytes a word.
use Rattle.std.proofs.Common.{◌≡◌, ℕ, zero, suc, ◌+◌, ◌-◌, ◌*◌, ◌/◌, ◌%◌, ◌^◌, ◌<◌, ◌≤◌, nat_le, w16, ℤ, pos, negsuc, Bool, true, false, cond, not, ◌||◌, List, [], ◌∷◌, ◌++◌, length, codes, refl, sym, ap, subst, arith, inl, inr}
use Rattle.std.specs.Bool.{if◌then◌else◌}
use Rattle.std.specs.Prelude.{FitsSigned}
use Rattle.std.specs.Fmt.{decimal, digits, digits_onto, digit_glyph}
use Rattle.std.proofs.Math.Nat.{pow-suc}
use Rattle.std.proofs.lemmas.Bool.{cases_eq, cases_Bool, eq-eqb, ne_eqb, leb-true, leb-false}
use Rattle.std.proofs.lemmas.Fmt.{length-decimal-le}
use Rattle.std.proofs.lemmas.List.{length-append}
use Rattle.goldilocks.specs.Field.{prime}
use Rattle.goldilocks.specs.declared.Felt.{Felt}
use Rattle.casm_word.specs.declared.Word.{Word}
use Rattle.casm_word.specs.Length.{program_word_limit}
use Rattle.casm_statements.specs.declared.Reg.{Reg}
use Rattle.casm_statements.specs.declared.Reg.TheVariants as reg_is
use Rattle.casm_statements.specs.declared.Cell.{Cell}
use Rattle.casm_statements.specs.declared.Term.{Term}
use Rattle.casm_statements.specs.declared.Term.TheVariants as term
use Rattle.casm_statements.specs.declared.Operand.{Operand}
use Rattle.casm_statements.specs.declared.Operand.TheVariants as operand
use Rattle.casm_statements.specs.declared.Stmt.{Stmt}
use Rattle.casm_statements.specs.declared.Stmt.TheVariants.{Assert, Jump, Branch, Call, Ret, AddAp}
use Rattle.casm_statements.specs.declared.Target.TheVariants.{Number}
use Rattle.casm_statements.specs.declared.Body.{Body}
use Rattle.casm_statements.specs.declared.Body.TheVariants as body
use Rattle.casm_statements.specs.declared.Item.{Item}
use Rattle.casm_statements.specs.Words.{no_flags, unused, with_dst, with_op0, with_term, with_operand, encoding}
use Rattle.casm_tokens.specs.Limits.{text_limit}
use Rattle.casm_text.specs.Canonical.{reg_text, offset_text, cell_text, half, number_text, term_text, operand_text, inc_text, way_text, stmt_text, body_text, printed}
use Rattle.assembler.specs.StatementWords.{HasOffsets}
use Rattle.assembler.specs.Shown.{Shown}
use Rattle.assembler.specs.Disassembly.{on_lines, Disassembles}
use Rattle.assembler.proofs.ShownLemmas.{left_shorter}

-- two texts one after another
text_le : (xs ys : List ℕ) (m n : ℕ) → length xs ≤ m → length ys ≤ n → length (xs ++ ys) ≤ m + n
text_le xs ys m n a b = omega (arith, length-append xs ys)

-- hexadecimal digits
onto_le : (k j n : ℕ) (acc : List ℕ) → 0 < j → j ≤ k → n < 16 ^ j → length (digits_onto k 16 false n acc) ≤ j + length acc
onto_le zero j n acc p q h = absurd (omega arith)
onto_le (suc k) zero n acc p q h = absurd (omega arith)
onto_le (suc k) (suc j) n acc p q h =
    let g = digit_glyph false (n % 16) in
    let power = pow-suc 16 j in
    elim (cases_eq (n / 16) 0) [
      | inl e ↦
          let t = ap (λ (b : Bool). cond b (g ∷ acc) (digits_onto k 16 false (n / 16) (g ∷ acc))) (eq-eqb (n / 16) 0 e) in
          subst (λ (ds : List ℕ). length ds ≤ suc j + length acc) (sym t) (omega arith)
      | inr ne ↦
          let t = ap (λ (b : Bool). cond b (g ∷ acc) (digits_onto k 16 false (n / 16) (g ∷ acc))) (ne_eqb (n / 16) 0 ne) in
          let below : n / 16 < 16 ^ j = omega arith in
          let more : 0 < j = some_left j n ne h in
          let rest = onto_le k j (n / 16) (g ∷ acc) more (omega arith) below in
          subst (λ (ds : List ℕ). length ds ≤ suc j + length acc) (sym t) (omega arith)
    ]
  where
    some_left : (j n : ℕ) → (n / 16 ≡ 0 → ⊥) → n < 16 ^ suc j → 0 < j
    some_left zero n ne h = absurd (ne (omega arith))
    some_left (suc j) n ne h = omega arith

hex_le : (v : Felt) → length (digits 16 false v.number) ≤ 16
unfolding digits
hex_le v =
    let low = v.in_field in
    let e : 16 ^ 16 ≡ 18446744073709551616 = refl in
    onto_le 64 16 v.number [] (omega arith) (omega arith) (omega arith)

-- the parts of statements
reg_le : (r : Reg) → length (reg_text r) ≤ 2
reg_le reg_is.Ap = omega arith
reg_le reg_is.Fp = omega arith

offset_le : (z : ℤ) → FitsSigned w16 z → length (offset_text z) ≤ 8
offset_le (pos zero) h = omega arith
offset_le (pos (suc n)) h =
    let low = h.sfits in
    text_le (codes " + ") (decimal (suc n)) 3 5 (omega arith) (length-decimal-le 5 (suc n) (omega arith) (omega arith) (omega arith))
offset_le (negsuc n) h =
    let low = h.sfits in
    text_le (codes " - ") (decimal (suc n)) 3 5 (omega arith) (length-decimal-le 5 (suc n) (omega arith) (omega arith) (omega arith))

cell_le : (c : Cell) → FitsSigned w16 c.off → length (cell_text c) ≤ 12
cell_le c h =
    text_le (codes "[" ++ reg_text c.reg ++ offset_text c.off) (codes "]") 11 1
    (text_le (codes "[" ++ reg_text c.reg) (offset_text c.off) 3 8 (text_le (codes "[") (reg_text c.reg) 1 2 (omega arith) (reg_le c.reg)) (offset_le c.off h)) (omega arith)

number_le : (v : Felt) → length (number_text v) ≤ 20
number_le v = elim (cases_Bool (nat_le v.number half)) [
  | inl e ↦
      let low = leb-true v.number half e in
      let is = ap (λ (b : Bool). if b then decimal v.number else (codes "-" ++ decimal (prime - v.number))) e in
      let short = length-decimal-le 19 v.number (omega arith) (omega arith) (omega arith) in
      subst (λ (ds : List ℕ). length ds ≤ 20) (sym is) (omega arith)
  | inr e ↦
      let high = leb-false v.number half e in
      let is = ap (λ (b : Bool). if b then decimal v.number else (codes "-" ++ decimal (prime - v.number))) e in
      subst (λ (ds : List ℕ). length ds ≤ 20) (sym is)
      (text_le (codes "-") (decimal (prime - v.number)) 1 19 (omega arith) (length-decimal-le 19 (prime - v.number) (omega arith) (omega arith) (omega arith)))
]

inc_le : (b : Bool) → length (inc_text b) ≤ 6
inc_le true = omega arith
inc_le false = omega arith

way_le : (b : Bool) → length (way_text b) ≤ 4
way_le true = omega arith
way_le false = omega arith

term_le : (w : Word) (t : Term) → FitsSigned w16 (with_term w t).0.off_op1 → length (term_text t) ≤ 20
term_le w (term.Cell c) h = let k = cell_le c h in omega arith
term_le w (term.Imm v) h = number_le v

term_op0 : (w : Word) (t : Term) → (with_term w t).0.off_op0 ≡ w.off_op0
term_op0 w (term.Cell c) = refl
term_op0 w (term.Imm v) = refl

term_dst : (w : Word) (t : Term) → (with_term w t).0.off_dst ≡ w.off_dst
term_dst w (term.Cell c) = refl
term_dst w (term.Imm v) = refl

operand_dst : (w : Word) (o : Operand) → (with_operand w o).0.off_dst ≡ w.off_dst
operand_dst w (operand.Deref c) = refl
operand_dst w (operand.Double c o) = refl
operand_dst w (operand.Imm v) = refl
operand_dst w (operand.Sum c t) = term_dst (record (with_op0 w c) { flags = record (with_op0 w c).flags { res_add = true } }) t
operand_dst w (operand.Product c t) = term_dst (record (with_op0 w c) { flags = record (with_op0 w c).flags { res_mul = true } }) t

pair_le : (c : Cell) (sign : List ℕ) (t : Term) → length sign ≤ 3 → FitsSigned w16 c.off → length (term_text t) ≤ 20 → length (cell_text c ++ sign ++ term_text t) ≤ 35
pair_le c sign t s h k = text_le (cell_text c ++ sign) (term_text t) 15 20 (text_le (cell_text c) sign 12 3 (cell_le c h) s) k

operand_le : (w : Word) (o : Operand) → FitsSigned w16 (with_operand w o).0.off_op0 → FitsSigned w16 (with_operand w o).0.off_op1 → length (operand_text o) ≤ 35
operand_le w (operand.Deref c) a b = let k = cell_le c b in omega arith
operand_le w (operand.Double c o) a b =
    let k = text_le (codes "[" ++ cell_text c ++ offset_text o) (codes "]") 21 1 (text_le (codes "[" ++ cell_text c) (offset_text o) 13 8 (text_le (codes "[") (cell_text c) 1 12 (omega arith) (cell_le c a)) (offset_le o b)) (omega arith) in
    omega arith
operand_le w (operand.Imm v) a b = let k = number_le v in omega arith
operand_le w (operand.Sum c t) a b =
    let u : Word = record (with_op0 w c) { flags = record (with_op0 w c).flags { res_add = true } } in
    pair_le c (codes " + ") t (omega arith) (subst (λ (z : ℤ). FitsSigned w16 z) (term_op0 u t) a) (term_le u t b)
operand_le w (operand.Product c t) a b =
    let u : Word = record (with_op0 w c) { flags = record (with_op0 w c).flags { res_mul = true } } in
    pair_le c (codes " * ") t (omega arith) (subst (λ (z : ℤ). FitsSigned w16 z) (term_op0 u t) a) (term_le u t b)

stmt_le : (s : Stmt) → HasOffsets s → length (stmt_text s) ≤ 61
unfolding encoding
stmt_le (Assert dst res inc) h =
    let w = with_dst (record unused { flags = record unused.flags { op_assert = true; ap_add1 = inc } }) dst in
    let cell = cell_le dst (subst (λ (z : ℤ). FitsSigned w16 z) (operand_dst w res) h.dst) in
    let value = operand_le w res h.op0 h.op1 in
    let k = text_le (cell_text dst ++ codes " = " ++ operand_text res) (inc_text inc) 50 6 (text_le (cell_text dst ++ codes " = ") (operand_text res) 15 35 (text_le (cell_text dst) (codes " = ") 12 3 cell (omega arith)) value) (inc_le inc) in
    omega arith
stmt_le (Jump abs res inc) h =
    let w : Word = record unused { flags = record unused.flags { pc_abs = abs; pc_rel = not abs; ap_add1 = inc } } in
    let value = operand_le w res h.op0 h.op1 in
    let k = text_le (codes "jmp " ++ way_text abs ++ operand_text res) (inc_text inc) 43 6 (text_le (codes "jmp " ++ way_text abs) (operand_text res) 8 35 (text_le (codes "jmp ") (way_text abs) 4 4 (omega arith) (way_le abs)) value) (inc_le inc) in
    omega arith
stmt_le (Branch cond to inc) h =
    let w = with_dst (record unused { flags = record unused.flags { pc_jnz = true; ap_add1 = inc } }) cond in
    let cell = cell_le cond (subst (λ (z : ℤ). FitsSigned w16 z) (term_dst w to) h.dst) in
    let value = term_le w to h.op1 in
    let front = text_le (codes "jmp rel " ++ term_text to) (codes " if ") 28 4 (text_le (codes "jmp rel ") (term_text to) 8 20 (omega arith) value) (omega arith) in
    let k = text_le (codes "jmp rel " ++ term_text to ++ codes " if " ++ cell_text cond ++ codes " != 0") (inc_text inc) 49 6 (text_le (codes "jmp rel " ++ term_text to ++ codes " if " ++ cell_text cond) (codes " != 0") 44 5 (text_le (codes "jmp rel " ++ term_text to ++ codes " if ") (cell_text cond) 32 12 front cell) (omega arith)) (inc_le inc) in
    omega arith
stmt_le (Call abs to) h =
    let w : Word = record { off_dst = pos 0; off_op0 = pos 1; off_op1 = pos 0; flags = record no_flags { pc_abs = abs; pc_rel = not abs; op_call = true } } in
    let k = text_le (codes "call " ++ way_text abs) (term_text to) 9 20 (text_le (codes "call ") (way_text abs) 5 4 (omega arith) (way_le abs)) (term_le w to h.op1) in
    omega arith
stmt_le Ret h = omega arith
stmt_le (AddAp res) h =
    let w : Word = record unused { flags = record unused.flags { ap_add = true } } in
    let k = text_le (codes "ap += ") (operand_text res) 6 35 (omega arith) (operand_le w res h.op0 h.op1) in
    omega arith

-- one item more
line_le : (n : ℕ) (b : Body) (bs : List Body) (k m : ℕ) → length (body_text b) ≤ k → length (printed (on_lines (n + 1) bs)) ≤ m → length (printed (on_lines n (b ∷ bs))) ≤ k + (m + 1)
unfolding printed
line_le n b bs k m h rest = text_le (body_text b) (10 ∷ printed (on_lines (n + 1) bs)) k (m + 1) h (omega arith)

shown_le : (words : List Felt) (n : ℕ) (bs : List Body) → Shown words bs → length (printed (on_lines n bs)) ≤ 62 * length words
unfolding printed
shown_le words n [] h = omega arith
shown_le words n (body.Stmt s ∷ bs) h =
    let short = left_shorter words s h.0 h.1 in
    let k = line_le n (body.Stmt s) bs 61 (62 * length h.0) (stmt_le s h.1.offsets) (shown_le h.0 (n + 1) bs h.2) in
    omega arith
shown_le words n (body.Dw v ∷ bs) h =
    let e = ap length h.1 in
    let own = text_le (codes "dw ") (codes "0x" ++ digits 16 false v.number) 3 18 (omega arith) (text_le (codes "0x") (digits 16 false v.number) 2 16 (omega arith) (hex_le v)) in
    let k = line_le n (body.Dw v) bs 21 (62 * length h.0) own (shown_le h.0 (n + 1) bs h.3) in
    omega arith
shown_le words n (body.Builtins o r ∷ bs) h = absurd h
shown_le words n (body.Start t ∷ bs) h = absurd h
shown_le words n (body.End t ∷ bs) h = absurd h
shown_le words n (body.Label m ∷ bs) h = absurd h
shown_le words n (body.JumpTo m inc ∷ bs) h = absurd h
shown_le words n (body.BranchTo c m inc ∷ bs) h = absurd h
shown_le words n (body.CallTo m ∷ bs) h = absurd h

builtins_le : (o r : Bool) → length (body_text (body.Builtins o r)) ≤ 28
builtins_le true true = omega arith
builtins_le true false = omega arith
builtins_le false true = omega arith
builtins_le false false = omega arith

start_le : (s : ℕ) → s < 2 ^ 32 → length (body_text (body.Start (Number s))) ≤ 17
start_le s h = text_le (codes "%start ") (decimal s) 7 10 (omega arith) (length-decimal-le 10 s (omega arith) (omega arith) (omega arith))

end_le : (e : ℕ) → e < 2 ^ 32 → length (body_text (body.End (Number e))) ≤ 15
end_le e h = text_le (codes "%end ") (decimal e) 5 10 (omega arith) (length-decimal-le 10 e (omega arith) (omega arith) (omega arith))

places_le : (words : List Felt) (n s e : ℕ) (bs : List Body) → s < 2 ^ 32 → e < 2 ^ 32 → Shown words bs → length (printed (on_lines n (body.Start (Number s) ∷ body.End (Number e) ∷ bs))) ≤ 62 * length words + 34
places_le words n s e bs p q h =
    let behind = line_le (n + 1) (body.End (Number e)) bs 15 (62 * length words) (end_le e q) (shown_le words (n + 1 + 1) bs h) in
    let k = line_le n (body.Start (Number s)) (body.End (Number e) ∷ bs) 17 (15 + (62 * length words + 1)) (start_le s p) behind in
    omega arith

-- the text of a program that is disassembled can be read again
pub text_fits : (words : List Felt) (s e : ℕ) (o r : Bool) (items : List Item) → length words ≤ program_word_limit → s < 2 ^ 32 → e < 2 ^ 32 → Disassembles words s e o r items → length (printed items) ≤ text_limit
text_fits words s e o r items most p q d = subst (λ (is : List Item). length (printed is) ≤ text_limit) (sym d.lines_are) (by (o || r))
  where
    by : (b : Bool) → length (printed (on_lines 1 ((if b then body.Builtins o r ∷ [] else []) ++ body.Start (Number s) ∷ body.End (Number e) ∷ [] ++ d.statements))) ≤ text_limit
    by true =
        let k = line_le 1 (body.Builtins o r) (body.Start (Number s) ∷ body.End (Number e) ∷ d.statements) 28 (62 * length words + 34) (builtins_le o r) (places_le words (1 + 1) s e d.statements p q d.shown) in
        omega arith
    by false = let k = places_le words 1 s e d.statements p q d.shown in omega arith
