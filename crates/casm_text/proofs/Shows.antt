-- What is printed is a line with the meaning that was printed: token by token, and part by part.
use Rattle.std.proofs.Common.{◌≡◌, ℕ, zero, suc, ◌-◌, ◌%◌, ◌<◌, ◌≤◌, ℤ, pos, negsuc, neg_ℤ, Bool, true, false, ◌&&◌, ◌||◌, cond, leb, List, [], ◌∷◌, ◌++◌, length, refl, ap, sym, ◌∙◌, subst, arith, append_assoc, append-nil, inl, inr, Option, Some, None, codes, leb-false, is_none}
use Rattle.std.proofs.Math.Nat.{mod-eq_of_lt}
use Rattle.std.proofs.lemmas.Bool.Decides.{nat_tests}
use Rattle.std.proofs.lemmas.Fmt.{decimal_is_IsNumeral, digits_is_IsNumeral, decimal_digit}
use Rattle.std.specs.List.{list_all}
use Rattle.std.specs.Char.{digit_value, is_ascii_digit}
use Rattle.std.specs.Fmt.{decimal, digits}
use Rattle.std.specs.Str.Parse.{AllDigits}
use Rattle.goldilocks.specs.Field.{prime, field_neg}
use Rattle.goldilocks.specs.Text.{Writes}
use Rattle.goldilocks.specs.declared.Felt.{Felt}
use Rattle.goldilocks.proofs.Texts.{Writes-decimal, Writes-hex}
use Rattle.goldilocks.specs.Felts.{felt}
use Rattle.goldilocks.proofs.Pairs.{felt-number, number-felt}
use Rattle.casm_statements.specs.declared.name.Reserved.{Reserved}
use Rattle.casm_statements.specs.declared.name.Reserved.TheVariants as reserved
use Rattle.casm_statements.specs.declared.Reg.{Reg}
use Rattle.casm_statements.specs.declared.Reg.TheVariants as reg_is
use Rattle.casm_statements.specs.declared.Cell.{Cell}
use Rattle.casm_statements.specs.declared.Term.{Term}
use Rattle.casm_statements.specs.declared.Term.TheVariants as term_is
use Rattle.casm_statements.specs.declared.Operand.{Operand}
use Rattle.casm_statements.specs.declared.Operand.TheVariants.{Deref, Double, Imm, Sum, Product}
use Rattle.casm_statements.specs.declared.Stmt.{Stmt}
use Rattle.casm_statements.specs.declared.Stmt.TheVariants.{Assert, Jump, Branch, Call, Ret, AddAp}
use Rattle.casm_statements.specs.declared.Target.{Target}
use Rattle.casm_statements.specs.declared.Target.TheVariants as target_is
use Rattle.casm_statements.specs.declared.Body.{Body}
use Rattle.casm_statements.specs.declared.Body.TheVariants as body
use Rattle.casm_statements.specs.Label.{is_word, is_word_byte, is_word_head, is_label, reserved_word}
use Rattle.casm_tokens.specs.declared.marks.Symbol.{Symbol}
use Rattle.casm_tokens.specs.declared.marks.Symbol.TheVariants.{Increment, AddTo, NotEqual, Open, Close, Plus, Minus, Times, Equal, Semicolon, Colon, Percent}
use Rattle.casm_tokens.specs.Marks.{Sign, Keyword, Label, Number}
use Rattle.casm_tokens.specs.Pieces.{Cut, piece_at, sign_at, sign_len, sign_piece, run_piece, word_mark}
use Rattle.casm_tokens.specs.Lines.{is_in_line}
use Rattle.casm_tokens.proofs.Numbers.{number_read}
use Rattle.casm_grammar.specs.declared.directive.Directive.{Directive}
use Rattle.casm_grammar.specs.declared.directive.Directive.TheVariants as the
use Rattle.casm_grammar.specs.Directives.{directive_word}
use Rattle.casm_grammar.specs.Language.{Language, ended, sign, word, directive, label, number, up_to, zero as nought}
use Rattle.casm_grammar.specs.Grammar.{negative, reg, offset, cell, double, imm, term, res, end, inc, way, condition, stmt, target, given, setting, said, whole_line}
use Rattle.casm_text.specs.Canonical.{reg_text, offset_text, cell_text, half, number_text, term_text, operand_text, inc_text, way_text, stmt_text, target_text, word_text, body_text}
use Rattle.casm_text.specs.Bounds.{IsOffset, IsTerm, IsOperand, IsStmt, IsTarget, IsBody}
use Rattle.casm_text.proofs.Fits.{Fits, Fits-end, Fits-map, Fits-text, Fits-gap, Fits-cut, Fits-run, ends_run, all_digits-run}

-- a sign and a reserved word
sign_step : (s : Symbol) (l : Language) (v : List Body) (w t : List ℕ) → 0 < length w → piece_at (w ++ t) ≡ Cut (length w) (Sign s) → list_all is_in_line w ≡ true → Fits l v t → Fits (sign s l) v (w ++ t)
sign_step s l v w t p e n h = Fits-cut l (sign s l) v w t (Sign s) p e n (λ ms d. (ms, refl, d)) h

word_step : (r : Reserved) (l : Language) (v : List Body) (w t : List ℕ) → 0 < length w → list_all is_word_byte w ≡ true → run_piece w ≡ Cut (length w) (Keyword r) → ends_run t ≡ true → Fits l v t → Fits (word r l) v (w ++ t)
word_step r l v w t p run cut e h = Fits-run l (word r l) v w t (Keyword r) p run cut e (λ ms d. (ms, refl, d)) h

-- a label
label_word : (n : List ℕ) → is_label n ≡ true → (is_word n ≡ true) × (reserved_word n ≡ None)
unfolding is_label
label_word n h = parts (is_word n) (reserved_word n) h
  where
    parts : (a : Bool) (o : Option Reserved) → (a && is_none o) ≡ true → (a ≡ true) × (o ≡ None)
    parts true None h = (refl, refl)
    parts true (Some r) h = cc
    parts false o h = cc

head_no_digit : (b : ℕ) → is_word_head b ≡ true → is_ascii_digit b ≡ false
head_no_digit b h = grind (arith, nat_tests)

digit_first : (b : ℕ) → digit_value b < 10 → is_ascii_digit b ≡ true
digit_first b h = grind (arith, nat_tests)

-- numbers
run-number : (w : List ℕ) (n : ℕ) → n < prime → Writes w n → 0 < length w → ((b : ℕ) (bs : List ℕ) → w ≡ b ∷ bs → is_ascii_digit b ≡ true) → run_piece w ≡ Cut (length w) (Number (felt n))
unfolding run_piece
run-number [] n h writes p first = absurd (omega arith)
run-number (b ∷ bs) n h writes p first =
    rw (first b bs refl) (number_read (b ∷ bs) (felt n) (subst (λ (x : ℕ). Writes (b ∷ bs) x) (sym (number-felt n h)) writes))

cut-decimal : (n : ℕ) → n < prime → run_piece (decimal n) ≡ Cut (length (decimal n)) (Number (felt n))
cut-decimal n h =
    let d = decimal_is_IsNumeral n (omega arith) in
    run-number (decimal n) n h (Writes-decimal n h) d.0.0 (λ b bs e. digit_first b (first_of b bs (subst (λ (x : List ℕ). AllDigits 10 x) e d.0.1)))
  where
    first_of : (b : ℕ) (bs : List ℕ) → AllDigits 10 (b ∷ bs) → digit_value b < 10
    first_of b bs h = h.0

number_step : (n : ℕ) (f : Felt → Language) (v : List Body) (t : List ℕ) → n < prime → ends_run t ≡ true → Fits (f (felt n)) v t → Fits (number f) v (decimal n ++ t)
number_step n f v t h e k =
    let d = decimal_is_IsNumeral n (omega arith) in
    Fits-run (f (felt n)) (number f) v (decimal n) t (Number (felt n)) d.0.0 (all_digits-run 10 (decimal n) (omega arith) d.0.1) (cut-decimal n h) e (λ ms x. (felt n, ms, refl, x)) k

up_to_step : (n most : ℕ) (f : Felt → Language) (v : List Body) (t : List ℕ) → n < prime → n ≤ most → ends_run t ≡ true → Fits (f (felt n)) v t → Fits (up_to most f) v (decimal n ++ t)
up_to_step n most f v t h low e k =
    let d = decimal_is_IsNumeral n (omega arith) in
    let w : (felt n).number ≤ most = let x = number-felt n h in omega arith in
    Fits-run (f (felt n)) (up_to most f) v (decimal n) t (Number (felt n)) d.0.0 (all_digits-run 10 (decimal n) (omega arith) d.0.1) (cut-decimal n h) e (λ ms x. (felt n, ms, refl, w, x)) k

nought_step : (l : Language) (v : List Body) (t : List ℕ) → ends_run t ≡ true → Fits l v t → Fits (nought l) v (48 ∷ t)
nought_step l v t e k =
    let d = decimal_is_IsNumeral 0 (omega arith) in
    Fits-text (nought l) v (decimal 0 ++ t) (48 ∷ t) (ap (λ x. x ++ t) (decimal_digit 0 (omega arith)))
    (Fits-run l (nought l) v (decimal 0) t (Number (felt 0)) d.0.0 (all_digits-run 10 (decimal 0) (omega arith) d.0.1) (cut-decimal 0 (omega arith)) e (λ ms x. (felt 0, ms, refl, number-felt 0 (omega arith), x)) k)

hex_step : (x : Felt) (f : Felt → Language) (v : List Body) (t : List ℕ) → ends_run t ≡ true → Fits (f x) v t → Fits (number f) v ((codes "0x" ++ digits 16 false x.number) ++ t)
hex_step x f v t e k =
    let low = x.in_field in
    let d = digits_is_IsNumeral 16 false (omega arith) (omega arith) x.number (omega arith) in
    Fits-run (f x) (number f) v (codes "0x" ++ digits 16 false x.number) t (Number x) (omega arith) (all_digits-run 16 (digits 16 false x.number) (omega arith) d.0.1)
    (run-number (codes "0x" ++ digits 16 false x.number) x.number low (Writes-hex x.number low) (omega arith) (λ b bs g. first_zero b bs g) ∙ ap (λ y. Cut (length (codes "0x" ++ digits 16 false x.number)) (Number y)) (felt-number x)) e (λ ms y. (x, ms, refl, y)) k
  where
    first_zero : (b : ℕ) (bs : List ℕ) → (codes "0x" ++ digits 16 false x.number) ≡ b ∷ bs → is_ascii_digit b ≡ true
    first_zero b bs g = let same : 48 ≡ b = cc in rw (← same) refl

-- a label is one token
both : (x d y : Bool) → (x && y) ≡ true → (x ≡ true) × (((x || d) && y) ≡ true)
both true d y h = (refl, h)
both false d y h = cc

label_step : (n : List ℕ) (f : List ℕ → Language) (v : List Body) (t : List ℕ) → is_label n ≡ true → ends_run t ≡ true → Fits (f n) v t → Fits (label f) v (n ++ t)
unfolding run_piece word_mark
label_step [] f v t h e k = let w = label_word [] h in cc
label_step (b ∷ bs) f v t h e k =
    let w = label_word (b ∷ bs) h in
    let p = both (is_word_head b) (is_ascii_digit b) (list_all is_word_byte bs) w.0 in
    Fits-run (f (b ∷ bs)) (label f) v (b ∷ bs) t (Label (b ∷ bs)) (omega arith) p.1 (rw (head_no_digit b p.0, w.1) refl) e (λ ms x. (b ∷ bs, ms, refl, x)) k

-- numbers of either sign
negative-back : (x : Felt) → half < x.number → negative (felt (prime - x.number)) ≡ x
unfolding negative field_neg
negative-back x h =
    let low = x.in_field in
    let a = number-felt (prime - x.number) (omega arith) in
    let m : (prime - x.number) % prime ≡ prime - x.number = mod-eq_of_lt (omega arith) in
    let back : prime - (prime - x.number) ≡ x.number = omega arith in
    let n : x.number % prime ≡ x.number = mod-eq_of_lt low in
    rw (a, m, back, n) (felt-number x)

imm_step : (k : Felt → Language) (x : Felt) (v : List Body) (t : List ℕ) → ends_run t ≡ true → Fits (k x) v t → Fits (imm k) v (number_text x ++ t)
unfolding piece_at sign_at sign_piece sign_len
imm_step k x v t e h =
    let low = x.in_field in
    elim (leb x.number half) as (λ b. leb x.number half ≡ b → Fits (imm k) v (cond b (decimal x.number) (codes "-" ++ decimal (prime - x.number)) ++ t)) [
      | true ↦ λ g. Fits-map (number k) (imm k) v (decimal x.number ++ t) (λ ms d. inl d) (number_step x.number k v t low e (subst (λ (y : Felt). Fits (k y) v t) (sym (felt-number x)) h))
      | false ↦ λ g.
          let above = leb-false x.number half g in
          Fits-map (sign Minus (number (λ y. k (negative y)))) (imm k) v (45 ∷ (decimal (prime - x.number) ++ t)) (λ ms d. inr d)
          (sign_step Minus (number (λ y. k (negative y))) v (codes "-") (decimal (prime - x.number) ++ t) (omega arith) refl refl
          (number_step (prime - x.number) (λ y. k (negative y)) v t (omega arith) e (subst (λ (y : Felt). Fits (k y) v t) (sym (negative-back x (omega arith))) h)))
    ] refl

-- offsets and cells
offset_step : (k : ℤ → Language) (o : ℤ) (v : List Body) (t : List ℕ) → IsOffset o → ends_run t ≡ true → Fits (k o) v t → Fits (offset k) v (offset_text o ++ t)
unfolding piece_at sign_at sign_piece sign_len
offset_step k (pos zero) v t b e h = Fits-map (k (pos 0)) (offset k) v t (λ ms d. inl (inl d)) h
offset_step k (pos (suc n)) v t b e h =
    Fits-map (sign Plus (up_to 32767 (λ x. k (pos x.number)))) (offset k) v (32 ∷ 43 ∷ 32 ∷ (decimal (suc n) ++ t)) (λ ms d. inl (inr d))
    (Fits-gap (sign Plus (up_to 32767 (λ x. k (pos x.number)))) v (43 ∷ 32 ∷ (decimal (suc n) ++ t))
    (sign_step Plus (up_to 32767 (λ x. k (pos x.number))) v (codes "+") (32 ∷ (decimal (suc n) ++ t)) (omega arith) refl refl
    (Fits-gap (up_to 32767 (λ x. k (pos x.number))) v (decimal (suc n) ++ t)
    (up_to_step (suc n) 32767 (λ x. k (pos x.number)) v t (omega arith) (omega arith) e (subst (λ (m : ℕ). Fits (k (pos m)) v t) (sym (number-felt (suc n) (omega arith))) h)))))
offset_step k (negsuc n) v t b e h =
    Fits-map (sign Minus (up_to 32768 (λ x. k (neg_ℤ (pos x.number))))) (offset k) v (32 ∷ 45 ∷ 32 ∷ (decimal (suc n) ++ t)) (λ ms d. inr d)
    (Fits-gap (sign Minus (up_to 32768 (λ x. k (neg_ℤ (pos x.number))))) v (45 ∷ 32 ∷ (decimal (suc n) ++ t))
    (sign_step Minus (up_to 32768 (λ x. k (neg_ℤ (pos x.number)))) v (codes "-") (32 ∷ (decimal (suc n) ++ t)) (omega arith) refl refl
    (Fits-gap (up_to 32768 (λ x. k (neg_ℤ (pos x.number)))) v (decimal (suc n) ++ t)
    (up_to_step (suc n) 32768 (λ x. k (neg_ℤ (pos x.number))) v t (omega arith) (omega arith) e (subst (λ (m : ℕ). Fits (k (neg_ℤ (pos m))) v t) (sym (number-felt (suc n) (omega arith))) h)))))

ends_offset : (o : ℤ) (t : List ℕ) → ends_run (offset_text o ++ (93 ∷ t)) ≡ true
ends_offset (pos zero) t = refl
ends_offset (pos (suc n)) t = refl
ends_offset (negsuc n) t = refl

close_step : (l : Language) (v : List Body) (t : List ℕ) → Fits l v t → Fits (sign Close l) v (93 ∷ t)
unfolding piece_at sign_at sign_piece sign_len
close_step l v t h = sign_step Close l v (codes "]") t (omega arith) refl refl h

open_step : (l : Language) (v : List Body) (t : List ℕ) → Fits l v t → Fits (sign Open l) v (91 ∷ t)
unfolding piece_at sign_at sign_piece sign_len
open_step l v t h = sign_step Open l v (codes "[") t (omega arith) refl refl h

reg_step : (k : Reg → Language) (r : Reg) (v : List Body) (t : List ℕ) → ends_run t ≡ true → Fits (k r) v t → Fits (reg k) v (reg_text r ++ t)
unfolding run_piece word_mark reserved_word
reg_step k reg_is.Ap v t e h = Fits-map (word reserved.Ap (k reg_is.Ap)) (reg k) v (codes "ap" ++ t) (λ ms d. inl d) (word_step reserved.Ap (k reg_is.Ap) v (codes "ap") t (omega arith) refl refl e h)
reg_step k reg_is.Fp v t e h = Fits-map (word reserved.Fp (k reg_is.Fp)) (reg k) v (codes "fp" ++ t) (λ ms d. inr d) (word_step reserved.Fp (k reg_is.Fp) v (codes "fp") t (omega arith) refl refl e h)

cell_step : (k : Cell → Language) (c : Cell) (v : List Body) (t : List ℕ) → IsOffset c.off → Fits (k c) v t → Fits (cell k) v (cell_text c ++ t)
cell_step k c v t b h =
    Fits-text (cell k) v (91 ∷ (reg_text c.reg ++ (offset_text c.off ++ (93 ∷ t)))) (cell_text c ++ t)
    (ap (λ x. 91 ∷ x) (sym (append_assoc (reg_text c.reg ++ offset_text c.off) (93 ∷ []) t ∙ append_assoc (reg_text c.reg) (offset_text c.off) (93 ∷ t))))
    (open_step (reg (λ r. offset (λ o. sign Close (k (record { reg = r; off = o }))))) v (reg_text c.reg ++ (offset_text c.off ++ (93 ∷ t)))
    (reg_step (λ r. offset (λ o. sign Close (k (record { reg = r; off = o })))) c.reg v (offset_text c.off ++ (93 ∷ t)) (ends_offset c.off t)
    (offset_step (λ o. sign Close (k (record { reg = c.reg; off = o }))) c.off v (93 ∷ t) b refl (close_step (k c) v t h))))

-- terms and operands
term_step : (k : Term → Language) (x : Term) (v : List Body) (t : List ℕ) → IsTerm x → ends_run t ≡ true → Fits (k x) v t → Fits (term k) v (term_text x ++ t)
term_step k (term_is.Cell c) v t b e h = Fits-map (cell (λ c. k (term_is.Cell c))) (term k) v (cell_text c ++ t) (λ ms d. inl d) (cell_step (λ c. k (term_is.Cell c)) c v t b h)
term_step k (term_is.Imm x) v t b e h = Fits-map (imm (λ x. k (term_is.Imm x))) (term k) v (number_text x ++ t) (λ ms d. inr d) (imm_step (λ x. k (term_is.Imm x)) x v t e h)

plus_step : (l : Language) (v : List Body) (t : List ℕ) → Fits l v t → Fits (sign Plus l) v (32 ∷ 43 ∷ 32 ∷ t)
unfolding piece_at sign_at sign_piece sign_len
plus_step l v t h = Fits-gap (sign Plus l) v (43 ∷ 32 ∷ t) (sign_step Plus l v (codes "+") (32 ∷ t) (omega arith) refl refl (Fits-gap l v t h))

times_step : (l : Language) (v : List Body) (t : List ℕ) → Fits l v t → Fits (sign Times l) v (32 ∷ 42 ∷ 32 ∷ t)
unfolding piece_at sign_at sign_piece sign_len
times_step l v t h = Fits-gap (sign Times l) v (42 ∷ 32 ∷ t) (sign_step Times l v (codes "*") (32 ∷ t) (omega arith) refl refl (Fits-gap l v t h))

res_step : (k : Operand → Language) (x : Operand) (v : List Body) (t : List ℕ) → IsOperand x → ends_run t ≡ true → Fits (k x) v t → Fits (res k) v (operand_text x ++ t)
res_step k (Deref c) v t b e h = Fits-map (cell (λ c. k (Deref c))) (res k) v (cell_text c ++ t) (λ ms d. inl (inl (inl (inl (inl d))))) (cell_step (λ c. k (Deref c)) c v t b h)
res_step k (Double c o) v t b e h =
    Fits-text (res k) v (91 ∷ (cell_text c ++ (offset_text o ++ (93 ∷ t)))) (operand_text (Double c o) ++ t)
    (ap (λ x. 91 ∷ x) (sym (append_assoc (cell_text c ++ offset_text o) (93 ∷ []) t ∙ append_assoc (cell_text c) (offset_text o) (93 ∷ t))))
    (Fits-map (double k) (res k) v (91 ∷ (cell_text c ++ (offset_text o ++ (93 ∷ t)))) (λ ms d. inl (inl (inl (inl (inr d)))))
    (open_step (cell (λ c. offset (λ o. sign Close (k (Double c o))))) v (cell_text c ++ (offset_text o ++ (93 ∷ t)))
    (cell_step (λ c. offset (λ o. sign Close (k (Double c o)))) c v (offset_text o ++ (93 ∷ t)) b.0
    (offset_step (λ o. sign Close (k (Double c o))) o v (93 ∷ t) b.1 refl (close_step (k (Double c o)) v t h)))))
res_step k (Imm x) v t b e h = Fits-map (imm (λ x. k (Imm x))) (res k) v (number_text x ++ t) (λ ms d. inl (inl (inl (inr d)))) (imm_step (λ x. k (Imm x)) x v t e h)
res_step k (Sum c x) v t b e h =
    Fits-text (res k) v (cell_text c ++ (32 ∷ 43 ∷ 32 ∷ (term_text x ++ t))) (operand_text (Sum c x) ++ t)
    (sym (append_assoc (cell_text c ++ codes " + ") (term_text x) t ∙ append_assoc (cell_text c) (codes " + ") (term_text x ++ t)))
    (Fits-map (cell (λ c. sign Plus (term (λ x. k (Sum c x))))) (res k) v (cell_text c ++ (32 ∷ 43 ∷ 32 ∷ (term_text x ++ t))) (λ ms d. inl (inl (inr d)))
    (cell_step (λ c. sign Plus (term (λ x. k (Sum c x)))) c v (32 ∷ 43 ∷ 32 ∷ (term_text x ++ t)) b.0
    (plus_step (term (λ x. k (Sum c x))) v (term_text x ++ t) (term_step (λ x. k (Sum c x)) x v t b.1 e h))))
res_step k (Product c x) v t b e h =
    Fits-text (res k) v (cell_text c ++ (32 ∷ 42 ∷ 32 ∷ (term_text x ++ t))) (operand_text (Product c x) ++ t)
    (sym (append_assoc (cell_text c ++ codes " * ") (term_text x) t ∙ append_assoc (cell_text c) (codes " * ") (term_text x ++ t)))
    (Fits-map (cell (λ c. sign Times (term (λ x. k (Product c x))))) (res k) v (cell_text c ++ (32 ∷ 42 ∷ 32 ∷ (term_text x ++ t))) (λ ms d. inl (inr d))
    (cell_step (λ c. sign Times (term (λ x. k (Product c x)))) c v (32 ∷ 42 ∷ 32 ∷ (term_text x ++ t)) b.0
    (times_step (term (λ x. k (Product c x))) v (term_text x ++ t) (term_step (λ x. k (Product c x)) x v t b.1 e h))))

-- the ends of lines
end_step : (v : List Body) → Fits (end (λ _. ended v)) v []
end_step v = Fits-map (ended v) (end (λ _. ended v)) v [] (λ ms d. inl d) (Fits-end v)

inc_step : (w : Bool → List Body) (i : Bool) → Fits (inc (λ i. ended (w i))) (w i) (inc_text i)
unfolding piece_at sign_at sign_piece sign_len run_piece word_mark reserved_word
inc_step w false = Fits-map (end (λ _. ended (w false))) (inc (λ i. ended (w i))) (w false) [] (λ ms d. inl d) (end_step (w false))
inc_step w true =
    Fits-map (sign Semicolon (word reserved.Ap (sign Increment (end (λ _. ended (w true)))))) (inc (λ i. ended (w i))) (w true) (codes "; ap++") (λ ms d. inr (inl d))
    (sign_step Semicolon (word reserved.Ap (sign Increment (end (λ _. ended (w true))))) (w true) (codes ";") (codes " ap++") (omega arith) refl refl
    (Fits-gap (word reserved.Ap (sign Increment (end (λ _. ended (w true))))) (w true) (codes "ap++")
    (word_step reserved.Ap (sign Increment (end (λ _. ended (w true)))) (w true) (codes "ap") (codes "++") (omega arith) refl refl refl
    (sign_step Increment (end (λ _. ended (w true))) (w true) (codes "++") [] (omega arith) refl refl (end_step (w true))))))

ends_inc : (i : Bool) → ends_run (inc_text i) ≡ true
ends_inc true = refl
ends_inc false = refl

-- ` if [ap] != 0`
condition_step : (k : Cell → Language) (c : Cell) (v : List Body) (t : List ℕ) → IsOffset c.off → ends_run t ≡ true → Fits (k c) v t → Fits (condition k) v (32 ∷ 105 ∷ 102 ∷ 32 ∷ (cell_text c ++ (32 ∷ 33 ∷ 61 ∷ 32 ∷ 48 ∷ t)))
unfolding piece_at sign_at sign_piece sign_len run_piece word_mark reserved_word
condition_step k c v t b e h =
    Fits-gap (condition k) v (105 ∷ 102 ∷ 32 ∷ (cell_text c ++ (32 ∷ 33 ∷ 61 ∷ 32 ∷ 48 ∷ t)))
    (word_step reserved.If (cell (λ c. sign NotEqual (nought (k c)))) v (codes "if") (32 ∷ (cell_text c ++ (32 ∷ 33 ∷ 61 ∷ 32 ∷ 48 ∷ t))) (omega arith) refl refl refl
    (Fits-gap (cell (λ c. sign NotEqual (nought (k c)))) v (cell_text c ++ (32 ∷ 33 ∷ 61 ∷ 32 ∷ 48 ∷ t))
    (cell_step (λ c. sign NotEqual (nought (k c))) c v (32 ∷ 33 ∷ 61 ∷ 32 ∷ 48 ∷ t) b
    (Fits-gap (sign NotEqual (nought (k c))) v (33 ∷ 61 ∷ 32 ∷ 48 ∷ t)
    (sign_step NotEqual (nought (k c)) v (codes "!=") (32 ∷ 48 ∷ t) (omega arith) refl refl
    (Fits-gap (nought (k c)) v (48 ∷ t) (nought_step (k c) v t e h)))))))

way_step : (k : Bool → Language) (a : Bool) (v : List Body) (t : List ℕ) → Fits (k a) v t → Fits (way k) v (way_text a ++ t)
unfolding run_piece word_mark reserved_word
way_step k true v t h = Fits-map (word reserved.Abs (k true)) (way k) v (codes "abs " ++ t) (λ ms d. inr d) (word_step reserved.Abs (k true) v (codes "abs") (32 ∷ t) (omega arith) refl refl refl (Fits-gap (k true) v t h))
way_step k false v t h = Fits-map (word reserved.Rel (k false)) (way k) v (codes "rel " ++ t) (λ ms d. inl d) (word_step reserved.Rel (k false) v (codes "rel") (32 ∷ t) (omega arith) refl refl refl (Fits-gap (k false) v t h))

-- a statement's line
abbrev one : Body → List Body
one s = s ∷ []

abbrev stmt_line : Language
stmt_line = stmt (λ s. ended (one s))

from_stmt : (v : List Body) (t : List ℕ) → Fits stmt_line v t → Fits whole_line v t
unfolding whole_line
from_stmt v t h = Fits-map stmt_line whole_line v t (λ ms d. inr (inl (inr d))) h

jmp_step : (l : Language) (v : List Body) (t : List ℕ) → Fits l v t → Fits (word reserved.Jmp l) v (106 ∷ 109 ∷ 112 ∷ 32 ∷ t)
unfolding run_piece word_mark reserved_word
jmp_step l v t h = word_step reserved.Jmp l v (codes "jmp") (32 ∷ t) (omega arith) refl refl refl (Fits-gap l v t h)

call_step : (l : Language) (v : List Body) (t : List ℕ) → Fits l v t → Fits (word reserved.Call l) v (99 ∷ 97 ∷ 108 ∷ 108 ∷ 32 ∷ t)
unfolding run_piece word_mark reserved_word
call_step l v t h = word_step reserved.Call l v (codes "call") (32 ∷ t) (omega arith) refl refl refl (Fits-gap l v t h)

equal_step : (l : Language) (v : List Body) (t : List ℕ) → Fits l v t → Fits (sign Equal l) v (32 ∷ 61 ∷ 32 ∷ t)
unfolding piece_at sign_at sign_piece sign_len
equal_step l v t h = Fits-gap (sign Equal l) v (61 ∷ 32 ∷ t) (sign_step Equal l v (codes "=") (32 ∷ t) (omega arith) refl refl (Fits-gap l v t h))

-- a place, a condition and the end, put together from the right
if_text : (t c i : List ℕ) → (((t ++ codes " if ") ++ c) ++ codes " != 0") ++ i ≡ t ++ (32 ∷ 105 ∷ 102 ∷ 32 ∷ (c ++ (32 ∷ 33 ∷ 61 ∷ 32 ∷ 48 ∷ i)))
if_text t c i =
    append_assoc ((t ++ codes " if ") ++ c) (codes " != 0") i
    ∙ (append_assoc (t ++ codes " if ") c (codes " != 0" ++ i) ∙ append_assoc t (codes " if ") (c ++ (codes " != 0" ++ i)))

stmt_step : (s : Stmt) → IsStmt s → Fits stmt_line (one (body.Stmt s)) (stmt_text s)
unfolding piece_at sign_at sign_piece sign_len run_piece word_mark reserved_word
stmt_step (Assert dst r i) b =
    let v = one (body.Stmt (Assert dst r i)) in
    let k : Cell → Language = λ c. sign Equal (res (λ r. inc (λ i. ended (one (body.Stmt (Assert c r i)))))) in
    Fits-text stmt_line v (cell_text dst ++ (32 ∷ 61 ∷ 32 ∷ (operand_text r ++ inc_text i))) (stmt_text (Assert dst r i))
    (sym (append_assoc (cell_text dst ++ codes " = ") (operand_text r) (inc_text i) ∙ append_assoc (cell_text dst) (codes " = ") (operand_text r ++ inc_text i)))
    (Fits-map (cell k) stmt_line v (cell_text dst ++ (32 ∷ 61 ∷ 32 ∷ (operand_text r ++ inc_text i))) (λ ms d. inl (inl (inl (inl (inl (inl (inl (inl (inl d)))))))))
    (cell_step k dst v (32 ∷ 61 ∷ 32 ∷ (operand_text r ++ inc_text i)) b.0
    (equal_step (res (λ r. inc (λ i. ended (one (body.Stmt (Assert dst r i)))))) v (operand_text r ++ inc_text i)
    (res_step (λ r. inc (λ i. ended (one (body.Stmt (Assert dst r i))))) r v (inc_text i) b.1 (ends_inc i) (inc_step (λ i. one (body.Stmt (Assert dst r i))) i)))))
stmt_step (Jump a r i) b =
    let v = one (body.Stmt (Jump a r i)) in
    let k : Bool → Language = λ a. res (λ r. inc (λ i. ended (one (body.Stmt (Jump a r i))))) in
    Fits-text stmt_line v (106 ∷ 109 ∷ 112 ∷ 32 ∷ (way_text a ++ (operand_text r ++ inc_text i))) (stmt_text (Jump a r i))
    (ap (λ x. 106 ∷ 109 ∷ 112 ∷ 32 ∷ x) (sym (append_assoc (way_text a) (operand_text r) (inc_text i))))
    (Fits-map (word reserved.Jmp (way k)) stmt_line v (106 ∷ 109 ∷ 112 ∷ 32 ∷ (way_text a ++ (operand_text r ++ inc_text i))) (λ ms d. inl (inl (inl (inl (inl (inl (inl (inl (inr d)))))))))
    (jmp_step (way k) v (way_text a ++ (operand_text r ++ inc_text i))
    (way_step k a v (operand_text r ++ inc_text i)
    (res_step (λ r. inc (λ i. ended (one (body.Stmt (Jump a r i))))) r v (inc_text i) b (ends_inc i) (inc_step (λ i. one (body.Stmt (Jump a r i))) i)))))
stmt_step (Branch c x i) b =
    let v = one (body.Stmt (Branch c x i)) in
    let k : Term → Language = λ x. condition (λ c. inc (λ i. ended (one (body.Stmt (Branch c x i))))) in
    Fits-text stmt_line v (106 ∷ 109 ∷ 112 ∷ 32 ∷ 114 ∷ 101 ∷ 108 ∷ 32 ∷ (term_text x ++ (32 ∷ 105 ∷ 102 ∷ 32 ∷ (cell_text c ++ (32 ∷ 33 ∷ 61 ∷ 32 ∷ 48 ∷ inc_text i))))) (stmt_text (Branch c x i))
    (ap (λ y. 106 ∷ 109 ∷ 112 ∷ 32 ∷ 114 ∷ 101 ∷ 108 ∷ 32 ∷ y) (sym (if_text (term_text x) (cell_text c) (inc_text i))))
    (Fits-map (word reserved.Jmp (word reserved.Rel (term k))) stmt_line v (106 ∷ 109 ∷ 112 ∷ 32 ∷ 114 ∷ 101 ∷ 108 ∷ 32 ∷ (term_text x ++ (32 ∷ 105 ∷ 102 ∷ 32 ∷ (cell_text c ++ (32 ∷ 33 ∷ 61 ∷ 32 ∷ 48 ∷ inc_text i))))) (λ ms d. inl (inl (inl (inl (inl (inl (inl (inr d))))))))
    (jmp_step (word reserved.Rel (term k)) v (114 ∷ 101 ∷ 108 ∷ 32 ∷ (term_text x ++ (32 ∷ 105 ∷ 102 ∷ 32 ∷ (cell_text c ++ (32 ∷ 33 ∷ 61 ∷ 32 ∷ 48 ∷ inc_text i)))))
    (word_step reserved.Rel (term k) v (codes "rel") (32 ∷ (term_text x ++ (32 ∷ 105 ∷ 102 ∷ 32 ∷ (cell_text c ++ (32 ∷ 33 ∷ 61 ∷ 32 ∷ 48 ∷ inc_text i))))) (omega arith) refl refl refl
    (Fits-gap (term k) v (term_text x ++ (32 ∷ 105 ∷ 102 ∷ 32 ∷ (cell_text c ++ (32 ∷ 33 ∷ 61 ∷ 32 ∷ 48 ∷ inc_text i))))
    (term_step k x v (32 ∷ 105 ∷ 102 ∷ 32 ∷ (cell_text c ++ (32 ∷ 33 ∷ 61 ∷ 32 ∷ 48 ∷ inc_text i))) b.1 refl
    (condition_step (λ c. inc (λ i. ended (one (body.Stmt (Branch c x i))))) c v (inc_text i) b.0 (ends_inc i) (inc_step (λ i. one (body.Stmt (Branch c x i))) i)))))))
stmt_step (Call a x) b =
    let v = one (body.Stmt (Call a x)) in
    let k : Bool → Language = λ a. term (λ x. end (λ _. ended (one (body.Stmt (Call a x))))) in
    Fits-map (word reserved.Call (way k)) stmt_line v (99 ∷ 97 ∷ 108 ∷ 108 ∷ 32 ∷ (way_text a ++ term_text x)) (λ ms d. inl (inl (inl (inl (inr d)))))
    (call_step (way k) v (way_text a ++ term_text x)
    (way_step k a v (term_text x)
    (Fits-text (k a) v (term_text x ++ []) (term_text x) (append-nil (term_text x)) (term_step (λ x. end (λ _. ended (one (body.Stmt (Call a x))))) x v [] b refl (end_step v)))))
stmt_step Ret b =
    let v = one (body.Stmt Ret) in
    Fits-map (word reserved.Ret (end (λ _. ended v))) stmt_line v (codes "ret") (λ ms d. inl (inl (inr d)))
    (word_step reserved.Ret (end (λ _. ended v)) v (codes "ret") [] (omega arith) refl refl refl (end_step v))
stmt_step (AddAp r) b =
    let v = one (body.Stmt (AddAp r)) in
    let k : Operand → Language = λ r. end (λ _. ended (one (body.Stmt (AddAp r)))) in
    Fits-map (word reserved.Ap (sign AddTo (res k))) stmt_line v (97 ∷ 112 ∷ 32 ∷ 43 ∷ 61 ∷ 32 ∷ operand_text r) (λ ms d. inl (inr d))
    (word_step reserved.Ap (sign AddTo (res k)) v (codes "ap") (32 ∷ 43 ∷ 61 ∷ 32 ∷ operand_text r) (omega arith) refl refl refl
    (Fits-gap (sign AddTo (res k)) v (43 ∷ 61 ∷ 32 ∷ operand_text r)
    (sign_step AddTo (res k) v (codes "+=") (32 ∷ operand_text r) (omega arith) refl refl
    (Fits-gap (res k) v (operand_text r)
    (Fits-text (res k) v (operand_text r ++ []) (operand_text r) (append-nil (operand_text r)) (res_step k r v [] b refl (end_step v)))))))

-- directives
percent_step : (l : Language) (v : List Body) (t : List ℕ) → Fits l v t → Fits (sign Percent l) v (37 ∷ t)
unfolding piece_at sign_at sign_piece sign_len
percent_step l v t h = sign_step Percent l v (codes "%") t (omega arith) refl refl h

directive_step : (d : Directive) (l : Language) (v : List Body) (w t : List ℕ) → 0 < length w → list_all is_word_byte w ≡ true → run_piece w ≡ Cut (length w) (Label w) → directive_word w ≡ Some d → ends_run t ≡ true → Fits l v t → Fits (directive d l) v (w ++ t)
directive_step d l v w t p run cut is e h = Fits-run l (directive d l) v w t (Label w) p run cut e (λ ms x. (w, ms, refl, is, x)) h

target_step : (k : Target → Language) (x : Target) (v : List Body) → IsTarget x → Fits (k x) v [] → Fits (target k) v (target_text x)
target_step k (target_is.Number n) v b h =
    Fits-text (target k) v (decimal n ++ []) (decimal n) (append-nil (decimal n))
    (Fits-map (up_to 4294967295 (λ x. k (target_is.Number x.number))) (target k) v (decimal n ++ []) (λ ms d. inl d)
    (up_to_step n 4294967295 (λ x. k (target_is.Number x.number)) v [] (omega arith) (omega arith) refl (subst (λ (m : ℕ). Fits (k (target_is.Number m)) v []) (sym (number-felt n (omega arith))) h)))
target_step k (target_is.Name n) v b h =
    Fits-text (target k) v (n ++ []) n (append-nil n)
    (Fits-map (label (λ n. k (target_is.Name n))) (target k) v (n ++ []) (λ ms d. inr d) (label_step n (λ n. k (target_is.Name n)) v [] b refl h))

given_range : (w : Bool → List Body) (r : Bool) → Fits (given the.RangeCheck (λ r. ended (w r))) (w r) (word_text r (codes " range_check"))
unfolding run_piece word_mark reserved_word directive_word
given_range w false = Fits-map (ended (w false)) (given the.RangeCheck (λ r. ended (w r))) (w false) [] (λ ms d. inl d) (Fits-end (w false))
given_range w true =
    Fits-map (directive the.RangeCheck (ended (w true))) (given the.RangeCheck (λ r. ended (w r))) (w true) (codes " range_check") (λ ms d. inr d)
    (Fits-gap (directive the.RangeCheck (ended (w true))) (w true) (codes "range_check")
    (directive_step the.RangeCheck (ended (w true)) (w true) (codes "range_check") [] (omega arith) refl refl refl refl (Fits-end (w true))))

ends_range : (r : Bool) → ends_run (word_text r (codes " range_check")) ≡ true
ends_range true = refl
ends_range false = refl

given_both : (w : Bool → Bool → List Body) (o r : Bool) → Fits (given the.Output (λ o. given the.RangeCheck (λ r. ended (w o r)))) (w o r) (word_text o (codes " output") ++ word_text r (codes " range_check"))
unfolding run_piece word_mark reserved_word directive_word
given_both w false r = Fits-map (given the.RangeCheck (λ r. ended (w false r))) (given the.Output (λ o. given the.RangeCheck (λ r. ended (w o r)))) (w false r) (word_text r (codes " range_check")) (λ ms d. inl d) (given_range (w false) r)
given_both w true r =
    Fits-map (directive the.Output (given the.RangeCheck (λ r. ended (w true r)))) (given the.Output (λ o. given the.RangeCheck (λ r. ended (w o r)))) (w true r) (codes " output" ++ word_text r (codes " range_check")) (λ ms d. inr d)
    (Fits-gap (directive the.Output (given the.RangeCheck (λ r. ended (w true r)))) (w true r) (codes "output" ++ word_text r (codes " range_check"))
    (directive_step the.Output (given the.RangeCheck (λ r. ended (w true r))) (w true r) (codes "output") (word_text r (codes " range_check")) (omega arith) refl refl refl (ends_range r) (given_range (w true) r)))

from_setting : (v : List Body) (t : List ℕ) → Fits (setting (λ d. ended (one d))) v t → Fits whole_line v t
unfolding whole_line
from_setting v t h = Fits-map (setting (λ d. ended (one d))) whole_line v t (λ ms d. inl d) h

ends_both : (o r : Bool) → ends_run (word_text o (codes " output") ++ word_text r (codes " range_check")) ≡ true
ends_both true r = refl
ends_both false r = ends_range r

-- each item is a line with its meaning
pub body_step : (s : Body) → IsBody s → Fits whole_line (one s) (body_text s)
unfolding piece_at sign_at sign_piece sign_len run_piece word_mark reserved_word directive_word whole_line
body_step (body.Builtins o r) b =
    let v = one (body.Builtins o r) in
    let k : Language = given the.Output (λ o. given the.RangeCheck (λ r. ended (one (body.Builtins o r)))) in
    from_setting v (body_text (body.Builtins o r))
    (Fits-text (setting (λ d. ended (one d))) v (codes "%builtins" ++ (word_text o (codes " output") ++ word_text r (codes " range_check"))) (body_text (body.Builtins o r)) (sym (append_assoc (codes "%builtins") (word_text o (codes " output")) (word_text r (codes " range_check"))))
    (Fits-map (sign Percent (directive the.Builtins k)) (setting (λ d. ended (one d))) v (codes "%builtins" ++ (word_text o (codes " output") ++ word_text r (codes " range_check"))) (λ ms d. inl (inl d))
    (percent_step (directive the.Builtins k) v (codes "builtins" ++ (word_text o (codes " output") ++ word_text r (codes " range_check")))
    (directive_step the.Builtins k v (codes "builtins") (word_text o (codes " output") ++ word_text r (codes " range_check")) (omega arith) refl refl refl (ends_both o r) (given_both (λ o r. one (body.Builtins o r)) o r)))))
body_step (body.Start x) b =
    let v = one (body.Start x) in
    let k : Target → Language = λ x. ended (one (body.Start x)) in
    from_setting v (body_text (body.Start x))
    (Fits-map (sign Percent (directive the.Start (target k))) (setting (λ d. ended (one d))) v (body_text (body.Start x)) (λ ms d. inl (inr d))
    (percent_step (directive the.Start (target k)) v (codes "start " ++ target_text x)
    (directive_step the.Start (target k) v (codes "start") (32 ∷ target_text x) (omega arith) refl refl refl refl (Fits-gap (target k) v (target_text x) (target_step k x v b (Fits-end v))))))
body_step (body.End x) b =
    let v = one (body.End x) in
    let k : Target → Language = λ x. ended (one (body.End x)) in
    from_setting v (body_text (body.End x))
    (Fits-map (sign Percent (directive the.End (target k))) (setting (λ d. ended (one d))) v (body_text (body.End x)) (λ ms d. inr d)
    (percent_step (directive the.End (target k)) v (codes "end " ++ target_text x)
    (directive_step the.End (target k) v (codes "end") (32 ∷ target_text x) (omega arith) refl refl refl refl (Fits-gap (target k) v (target_text x) (target_step k x v b (Fits-end v))))))
body_step (body.Label n) b =
    let v = one (body.Label n) in
    let k : List ℕ → Language = λ n. sign Colon (said (λ s. ended (body.Label n ∷ s))) in
    Fits-map (label k) whole_line v (n ++ codes ":") (λ ms d. inr (inr d))
    (label_step n k v (codes ":") b refl
    (sign_step Colon (said (λ s. ended (body.Label n ∷ s))) v (codes ":") [] (omega arith) refl refl
    (Fits-map (ended v) (said (λ s. ended (body.Label n ∷ s))) v [] (λ ms d. inl d) (Fits-end v))))
body_step (body.Stmt s) b = from_stmt (one (body.Stmt s)) (stmt_text s) (stmt_step s b)
body_step (body.JumpTo n i) b =
    let v = one (body.JumpTo n i) in
    let k : List ℕ → Language = λ n. inc (λ i. ended (one (body.JumpTo n i))) in
    from_stmt v (body_text (body.JumpTo n i))
    (Fits-map (word reserved.Jmp (label k)) stmt_line v (106 ∷ 109 ∷ 112 ∷ 32 ∷ (n ++ inc_text i)) (λ ms d. inl (inl (inl (inl (inl (inl (inr d)))))))
    (jmp_step (label k) v (n ++ inc_text i) (label_step n k v (inc_text i) b (ends_inc i) (inc_step (λ i. one (body.JumpTo n i)) i))))
body_step (body.BranchTo c n i) b =
    let v = one (body.BranchTo c n i) in
    let k : List ℕ → Language = λ n. condition (λ c. inc (λ i. ended (one (body.BranchTo c n i)))) in
    from_stmt v (body_text (body.BranchTo c n i))
    (Fits-text stmt_line v (106 ∷ 109 ∷ 112 ∷ 32 ∷ (n ++ (32 ∷ 105 ∷ 102 ∷ 32 ∷ (cell_text c ++ (32 ∷ 33 ∷ 61 ∷ 32 ∷ 48 ∷ inc_text i))))) (body_text (body.BranchTo c n i))
    (ap (λ y. 106 ∷ 109 ∷ 112 ∷ 32 ∷ y) (sym (if_text n (cell_text c) (inc_text i))))
    (Fits-map (word reserved.Jmp (label k)) stmt_line v (106 ∷ 109 ∷ 112 ∷ 32 ∷ (n ++ (32 ∷ 105 ∷ 102 ∷ 32 ∷ (cell_text c ++ (32 ∷ 33 ∷ 61 ∷ 32 ∷ 48 ∷ inc_text i))))) (λ ms d. inl (inl (inl (inl (inl (inr d))))))
    (jmp_step (label k) v (n ++ (32 ∷ 105 ∷ 102 ∷ 32 ∷ (cell_text c ++ (32 ∷ 33 ∷ 61 ∷ 32 ∷ 48 ∷ inc_text i))))
    (label_step n k v (32 ∷ 105 ∷ 102 ∷ 32 ∷ (cell_text c ++ (32 ∷ 33 ∷ 61 ∷ 32 ∷ 48 ∷ inc_text i))) b.1 refl
    (condition_step (λ c. inc (λ i. ended (one (body.BranchTo c n i)))) c v (inc_text i) b.0 (ends_inc i) (inc_step (λ i. one (body.BranchTo c n i)) i))))))
body_step (body.CallTo n) b =
    let v = one (body.CallTo n) in
    let k : List ℕ → Language = λ n. end (λ _. ended (one (body.CallTo n))) in
    from_stmt v (body_text (body.CallTo n))
    (Fits-map (word reserved.Call (label k)) stmt_line v (99 ∷ 97 ∷ 108 ∷ 108 ∷ 32 ∷ n) (λ ms d. inl (inl (inl (inr d))))
    (call_step (label k) v n
    (Fits-text (label k) v (n ++ []) n (append-nil n) (label_step n k v [] b refl (end_step v)))))
body_step (body.Dw x) b =
    let v = one (body.Dw x) in
    let k : Felt → Language = λ x. end (λ _. ended (one (body.Dw x))) in
    from_stmt v (body_text (body.Dw x))
    (Fits-map (word reserved.Dw (imm k)) stmt_line v (body_text (body.Dw x)) (λ ms d. inr d)
    (word_step reserved.Dw (imm k) v (codes "dw") (32 ∷ (codes "0x" ++ digits 16 false x.number)) (omega arith) refl refl refl
    (Fits-gap (imm k) v (codes "0x" ++ digits 16 false x.number)
    (Fits-map (number k) (imm k) v (codes "0x" ++ digits 16 false x.number) (λ ms d. inl d)
    (Fits-text (number k) v ((codes "0x" ++ digits 16 false x.number) ++ []) (codes "0x" ++ digits 16 false x.number) (append-nil (codes "0x" ++ digits 16 false x.number)) (hex_step x k v [] refl (end_step v)))))))
