-- The parser's functions take the tokens as the languages of the grammar do.
use Rattle.std.proofs.Common.{◌≡◌, ℕ, suc, ◌+◌, pos, neg_ℤ, ℤ, Bool, true, false, eqb, leb, cond, List, [], ◌∷◌, ◌++◌, length, map, Option, Some, None, Result, Ok, Err, refl, ap, sym, ◌∙◌, add-one}
use Rattle.goldilocks.specs.declared.Felt.{Felt}
use Rattle.casm_statements.specs.declared.name.Reserved.TheVariants as reserved
use Rattle.casm_statements.specs.declared.Reg.{Reg}
use Rattle.casm_statements.specs.declared.Reg.TheVariants as reg_is
use Rattle.casm_statements.specs.declared.Cell.{Cell}
use Rattle.casm_statements.specs.declared.Term.{Term}
use Rattle.casm_statements.specs.declared.Term.TheVariants as term_is
use Rattle.casm_statements.specs.declared.Operand.{Operand}
use Rattle.casm_statements.specs.declared.Operand.TheVariants.{Deref, Double, Imm, Sum, Product}
use Rattle.casm_statements.specs.declared.Stmt.TheVariants.{Assert, Jump, Branch, Call, Ret, AddAp}
use Rattle.casm_statements.specs.declared.Target.{Target}
use Rattle.casm_statements.specs.declared.Target.TheVariants as target_is
use Rattle.casm_statements.specs.declared.Body.{Body}
use Rattle.casm_statements.specs.declared.Body.TheVariants as body
use Rattle.casm_tokens.specs.declared.marks.Symbol.TheVariants.{Increment, AddTo, NotEqual, Open, Close, Plus, Minus, Times, Equal, Semicolon, Comma, Colon, Percent}
use Rattle.casm_tokens.specs.declared.marks.Symbol.{Symbol}
use Rattle.casm_tokens.specs.declared.fault.SyntaxKind.TheVariants as kind
use Rattle.casm_tokens.specs.Marks.{Mark, Sign, Keyword, Label, Number}
use Rattle.casm_grammar.specs.declared.directive.Directive.{Directive}
use Rattle.casm_grammar.specs.declared.directive.Directive.TheVariants as the
use Rattle.casm_grammar.specs.Directives.{directive_word}
use Rattle.casm_grammar.specs.Language.{Language, ended, sign, word, directive, label, number, up_to, zero, either, Bounds, Kept, Lifted}
use Rattle.casm_grammar.specs.Grammar.{negative, reg, offset, cell, imm, term, res, end, inc, way, condition, stmt, target, given, said, whole_line}
use Rattle.casm_grammar.specs.Readers.{Refusal, Reading, after, skip, making, choose, after_sign, after_word, after_directive, expect_sign, expect_word, number_in, number_up_to, zero_in, label_in, reg_in, offset_in, rest_of_cell, cell_in, imm_in, term_in, rest_of_double, after_cell, bracket_in, res_in, nothing_in, end_in, increment_in, inc_in, condition_in, as_term, assert_in, jump_on, branch_on, jump_rel_by, jump_rel_in, jump_abs_in, jump_to_in, jump_in, call_on, call_in, add_ap_in, dw_in, stmt_in, target_in, given_in, builtins_in, place_in, setting_in, said_in, named_in, line_in}
use Rattle.casm_grammar.proofs.Runs.{when, within, next, beyond, ends, nexts, beyonds, endings, Outcome, Done, Stopped, finish, advance, run}

-- what comes of a reading, by what comes of its value
abbrev pub fin : {A : Type 0} → Result A Refusal → (A → Outcome) → Outcome
fin (Ok x) f = f x
fin (Err e) f = Stopped e.0 e.1

chain : {A B : Type 0} (x : Reading A) (F : A → List Mark → Result B Refusal) (f : A × List Mark → Outcome) (g : B → Outcome) → ((p : A × List Mark) → f p ≡ fin (F p.0 p.1) g) → fin x f ≡ fin (after x F) g
chain (Ok p) F f g h = h p
chain (Err e) F f g h = refl

chain_skip : {B : Type 0} (x : Result (List Mark) Refusal) (F : List Mark → Result B Refusal) (f : List Mark → Outcome) (g : B → Outcome) → ((rest : List Mark) → f rest ≡ fin (F rest) g) → fin x f ≡ fin (skip x F) g
chain_skip (Ok rest) F f g h = h rest
chain_skip (Err e) F f g h = refl

chain_making : {A B : Type 0} (x : Result A Refusal) (F : A → B) (g : B → Outcome) → fin x (λ a. g (F a)) ≡ fin (making F x) g
chain_making (Ok a) F g = refl
chain_making (Err e) F g = refl

-- what comes of one token, by what may stand after it
advance-goes : (out : Bool) (kept lifted : List Language) (k l : Language) (ks ls : List Language) (left : ℕ) (o : Outcome) → out ≡ false → kept ≡ k ∷ ks → lifted ≡ l ∷ ls → advance out kept lifted left o ≡ o
advance-goes out kept lifted k l ks ls left o e f g = rw (e, f, g) refl

advance-stops : (out : Bool) (kept lifted : List Language) (left : ℕ) (o : Outcome) → lifted ≡ [] → advance out kept lifted left o ≡ Stopped left kind.Token
advance-stops out kept lifted left o e = rw e refl

advance-range : (out : Bool) (kept lifted : List Language) (l : Language) (ls : List Language) (left : ℕ) (o : Outcome) → kept ≡ [] → lifted ≡ l ∷ ls → advance out kept lifted left o ≡ Stopped left kind.Range
advance-range out kept lifted l ls left o e f = rw (e, f) refl

pub take : (m : Mark) (ms : List Mark) (s : List Language) (l : Language) (ls : List Language) → ((b : Bounds) → nexts b m s ≡ l ∷ ls) → beyonds m s ≡ false → run (m ∷ ms) s ≡ run ms (l ∷ ls)
take m ms s l ls n b =
    advance-goes (beyonds m s) (nexts Kept m s) (nexts Lifted m s) l l ls ls (suc (length ms)) (run ms (nexts Kept m s)) b (n Kept) (n Lifted)
    ∙ ap (run ms) (n Kept)

-- no number is out of bounds at a sign
beyond_sign : (s : Symbol) (l : Language) → beyond (Sign s) l ≡ false
beyond_sign s (ended v) = refl
beyond_sign s (sign t l) = refl
beyond_sign s (word r l) = refl
beyond_sign s (directive d l) = refl
beyond_sign s (label f) = refl
beyond_sign s (number f) = refl
beyond_sign s (up_to most f) = refl
beyond_sign s (zero l) = refl
beyond_sign s (either l r) = rw (beyond_sign s l, beyond_sign s r) refl

beyonds_sign : (s : Symbol) (ls : List Language) → beyonds (Sign s) ls ≡ false
beyonds_sign s [] = refl
beyonds_sign s (l ∷ ls) = rw (beyond_sign s l, beyonds_sign s ls) refl

in_bound : (b : Bounds) (n most : ℕ) → leb n most ≡ true → within b most n ≡ true
in_bound Kept n most e = e
in_bound Lifted n most e = refl

-- languages of one form, one for each of some keys
module _ {K : Type 0} where
  nexts_all : (b : Bounds) (m : Mark) (g f : K → Language) → ((j : K) → next b m (g j) ≡ f j ∷ []) → (js : List K) → nexts b m (map g js) ≡ map f js
  nexts_all b m g f h [] = refl
  nexts_all b m g f h (j ∷ js) = rw (h j, nexts_all b m g f h js) refl

  nexts_none : (b : Bounds) (m : Mark) (g : K → Language) → ((j : K) → next b m (g j) ≡ []) → (js : List K) → nexts b m (map g js) ≡ []
  nexts_none b m g h [] = refl
  nexts_none b m g h (j ∷ js) = rw (h j, nexts_none b m g h js) refl

  beyonds_none : (m : Mark) (g : K → Language) → ((j : K) → beyond m (g j) ≡ false) → (js : List K) → beyonds m (map g js) ≡ false
  beyonds_none m g h [] = refl
  beyonds_none m g h (j ∷ js) = rw (h j, beyonds_none m g h js) refl

  endings_none : (g : K → Language) → ((j : K) → ends (g j) ≡ []) → (js : List K) → endings (map g js) ≡ []
  endings_none g h [] = refl
  endings_none g h (j ∷ js) = rw (h j, endings_none g h js) refl

  step : (g f : K → Language) (i : K) (is : List K) (m : Mark) (ms : List Mark) → ((b : Bounds) (j : K) → next b m (g j) ≡ f j ∷ []) → ((j : K) → beyond m (g j) ≡ false) → run (m ∷ ms) (map g (i ∷ is)) ≡ run ms (map f (i ∷ is))
  step g f i is m ms h q = take m ms (map g (i ∷ is)) (f i) (map f is) (λ b. nexts_all b m g f (h b) (i ∷ is)) (beyonds_none m g q (i ∷ is))

  stop : (g : K → Language) (i : K) (is : List K) (m : Mark) (ms : List Mark) → ((j : K) → next Lifted m (g j) ≡ []) → run (m ∷ ms) (map g (i ∷ is)) ≡ Stopped (suc (length ms)) kind.Token
  stop g i is m ms h = advance-stops (beyonds m (map g (i ∷ is))) (nexts Kept m (map g (i ∷ is))) (nexts Lifted m (map g (i ∷ is))) (suc (length ms)) (run ms (nexts Kept m (map g (i ∷ is)))) (nexts_none Lifted m g h (i ∷ is))

  range : (g f : K → Language) (i : K) (is : List K) (m : Mark) (ms : List Mark) → ((j : K) → next Kept m (g j) ≡ []) → ((j : K) → next Lifted m (g j) ≡ f j ∷ []) → run (m ∷ ms) (map g (i ∷ is)) ≡ Stopped (suc (length ms)) kind.Range
  range g f i is m ms h q = advance-range (beyonds m (map g (i ∷ is))) (nexts Kept m (map g (i ∷ is))) (nexts Lifted m (map g (i ∷ is))) (f i) (map f is) (suc (length ms)) (run ms (nexts Kept m (map g (i ∷ is)))) (nexts_none Kept m g h (i ∷ is)) (nexts_all Lifted m g f q (i ∷ is))

  stop_end : (g : K → Language) (i : K) (is : List K) → ((j : K) → ends (g j) ≡ []) → run [] (map g (i ∷ is)) ≡ Stopped 0 kind.Token
  stop_end g i is h = ap finish (endings_none g h (i ∷ is))

  link_reg : (k : K → Reg → Language) (i : K) (is : List K) (ts : List Mark) → run ts (map (λ j. reg (k j)) (i ∷ is)) ≡ fin (reg_in ts) (λ p. run p.1 (map (λ j. k j p.0) (i ∷ is)))
  unfolding reg_in after_word
  link_reg k i is [] = stop_end (λ j. reg (k j)) i is (λ j. refl)
  link_reg k i is (Keyword reserved.Ap ∷ ms) = step (λ j. reg (k j)) (λ j. k j reg_is.Ap) i is (Keyword reserved.Ap) ms (λ b j. refl) (λ j. refl)
  link_reg k i is (Keyword reserved.Fp ∷ ms) = step (λ j. reg (k j)) (λ j. k j reg_is.Fp) i is (Keyword reserved.Fp) ms (λ b j. refl) (λ j. refl)
  link_reg k i is (m ∷ ms) = stop (λ j. reg (k j)) i is m ms (λ j. refl)

  link_close : (k : K → Language) (i : K) (is : List K) (ts : List Mark) → run ts (map (λ j. sign Close (k j)) (i ∷ is)) ≡ fin (expect_sign Close ts) (λ rest. run rest (map k (i ∷ is)))
  unfolding expect_sign after_sign
  link_close k i is [] = stop_end (λ j. sign Close (k j)) i is (λ j. refl)
  link_close k i is (Sign Close ∷ ms) = step (λ j. sign Close (k j)) k i is (Sign Close) ms (λ b j. refl) (λ j. refl)
  link_close k i is (m ∷ ms) = stop (λ j. sign Close (k j)) i is m ms (λ j. refl)

  link_up_to : (most : ℕ) (k : K → Felt → Language) (i : K) (is : List K) (ts : List Mark) → run ts (map (λ j. up_to most (k j)) (i ∷ is)) ≡ fin (number_up_to most ts) (λ p. run p.1 (map (λ j. k j p.0) (i ∷ is)))
  unfolding number_up_to number_in
  link_up_to most k i is [] = stop_end (λ j. up_to most (k j)) i is (λ j. refl)
  link_up_to most k i is (Sign t ∷ ms) = stop (λ j. up_to most (k j)) i is (Sign t) ms (λ j. refl)
  link_up_to most k i is (Keyword t ∷ ms) = stop (λ j. up_to most (k j)) i is (Keyword t) ms (λ j. refl)
  link_up_to most k i is (Label t ∷ ms) = stop (λ j. up_to most (k j)) i is (Label t) ms (λ j. refl)
  link_up_to most k i is (Number x ∷ ms) =
      elim (leb x.number most) as (λ t. leb x.number most ≡ t → run (Number x ∷ ms) (map (λ j. up_to most (k j)) (i ∷ is)) ≡ fin (cond t (Ok (x, ms)) (Err (length ms + 1, kind.Range))) (λ (p : Felt × List Mark). run p.1 (map (λ j. k j p.0) (i ∷ is)))) [
        | true ↦ λ e. step (λ j. up_to most (k j)) (λ j. k j x) i is (Number x) ms (λ b j. ap (λ t. when t (k j x)) (in_bound b x.number most e)) (λ j. rw e refl)
        | false ↦ λ e. rw add-one (range (λ j. up_to most (k j)) (λ j. k j x) i is (Number x) ms (λ j. rw e refl) (λ j. refl))
      ] refl

  -- an offset, and what comes after it
  link_offset : (k : K → ℤ → Language) (i : K) (is : List K) (ts : List Mark) → run ts (map (λ j. offset (λ o. sign Close (k j o))) (i ∷ is)) ≡ fin (offset_in ts) (λ p. run p.1 (map (λ j. sign Close (k j p.0)) (i ∷ is)))
  unfolding offset_in after_sign
  link_offset k i is [] = stop_end (λ j. offset (λ o. sign Close (k j o))) i is (λ j. refl) ∙ sym (stop_end (λ j. sign Close (k j (pos 0))) i is (λ j. refl))
  link_offset k i is (Sign Plus ∷ ms) =
      step (λ j. offset (λ o. sign Close (k j o))) (λ j. up_to 32767 (λ n. sign Close (k j (pos n.number)))) i is (Sign Plus) ms (λ b j. refl) (λ j. refl)
      ∙ (link_up_to 32767 (λ j n. sign Close (k j (pos n.number))) i is ms
      ∙ chain (number_up_to 32767 ms) (λ n rest. Ok (pos n.number, rest)) (λ p. run p.1 (map (λ j. sign Close (k j (pos p.0.number))) (i ∷ is))) (λ p. run p.1 (map (λ j. sign Close (k j p.0)) (i ∷ is))) (λ p. refl))
  link_offset k i is (Sign Minus ∷ ms) =
      step (λ j. offset (λ o. sign Close (k j o))) (λ j. up_to 32768 (λ n. sign Close (k j (neg_ℤ (pos n.number))))) i is (Sign Minus) ms (λ b j. refl) (λ j. refl)
      ∙ (link_up_to 32768 (λ j n. sign Close (k j (neg_ℤ (pos n.number)))) i is ms
      ∙ chain (number_up_to 32768 ms) (λ n rest. Ok (neg_ℤ (pos n.number), rest)) (λ p. run p.1 (map (λ j. sign Close (k j (neg_ℤ (pos p.0.number)))) (i ∷ is))) (λ p. run p.1 (map (λ j. sign Close (k j p.0)) (i ∷ is))) (λ p. refl))
  link_offset k i is (Sign Close ∷ ms) =
      step (λ j. offset (λ o. sign Close (k j o))) (λ j. k j (pos 0)) i is (Sign Close) ms (λ b j. refl) (λ j. refl)
      ∙ sym (step (λ j. sign Close (k j (pos 0))) (λ j. k j (pos 0)) i is (Sign Close) ms (λ b j. refl) (λ j. refl))
  link_offset k i is (m ∷ ms) =
      stop (λ j. offset (λ o. sign Close (k j o))) i is m ms (λ j. refl)
      ∙ sym (stop (λ j. sign Close (k j (pos 0))) i is m ms (λ j. refl))

  -- a cell after its bracket
  link_cell : (k : K → Cell → Language) (i : K) (is : List K) (ts : List Mark) → run ts (map (λ j. reg (λ r. offset (λ o. sign Close (k j (record { reg = r; off = o }))))) (i ∷ is)) ≡ fin (rest_of_cell ts) (λ p. run p.1 (map (λ j. k j p.0) (i ∷ is)))
  unfolding rest_of_cell
  link_cell k i is ts =
      link_reg (λ j r. offset (λ o. sign Close (k j (record { reg = r; off = o })))) i is ts
      ∙ chain (reg_in ts) (λ r a. after (offset_in a) (λ o b. skip (expect_sign Close b) (λ c. Ok (record { reg = r; off = o }, c)))) (λ p. run p.1 (map (λ j. offset (λ o. sign Close (k j (record { reg = p.0; off = o })))) (i ∷ is))) (λ p. run p.1 (map (λ j. k j p.0) (i ∷ is)))
      (λ p. link_offset (λ j o. k j (record { reg = p.0; off = o })) i is p.1
      ∙ chain (offset_in p.1) (λ o b. skip (expect_sign Close b) (λ c. Ok (record { reg = p.0; off = o }, c))) (λ q. run q.1 (map (λ j. sign Close (k j (record { reg = p.0; off = q.0 }))) (i ∷ is))) (λ q. run q.1 (map (λ j. k j q.0) (i ∷ is)))
      (λ q. link_close (λ j. k j (record { reg = p.0; off = q.0 })) i is q.1
      ∙ chain_skip (expect_sign Close q.1) (λ c. Ok (record { reg = p.0; off = q.0 }, c)) (λ rest. run rest (map (λ j. k j (record { reg = p.0; off = q.0 })) (i ∷ is))) (λ q. run q.1 (map (λ j. k j q.0) (i ∷ is))) (λ rest. refl)))

-- a cell
link_cell_in : (k : Cell → Language) (ts : List Mark) → run ts (cell k ∷ []) ≡ fin (cell_in ts) (λ p. run p.1 (k p.0 ∷ []))
unfolding cell_in expect_sign after_sign
link_cell_in k [] = refl
link_cell_in k (Sign Open ∷ ms) = link_cell (λ (j : Cell → Language). j) k [] ms
link_cell_in k (m ∷ ms) = refl

-- numbers
link_number : (k : Felt → Language) (ts : List Mark) → run ts (number k ∷ []) ≡ fin (number_in ts) (λ p. run p.1 (k p.0 ∷ []))
unfolding number_in
link_number k [] = refl
link_number k (Number x ∷ ms) = refl
link_number k (m ∷ ms) = refl

link_two_numbers : (k h : Felt → Language) (ts : List Mark) → run ts (number k ∷ number h ∷ []) ≡ fin (number_in ts) (λ p. run p.1 (k p.0 ∷ h p.0 ∷ []))
unfolding number_in
link_two_numbers k h [] = refl
link_two_numbers k h (Number x ∷ ms) = refl
link_two_numbers k h (m ∷ ms) = refl

link_imm : (k : Felt → Language) (ts : List Mark) → run ts (imm k ∷ []) ≡ fin (imm_in ts) (λ p. run p.1 (k p.0 ∷ []))
unfolding imm_in number_in after_sign
link_imm k [] = refl
link_imm k (Sign Minus ∷ ms) =
    link_number (λ x. k (negative x)) ms
    ∙ chain (number_in ms) (λ x rest. Ok (negative x, rest)) (λ p. run p.1 (k (negative p.0) ∷ [])) (λ p. run p.1 (k p.0 ∷ [])) (λ p. refl)
link_imm k (Number x ∷ ms) = refl
link_imm k (m ∷ ms) = refl

link_two_imms : (k h : Felt → Language) (ts : List Mark) → run ts (imm k ∷ imm h ∷ []) ≡ fin (imm_in ts) (λ p. run p.1 (k p.0 ∷ h p.0 ∷ []))
unfolding imm_in number_in after_sign
link_two_imms k h [] = refl
link_two_imms k h (Sign Minus ∷ ms) =
    link_two_numbers (λ x. k (negative x)) (λ x. h (negative x)) ms
    ∙ chain (number_in ms) (λ x rest. Ok (negative x, rest)) (λ p. run p.1 (k (negative p.0) ∷ h (negative p.0) ∷ [])) (λ p. run p.1 (k p.0 ∷ h p.0 ∷ [])) (λ p. refl)
link_two_imms k h (Number x ∷ ms) = refl
link_two_imms k h (m ∷ ms) = refl

-- terms
link_term_imm : (k : Term → Language) (ts : List Mark) → run ts (imm (λ x. k (term_is.Imm x)) ∷ []) ≡ fin {A = Term × List Mark} (after (imm_in ts) (λ x rest. Ok (term_is.Imm x, rest))) (λ p. run p.1 (k p.0 ∷ []))
link_term_imm k ts =
    link_imm (λ x. k (term_is.Imm x)) ts
    ∙ chain (imm_in ts) (λ x rest. Ok (term_is.Imm x, rest)) (λ p. run p.1 (k (term_is.Imm p.0) ∷ [])) (λ p. run p.1 (k p.0 ∷ [])) (λ p. refl)

link_term : (k : Term → Language) (ts : List Mark) → run ts (term k ∷ []) ≡ fin (term_in ts) (λ p. run p.1 (k p.0 ∷ []))
unfolding term_in after_sign
link_term k [] = link_term_imm k []
link_term k (Sign Open ∷ ms) =
    link_cell (λ (j : Cell → Language). j) (λ c. k (term_is.Cell c)) [] ms
    ∙ chain (rest_of_cell ms) (λ c rest. Ok (term_is.Cell c, rest)) (λ p. run p.1 (k (term_is.Cell p.0) ∷ [])) (λ p. run p.1 (k p.0 ∷ [])) (λ p. refl)
link_term k (m ∷ ms) = link_term_imm k (m ∷ ms)

-- a language that has no operator first
record IsQuiet (l : Language) : Type 0 where
  plus : (b : Bounds) → next b (Sign Plus) l ≡ []
  times : (b : Bounds) → next b (Sign Times) l ≡ []
  minus : (b : Bounds) → next b (Sign Minus) l ≡ []

-- what may follow an operand that is a term too, where a branch may follow
abbrev extra_by : Option (Term → Language) → Option Term → List Language
extra_by e None = []
extra_by None (Some t) = []
extra_by (Some w) (Some t) = w t ∷ []

abbrev extra : Option (Term → Language) → Operand → List Language
extra e o = extra_by e (as_term o)

abbrev extra_imm : Option (Term → Language) → List Language
extra_imm None = []
extra_imm (Some w) = imm (λ x. w (term_is.Imm x)) ∷ []

abbrev AreQuiet : Option (Term → Language) → Type 0
AreQuiet None = Unit {0}
AreQuiet (Some w) = (t : Term) → IsQuiet (w t)

-- what follows a cell in an operand
module _ (k : Operand → Language) (quiet : (o : Operand) → IsQuiet (k o)) where
  abbrev followers : Option (Term → Language) → Cell → List Language
  followers e c = k (Deref c) ∷ sign Plus (term (λ t. k (Sum c t))) ∷ sign Times (term (λ t. k (Product c t))) ∷ sign Minus (number (λ x. k (Sum c (term_is.Imm (negative x))))) ∷ extra e (Deref c)

  quiet_plus : (e : Option (Term → Language)) → AreQuiet e → (c : Cell) (b : Bounds) → nexts b (Sign Plus) (followers e c) ≡ term (λ t. k (Sum c t)) ∷ []
  quiet_plus None q c b = rw (quiet (Deref c)).plus refl
  quiet_plus (Some w) q c b = rw ((quiet (Deref c)).plus, (q (term_is.Cell c)).plus) refl

  quiet_times : (e : Option (Term → Language)) → AreQuiet e → (c : Cell) (b : Bounds) → nexts b (Sign Times) (followers e c) ≡ term (λ t. k (Product c t)) ∷ []
  quiet_times None q c b = rw (quiet (Deref c)).times refl
  quiet_times (Some w) q c b = rw ((quiet (Deref c)).times, (q (term_is.Cell c)).times) refl

  quiet_minus : (e : Option (Term → Language)) → AreQuiet e → (c : Cell) (b : Bounds) → nexts b (Sign Minus) (followers e c) ≡ number (λ x. k (Sum c (term_is.Imm (negative x)))) ∷ []
  quiet_minus None q c b = rw (quiet (Deref c)).minus refl
  quiet_minus (Some w) q c b = rw ((quiet (Deref c)).minus, (q (term_is.Cell c)).minus) refl

  follows_plus : (e : Option (Term → Language)) → AreQuiet e → (c : Cell) (ms : List Mark) → run (Sign Plus ∷ ms) (followers e c) ≡ fin {A = Operand × List Mark} (after (term_in ms) (λ t rest. Ok (Sum c t, rest))) (λ p. run p.1 (k p.0 ∷ extra e p.0))
  follows_plus e q c ms =
      take (Sign Plus) ms (followers e c) (term (λ t. k (Sum c t))) [] (quiet_plus e q c) (beyonds_sign Plus (followers e c))
      ∙ (link_term (λ t. k (Sum c t)) ms
      ∙ chain (term_in ms) (λ t rest. Ok (Sum c t, rest)) (λ p. run p.1 (k (Sum c p.0) ∷ [])) (λ p. run p.1 (k p.0 ∷ extra e p.0)) (λ p. refl))

  follows_times : (e : Option (Term → Language)) → AreQuiet e → (c : Cell) (ms : List Mark) → run (Sign Times ∷ ms) (followers e c) ≡ fin {A = Operand × List Mark} (after (term_in ms) (λ t rest. Ok (Product c t, rest))) (λ p. run p.1 (k p.0 ∷ extra e p.0))
  follows_times e q c ms =
      take (Sign Times) ms (followers e c) (term (λ t. k (Product c t))) [] (quiet_times e q c) (beyonds_sign Times (followers e c))
      ∙ (link_term (λ t. k (Product c t)) ms
      ∙ chain (term_in ms) (λ t rest. Ok (Product c t, rest)) (λ p. run p.1 (k (Product c p.0) ∷ [])) (λ p. run p.1 (k p.0 ∷ extra e p.0)) (λ p. refl))

  follows_minus : (e : Option (Term → Language)) → AreQuiet e → (c : Cell) (ms : List Mark) → run (Sign Minus ∷ ms) (followers e c) ≡ fin {A = Operand × List Mark} (after (number_in ms) (λ x rest. Ok (Sum c (term_is.Imm (negative x)), rest))) (λ p. run p.1 (k p.0 ∷ extra e p.0))
  follows_minus e q c ms =
      take (Sign Minus) ms (followers e c) (number (λ x. k (Sum c (term_is.Imm (negative x))))) [] (quiet_minus e q c) (beyonds_sign Minus (followers e c))
      ∙ (link_number (λ x. k (Sum c (term_is.Imm (negative x)))) ms
      ∙ chain (number_in ms) (λ x rest. Ok (Sum c (term_is.Imm (negative x)), rest)) (λ p. run p.1 (k (Sum c (term_is.Imm (negative p.0))) ∷ [])) (λ p. run p.1 (k p.0 ∷ extra e p.0)) (λ p. refl))

  link_after_cell : (e : Option (Term → Language)) → AreQuiet e → (c : Cell) (ts : List Mark) → run ts (followers e c) ≡ fin (after_cell c ts) (λ p. run p.1 (k p.0 ∷ extra e p.0))
  unfolding after_cell after_sign
  link_after_cell e q c [] = refl
  link_after_cell e q c (Sign Plus ∷ ms) = follows_plus e q c ms
  link_after_cell e q c (Sign Times ∷ ms) = follows_times e q c ms
  link_after_cell e q c (Sign Minus ∷ ms) = follows_minus e q c ms
  link_after_cell e q c (m ∷ ms) = refl

  -- the languages of an operand after its first bracket, where no double is meant
  abbrev cells : Option (Term → Language) → List (Cell → Language)
  cells None = (λ c. k (Deref c)) ∷ (λ c. sign Plus (term (λ t. k (Sum c t)))) ∷ (λ c. sign Times (term (λ t. k (Product c t)))) ∷ (λ c. sign Minus (number (λ x. k (Sum c (term_is.Imm (negative x)))))) ∷ []
  cells (Some w) = (λ c. k (Deref c)) ∷ (λ c. sign Plus (term (λ t. k (Sum c t)))) ∷ (λ c. sign Times (term (λ t. k (Product c t)))) ∷ (λ c. sign Minus (number (λ x. k (Sum c (term_is.Imm (negative x)))))) ∷ (λ c. w (term_is.Cell c)) ∷ []

  abbrev inner : (Cell → Language) → Language
  inner f = reg (λ r. offset (λ o. sign Close (f (record { reg = r; off = o }))))

  link_cells : (e : Option (Term → Language)) → AreQuiet e → (ts : List Mark) → run ts (map inner (cells e)) ≡ fin {A = Operand × List Mark} (after (rest_of_cell ts) (λ c a. after_cell c a)) (λ p. run p.1 (k p.0 ∷ extra e p.0))
  link_cells None q ts =
      link_cell (λ (f : Cell → Language). f) (λ c. k (Deref c)) ((λ c. sign Plus (term (λ t. k (Sum c t)))) ∷ (λ c. sign Times (term (λ t. k (Product c t)))) ∷ (λ c. sign Minus (number (λ x. k (Sum c (term_is.Imm (negative x)))))) ∷ []) ts
      ∙ chain (rest_of_cell ts) (λ c a. after_cell c a) (λ p. run p.1 (followers None p.0)) (λ p. run p.1 (k p.0 ∷ extra None p.0)) (λ p. link_after_cell None q p.0 p.1)
  link_cells (Some w) q ts =
      link_cell (λ (f : Cell → Language). f) (λ c. k (Deref c)) ((λ c. sign Plus (term (λ t. k (Sum c t)))) ∷ (λ c. sign Times (term (λ t. k (Product c t)))) ∷ (λ c. sign Minus (number (λ x. k (Sum c (term_is.Imm (negative x)))))) ∷ (λ c. w (term_is.Cell c)) ∷ []) ts
      ∙ chain (rest_of_cell ts) (λ c a. after_cell c a) (λ p. run p.1 (followers (Some w) p.0)) (λ p. run p.1 (k p.0 ∷ extra (Some w) p.0)) (λ p. link_after_cell (Some w) q p.0 p.1)

  -- a double after its two brackets
  link_double : (e : Option (Term → Language)) (ts : List Mark) → run ts (inner (λ c. offset (λ o. sign Close (k (Double c o)))) ∷ []) ≡ fin (rest_of_double ts) (λ p. run p.1 (k p.0 ∷ extra e p.0))
  unfolding rest_of_double
  link_double e ts =
      link_cell (λ (f : Cell → Language). f) (λ c. offset (λ o. sign Close (k (Double c o)))) [] ts
      ∙ chain (rest_of_cell ts) (λ r a. after (offset_in a) (λ o b. skip (expect_sign Close b) (λ c. Ok (Double r o, c)))) (λ p. run p.1 (offset (λ o. sign Close (k (Double p.0 o))) ∷ [])) (λ p. run p.1 (k p.0 ∷ extra e p.0))
      (λ p. link_offset (λ (f : ℤ → Language). f) (λ o. k (Double p.0 o)) [] p.1
      ∙ chain (offset_in p.1) (λ o b. skip (expect_sign Close b) (λ c. Ok (Double p.0 o, c))) (λ q. run q.1 (sign Close (k (Double p.0 q.0)) ∷ [])) (λ p. run p.1 (k p.0 ∷ extra e p.0))
      (λ q. link_close (λ (l : Language). l) (k (Double p.0 q.0)) [] q.1
      ∙ chain_skip (expect_sign Close q.1) (λ c. Ok (Double p.0 q.0, c)) (λ rest. run rest (k (Double p.0 q.0) ∷ [])) (λ p. run p.1 (k p.0 ∷ extra e p.0)) (λ rest. refl)))

  -- an operand after its first bracket
  abbrev bracketed : Option (Term → Language) → List Language
  bracketed None = inner (λ c. k (Deref c)) ∷ cell (λ c. offset (λ o. sign Close (k (Double c o)))) ∷ inner (λ c. sign Plus (term (λ t. k (Sum c t)))) ∷ inner (λ c. sign Times (term (λ t. k (Product c t)))) ∷ inner (λ c. sign Minus (number (λ x. k (Sum c (term_is.Imm (negative x)))))) ∷ []
  bracketed (Some w) = inner (λ c. k (Deref c)) ∷ cell (λ c. offset (λ o. sign Close (k (Double c o)))) ∷ inner (λ c. sign Plus (term (λ t. k (Sum c t)))) ∷ inner (λ c. sign Times (term (λ t. k (Product c t)))) ∷ inner (λ c. sign Minus (number (λ x. k (Sum c (term_is.Imm (negative x)))))) ∷ inner (λ c. w (term_is.Cell c)) ∷ []

  link_bracket : (e : Option (Term → Language)) → AreQuiet e → (ts : List Mark) → run ts (bracketed e) ≡ fin (bracket_in ts) (λ p. run p.1 (k p.0 ∷ extra e p.0))
  unfolding bracket_in after_sign
  link_bracket None q [] = link_cells None q []
  link_bracket None q (Sign Open ∷ ms) = link_double None ms
  link_bracket None q (m ∷ ms) = link_cells None q (m ∷ ms)
  link_bracket (Some w) q [] = link_cells (Some w) q []
  link_bracket (Some w) q (Sign Open ∷ ms) = link_double (Some w) ms
  link_bracket (Some w) q (m ∷ ms) = link_cells (Some w) q (m ∷ ms)

  -- an operand, where a branch may follow too
  abbrev operands : Option (Term → Language) → List Language
  operands None = res k ∷ []
  operands (Some w) = res k ∷ term w ∷ []

  link_imms : (e : Option (Term → Language)) (ts : List Mark) → run ts (imm (λ x. k (Imm x)) ∷ extra_imm e) ≡ fin {A = Operand × List Mark} (after (imm_in ts) (λ x rest. Ok (Imm x, rest))) (λ p. run p.1 (k p.0 ∷ extra e p.0))
  link_imms None ts =
      link_imm (λ x. k (Imm x)) ts
      ∙ chain (imm_in ts) (λ x rest. Ok (Imm x, rest)) (λ p. run p.1 (k (Imm p.0) ∷ [])) (λ p. run p.1 (k p.0 ∷ extra None p.0)) (λ p. refl)
  link_imms (Some w) ts =
      link_two_imms (λ x. k (Imm x)) (λ x. w (term_is.Imm x)) ts
      ∙ chain (imm_in ts) (λ x rest. Ok (Imm x, rest)) (λ p. run p.1 (k (Imm p.0) ∷ w (term_is.Imm p.0) ∷ [])) (λ p. run p.1 (k p.0 ∷ extra (Some w) p.0)) (λ p. refl)

  link_res : (e : Option (Term → Language)) → AreQuiet e → (ts : List Mark) → run ts (operands e) ≡ fin (res_in ts) (λ p. run p.1 (k p.0 ∷ extra e p.0))
  unfolding res_in after_sign
  link_res None q [] = link_imms None []
  link_res None q (Sign Open ∷ ms) = link_bracket None q ms
  link_res None q (m ∷ ms) = link_imms None (m ∷ ms)
  link_res (Some w) q [] = link_imms (Some w) []
  link_res (Some w) q (Sign Open ∷ ms) = link_bracket (Some w) q ms
  link_res (Some w) q (m ∷ ms) = link_imms (Some w) (m ∷ ms)

-- the ends of lines
link_nothing : (v : List Body) (ts : List Mark) → run ts (ended v ∷ []) ≡ fin (nothing_in ts) (λ _. Done v)
unfolding nothing_in
link_nothing v [] = refl
link_nothing v (m ∷ ms) = refl

link_end : (v : List Body) (ts : List Mark) → run ts (end (λ _. ended v) ∷ []) ≡ fin (end_in ts) (λ _. Done v)
unfolding end_in nothing_in after_sign
link_end v [] = refl
link_end v (Sign Semicolon ∷ ms) = link_nothing v ms
link_end v (m ∷ ms) = refl

link_increment : (g : Bool → List Body) (ts : List Mark) → run ts (sign Increment (end (λ _. ended (g true))) ∷ []) ≡ fin (increment_in ts) (λ i. Done (g i))
unfolding increment_in expect_sign after_sign
link_increment g [] = refl
link_increment g (Sign Increment ∷ ms) = link_end (g true) ms ∙ chain_making (end_in ms) (λ _. true) (λ i. Done (g i))
link_increment g (m ∷ ms) = refl

link_inc : (g : Bool → List Body) (ts : List Mark) → run ts (inc (λ i. ended (g i)) ∷ []) ≡ fin (inc_in ts) (λ i. Done (g i))
unfolding inc_in nothing_in after_sign after_word expect_word
link_inc g [] = refl
link_inc g (Sign Semicolon ∷ []) = refl
link_inc g (Sign Semicolon ∷ Keyword reserved.Ap ∷ ms) = link_increment g ms
link_inc g (Sign Semicolon ∷ m ∷ ms) = refl
link_inc g (Sign Comma ∷ []) = refl
link_inc g (Sign Comma ∷ Keyword reserved.Ap ∷ ms) = link_increment g ms
link_inc g (Sign Comma ∷ m ∷ ms) = refl
link_inc g (m ∷ ms) = refl

-- a condition
link_zero : (l : Language) (ts : List Mark) → run ts (zero l ∷ []) ≡ fin (zero_in ts) (λ rest. run rest (l ∷ []))
unfolding zero_in number_in
link_zero l [] = refl
link_zero l (Number x ∷ ms) =
    elim (eqb x.number 0) as (λ t. eqb x.number 0 ≡ t → run (Number x ∷ ms) (zero l ∷ []) ≡ fin (cond t (Ok ms) (Err (length ms + 1, kind.Token))) (λ (rest : List Mark). run rest (l ∷ []))) [
      | true ↦ λ e. take (Number x) ms (zero l ∷ []) l [] (λ b. rw e refl) refl
      | false ↦ λ e. rw add-one (advance-stops (beyonds (Number x) (zero l ∷ [])) (nexts Kept (Number x) (zero l ∷ [])) (nexts Lifted (Number x) (zero l ∷ [])) (suc (length ms)) (run ms (nexts Kept (Number x) (zero l ∷ []))) (rw e refl))
    ] refl
link_zero l (m ∷ ms) = refl

link_not_zero : (l : Language) (ts : List Mark) → run ts (sign NotEqual (zero l) ∷ []) ≡ fin (skip (expect_sign NotEqual ts) (λ a. zero_in a)) (λ rest. run rest (l ∷ []))
unfolding expect_sign after_sign
link_not_zero l [] = refl
link_not_zero l (Sign NotEqual ∷ ms) = link_zero l ms
link_not_zero l (m ∷ ms) = refl

skip_skip : {A : Type 0} (x : Result (List Mark) Refusal) (F : List Mark → Result (List Mark) Refusal) (G : List Mark → Result A Refusal) (g : A → Outcome) (f : List Mark → Outcome) → ((rest : List Mark) → f rest ≡ fin (G rest) g) → fin (skip x F) f ≡ fin (skip x (λ a. skip (F a) G)) g
skip_skip (Ok a) F G g f h = chain_skip (F a) G f g h
skip_skip (Err e) F G g f h = refl

link_condition : (k : Cell → Language) (ts : List Mark) → run ts (cell (λ c. sign NotEqual (zero (k c))) ∷ []) ≡ fin (condition_in ts) (λ p. run p.1 (k p.0 ∷ []))
unfolding condition_in
link_condition k ts =
    link_cell_in (λ c. sign NotEqual (zero (k c))) ts
    ∙ chain (cell_in ts) (λ c a. skip (expect_sign NotEqual a) (λ b. skip (zero_in b) (λ d. Ok (c, d)))) (λ p. run p.1 (sign NotEqual (zero (k p.0)) ∷ [])) (λ p. run p.1 (k p.0 ∷ []))
    (λ p. link_not_zero (k p.0) p.1
    ∙ skip_skip (expect_sign NotEqual p.1) (λ b. zero_in b) (λ d. Ok (p.0, d)) (λ (q : Cell × List Mark). run q.1 (k q.0 ∷ [])) (λ rest. run rest (k p.0 ∷ [])) (λ rest. refl))

-- the item after those that are there already
abbrev more : List Body → Body → List Body
more v b = v ++ b ∷ []

quiet_inc : (g : Operand → Bool → List Body) (o : Operand) → IsQuiet (inc (λ i. ended (g o i)))
quiet_inc g o = record { plus = λ b. refl; times = λ b. refl; minus = λ b. refl }

quiet_end : (g : Operand → List Body) (o : Operand) → IsQuiet (end (λ _. ended (g o)))
quiet_end g o = record { plus = λ b. refl; times = λ b. refl; minus = λ b. refl }

-- a statement's end, with what it says
finish_inc : (v : List Body) (f : Bool → Body) (ts : List Mark) → run ts (inc (λ i. ended (more v (f i))) ∷ []) ≡ fin (making f (inc_in ts)) (λ s. Done (more v s))
finish_inc v f ts = link_inc (λ i. more v (f i)) ts ∙ chain_making (inc_in ts) f (λ s. Done (more v s))

finish_end : (v : List Body) (s : Body) (ts : List Mark) → run ts (end (λ _. ended (more v s)) ∷ []) ≡ fin (making (λ _. s) (end_in ts)) (λ s. Done (more v s))
finish_end v s ts = link_end (more v s) ts ∙ chain_making (end_in ts) (λ _. s) (λ s. Done (more v s))

-- an operand and the end, and what is said of it
link_res_inc : (v : List Body) (f : Operand → Bool → Body) (ts : List Mark) → run ts (res (λ r. inc (λ i. ended (more v (f r i)))) ∷ []) ≡ fin (after (res_in ts) (λ r a. making (f r) (inc_in a))) (λ s. Done (more v s))
link_res_inc v f ts =
    link_res (λ r. inc (λ i. ended (more v (f r i)))) (quiet_inc (λ r i. more v (f r i))) None tt ts
    ∙ chain (res_in ts) (λ r a. making (f r) (inc_in a)) (λ p. run p.1 (inc (λ i. ended (more v (f p.0 i))) ∷ extra None p.0)) (λ s. Done (more v s)) (λ p. no_extra p.0 p.1 ∙ finish_inc v (f p.0) p.1)
  where
    no_extra_by : (o : Option Term) (l : Language) (a : List Mark) → run a (l ∷ extra_by None o) ≡ run a (l ∷ [])
    no_extra_by None l a = refl
    no_extra_by (Some t) l a = refl

    no_extra : (r : Operand) (a : List Mark) → run a (inc (λ i. ended (more v (f r i))) ∷ extra None r) ≡ run a (inc (λ i. ended (more v (f r i))) ∷ [])
    no_extra r a = no_extra_by (as_term r) (inc (λ i. ended (more v (f r i)))) a

link_res_end : (v : List Body) (f : Operand → Body) (ts : List Mark) → run ts (res (λ r. end (λ _. ended (more v (f r)))) ∷ []) ≡ fin (after (res_in ts) (λ r a. making (λ _. f r) (end_in a))) (λ s. Done (more v s))
link_res_end v f ts =
    link_res (λ r. end (λ _. ended (more v (f r)))) (quiet_end (λ r. more v (f r))) None tt ts
    ∙ chain (res_in ts) (λ r a. making (λ _. f r) (end_in a)) (λ p. run p.1 (end (λ _. ended (more v (f p.0))) ∷ extra None p.0)) (λ s. Done (more v s)) (λ p. no_extra p.0 p.1 ∙ finish_end v (f p.0) p.1)
  where
    no_extra_by : (o : Option Term) (l : Language) (a : List Mark) → run a (l ∷ extra_by None o) ≡ run a (l ∷ [])
    no_extra_by None l a = refl
    no_extra_by (Some t) l a = refl

    no_extra : (r : Operand) (a : List Mark) → run a (end (λ _. ended (more v (f r))) ∷ extra None r) ≡ run a (end (λ _. ended (more v (f r))) ∷ [])
    no_extra r a = no_extra_by (as_term r) (end (λ _. ended (more v (f r)))) a

-- a cell after its bracket
abbrev inner_cell : (Cell → Language) → Language
inner_cell f = reg (λ r. offset (λ o. sign Close (f (record { reg = r; off = o }))))

-- an assertion after its first bracket
link_equal : (v : List Body) (dst : Cell) (ts : List Mark) → run ts (sign Equal (res (λ r. inc (λ i. ended (more v (body.Stmt (Assert dst r i)))))) ∷ []) ≡ fin (skip (expect_sign Equal ts) (λ b. after (res_in b) (λ r c. making (λ i. body.Stmt (Assert dst r i)) (inc_in c)))) (λ s. Done (more v s))
unfolding expect_sign after_sign
link_equal v dst [] = refl
link_equal v dst (Sign Equal ∷ ms) = link_res_inc v (λ r i. body.Stmt (Assert dst r i)) ms
link_equal v dst (m ∷ ms) = refl

abbrev assert_after : List Body → Cell → Language
assert_after v dst = sign Equal (res (λ r. inc (λ i. ended (more v (body.Stmt (Assert dst r i))))))

link_assert : (v : List Body) (ts : List Mark) → run ts (inner_cell (assert_after v) ∷ []) ≡ fin (assert_in ts) (λ s. Done (more v s))
unfolding assert_in
link_assert v ts =
    link_cell (λ (f : Cell → Language). f) (assert_after v) [] ts
    ∙ chain (rest_of_cell ts) (λ dst a. skip (expect_sign Equal a) (λ b. after (res_in b) (λ r c. making (λ i. body.Stmt (Assert dst r i)) (inc_in c)))) (λ p. run p.1 (assert_after v p.0 ∷ [])) (λ s. Done (more v s)) (λ p. link_equal v p.0 p.1)

-- jumps by `rel`, and branches
abbrev branch_after : List Body → Term → Language
branch_after v t = condition (λ c. inc (λ i. ended (more v (body.Stmt (Branch c t i)))))

abbrev jump_after : List Body → Bool → Operand → Language
jump_after v abs r = inc (λ i. ended (more v (body.Stmt (Jump abs r i))))

quiet_branch : (v : List Body) (t : Term) → IsQuiet (branch_after v t)
quiet_branch v t = record { plus = λ b. refl; times = λ b. refl; minus = λ b. refl }

link_branch_on : (v : List Body) (t : Term) (ts : List Mark) → run ts (cell (λ c. sign NotEqual (zero (inc (λ i. ended (more v (body.Stmt (Branch c t i))))))) ∷ []) ≡ fin (branch_on t ts) (λ s. Done (more v s))
unfolding branch_on
link_branch_on v t ts =
    link_condition (λ c. inc (λ i. ended (more v (body.Stmt (Branch c t i))))) ts
    ∙ chain (condition_in ts) (λ c a. making (λ i. body.Stmt (Branch c t i)) (inc_in a)) (λ p. run p.1 (inc (λ i. ended (more v (body.Stmt (Branch p.0 t i)))) ∷ [])) (λ s. Done (more v s)) (λ p. finish_inc v (λ i. body.Stmt (Branch p.0 t i)) p.1)

link_jump_on : (v : List Body) (abs : Bool) (r : Operand) (ts : List Mark) → run ts (jump_after v abs r ∷ []) ≡ fin (jump_on abs r ts) (λ s. Done (more v s))
unfolding jump_on
link_jump_on v abs r ts = finish_inc v (λ i. body.Stmt (Jump abs r i)) ts

link_jump_rel_by : (v : List Body) (o : Option Term) (r : Operand) (ts : List Mark) → run ts (jump_after v false r ∷ extra_by (Some (branch_after v)) o) ≡ fin (jump_rel_by o r ts) (λ s. Done (more v s))
unfolding after_word
link_jump_rel_by v None r ts = link_jump_on v false r ts
link_jump_rel_by v (Some t) r [] = link_jump_on v false r []
link_jump_rel_by v (Some t) r (Keyword reserved.If ∷ ms) = link_branch_on v t ms
link_jump_rel_by v (Some t) r (m ∷ ms) = link_jump_on v false r (m ∷ ms)

link_jump_rel : (v : List Body) (ts : List Mark) → run ts (res (jump_after v false) ∷ term (branch_after v) ∷ []) ≡ fin (jump_rel_in ts) (λ s. Done (more v s))
unfolding jump_rel_in
link_jump_rel v ts =
    link_res (jump_after v false) (quiet_inc (λ r i. more v (body.Stmt (Jump false r i)))) (Some (branch_after v)) (quiet_branch v) ts
    ∙ chain (res_in ts) (λ r a. jump_rel_by (as_term r) r a) (λ p. run p.1 (jump_after v false p.0 ∷ extra (Some (branch_after v)) p.0)) (λ s. Done (more v s)) (λ p. link_jump_rel_by v (as_term p.0) p.0 p.1)

link_jump_abs : (v : List Body) (ts : List Mark) → run ts (res (jump_after v true) ∷ []) ≡ fin (jump_abs_in ts) (λ s. Done (more v s))
unfolding jump_abs_in jump_on
link_jump_abs v ts = link_res_inc v (λ r i. body.Stmt (Jump true r i)) ts

-- jumps to labels
abbrev branch_to : List Body → List ℕ → Language
branch_to v n = condition (λ c. inc (λ i. ended (more v (body.BranchTo c n i))))

abbrev jump_to : List Body → List ℕ → Language
jump_to v n = inc (λ i. ended (more v (body.JumpTo n i)))

link_branch_to : (v : List Body) (n : List ℕ) (ts : List Mark) → run ts (cell (λ c. sign NotEqual (zero (inc (λ i. ended (more v (body.BranchTo c n i)))))) ∷ []) ≡ fin (after (condition_in ts) (λ c d. making (λ i. body.BranchTo c n i) (inc_in d))) (λ s. Done (more v s))
link_branch_to v n ts =
    link_condition (λ c. inc (λ i. ended (more v (body.BranchTo c n i)))) ts
    ∙ chain (condition_in ts) (λ c a. making (λ i. body.BranchTo c n i) (inc_in a)) (λ p. run p.1 (inc (λ i. ended (more v (body.BranchTo p.0 n i))) ∷ [])) (λ s. Done (more v s)) (λ p. finish_inc v (λ i. body.BranchTo p.0 n i) p.1)

link_after_name : (v : List Body) (n : List ℕ) (ts : List Mark) → run ts (jump_to v n ∷ branch_to v n ∷ []) ≡ fin (choose (after_word reserved.If ts) (λ b. after (condition_in b) (λ c d. making (λ i. body.BranchTo c n i) (inc_in d))) (making (λ i. body.JumpTo n i) (inc_in ts))) (λ s. Done (more v s))
unfolding after_word
link_after_name v n [] = finish_inc v (λ i. body.JumpTo n i) []
link_after_name v n (Keyword reserved.If ∷ ms) = link_branch_to v n ms
link_after_name v n (m ∷ ms) = finish_inc v (λ i. body.JumpTo n i) (m ∷ ms)

link_jump_to : (v : List Body) (ts : List Mark) → run ts (label (jump_to v) ∷ label (branch_to v) ∷ []) ≡ fin (jump_to_in ts) (λ s. Done (more v s))
unfolding jump_to_in label_in
link_jump_to v [] = refl
link_jump_to v (Label n ∷ ms) = link_after_name v n ms
link_jump_to v (m ∷ ms) = refl

link_jump : (v : List Body) (ts : List Mark) → run ts (way (λ abs. res (jump_after v abs)) ∷ word reserved.Rel (term (branch_after v)) ∷ label (jump_to v) ∷ label (branch_to v) ∷ []) ≡ fin (jump_in ts) (λ s. Done (more v s))
unfolding jump_in after_word
link_jump v [] = link_jump_to v []
link_jump v (Keyword reserved.Rel ∷ ms) = link_jump_rel v ms
link_jump v (Keyword reserved.Abs ∷ ms) = link_jump_abs v ms
link_jump v (m ∷ ms) = link_jump_to v (m ∷ ms)

-- calls
abbrev call_after : List Body → Bool → Term → Language
call_after v abs t = end (λ _. ended (more v (body.Stmt (Call abs t))))

link_call_on : (v : List Body) (abs : Bool) (ts : List Mark) → run ts (term (call_after v abs) ∷ []) ≡ fin (call_on abs ts) (λ s. Done (more v s))
unfolding call_on
link_call_on v abs ts =
    link_term (call_after v abs) ts
    ∙ chain (term_in ts) (λ t a. making (λ _. body.Stmt (Call abs t)) (end_in a)) (λ p. run p.1 (call_after v abs p.0 ∷ [])) (λ s. Done (more v s)) (λ p. finish_end v (body.Stmt (Call abs p.0)) p.1)

abbrev call_to : List Body → List ℕ → Language
call_to v n = end (λ _. ended (more v (body.CallTo n)))

link_call_to : (v : List Body) (ts : List Mark) → run ts (label (call_to v) ∷ []) ≡ fin (after (label_in ts) (λ n a. making (λ _. body.CallTo n) (end_in a))) (λ s. Done (more v s))
unfolding label_in
link_call_to v [] = refl
link_call_to v (Label n ∷ ms) = finish_end v (body.CallTo n) ms
link_call_to v (m ∷ ms) = refl

link_call : (v : List Body) (ts : List Mark) → run ts (way (λ abs. term (call_after v abs)) ∷ label (call_to v) ∷ []) ≡ fin (call_in ts) (λ s. Done (more v s))
unfolding call_in after_word
link_call v [] = link_call_to v []
link_call v (Keyword reserved.Rel ∷ ms) = link_call_on v false ms
link_call v (Keyword reserved.Abs ∷ ms) = link_call_on v true ms
link_call v (m ∷ ms) = link_call_to v (m ∷ ms)

-- `ap +=` and `dw`
link_add_ap : (v : List Body) (ts : List Mark) → run ts (sign AddTo (res (λ r. end (λ _. ended (more v (body.Stmt (AddAp r)))))) ∷ []) ≡ fin (add_ap_in ts) (λ s. Done (more v s))
unfolding add_ap_in expect_sign after_sign
link_add_ap v [] = refl
link_add_ap v (Sign AddTo ∷ ms) = link_res_end v (λ r. body.Stmt (AddAp r)) ms
link_add_ap v (m ∷ ms) = refl

link_dw : (v : List Body) (ts : List Mark) → run ts (imm (λ x. end (λ _. ended (more v (body.Dw x)))) ∷ []) ≡ fin (dw_in ts) (λ s. Done (more v s))
unfolding dw_in
link_dw v ts =
    link_imm (λ x. end (λ _. ended (more v (body.Dw x)))) ts
    ∙ chain (imm_in ts) (λ x a. making (λ _. body.Dw x) (end_in a)) (λ p. run p.1 (end (λ _. ended (more v (body.Dw p.0))) ∷ [])) (λ s. Done (more v s)) (λ p. finish_end v (body.Dw p.0) p.1)

-- a statement, or nothing
abbrev stmt_after : List Body → Language
stmt_after v = stmt (λ s. ended (more v s))

link_stmt : (v : List Body) (m : Mark) (ms : List Mark) → run (m ∷ ms) (stmt_after v ∷ []) ≡ fin (stmt_in (m ∷ ms)) (λ s. Done (more v s))
unfolding stmt_in after_sign after_word
link_stmt v (Sign Open) ms = link_assert v ms
link_stmt v (Keyword reserved.Jmp) ms = link_jump v ms
link_stmt v (Keyword reserved.Call) ms = link_call v ms
link_stmt v (Keyword reserved.Ret) ms = finish_end v (body.Stmt Ret) ms
link_stmt v (Keyword reserved.Ap) ms = link_add_ap v ms
link_stmt v (Keyword reserved.Dw) ms = link_dw v ms
link_stmt v m ms = refl

-- the directives, after `%`
abbrev alone : (Body → List Body)
alone d = d ∷ []

link_range_word : (g : Bool → List Body) (ts : List Mark) → run ts (given the.RangeCheck (λ r. ended (g r)) ∷ []) ≡ fin (nothing_in (given_in the.RangeCheck ts).1) (λ _. Done (g (given_in the.RangeCheck ts).0))
unfolding given_in after_directive nothing_in
link_range_word g [] = refl
link_range_word g (Sign t ∷ ms) = refl
link_range_word g (Keyword t ∷ ms) = refl
link_range_word g (Number x ∷ ms) = refl
link_range_word g (Label text ∷ ms) = by_word (directive_word text) refl
  where
    by_word : (o : Option Directive) → directive_word text ≡ o → run (Label text ∷ ms) (given the.RangeCheck (λ r. ended (g r)) ∷ []) ≡ fin (nothing_in (given_in the.RangeCheck (Label text ∷ ms)).1) (λ _. Done (g (given_in the.RangeCheck (Label text ∷ ms)).0))
    by_word None e = rw e refl
    by_word (Some the.Builtins) e = rw e refl
    by_word (Some the.Output) e = rw e refl
    by_word (Some the.RangeCheck) e = rw e (link_nothing (g true) ms)
    by_word (Some the.Start) e = rw e refl
    by_word (Some the.End) e = rw e refl

abbrev builtins_of : Bool → Bool → List Body
builtins_of o r = alone (body.Builtins o r)

link_builtins : (ts : List Mark) → run ts (given the.Output (λ o. given the.RangeCheck (λ r. ended (builtins_of o r))) ∷ []) ≡ fin (nothing_in (given_in the.RangeCheck (given_in the.Output ts).1).1) (λ _. Done (builtins_of (given_in the.Output ts).0 (given_in the.RangeCheck (given_in the.Output ts).1).0))
unfolding given_in after_directive nothing_in
link_builtins [] = refl
link_builtins (Sign t ∷ ms) = refl
link_builtins (Keyword t ∷ ms) = refl
link_builtins (Number x ∷ ms) = refl
link_builtins (Label text ∷ ms) = by_word (directive_word text) refl
  where
    by_word : (o : Option Directive) → directive_word text ≡ o → run (Label text ∷ ms) (given the.Output (λ o. given the.RangeCheck (λ r. ended (builtins_of o r))) ∷ []) ≡ fin (nothing_in (given_in the.RangeCheck (given_in the.Output (Label text ∷ ms)).1).1) (λ _. Done (builtins_of (given_in the.Output (Label text ∷ ms)).0 (given_in the.RangeCheck (given_in the.Output (Label text ∷ ms)).1).0))
    by_word None e = rw e (rw e refl)
    by_word (Some the.Builtins) e = rw e (rw e refl)
    by_word (Some the.Output) e = rw e (link_range_word (λ r. builtins_of true r) ms)
    by_word (Some the.RangeCheck) e = rw e (rw e (link_nothing (builtins_of false true) ms))
    by_word (Some the.Start) e = rw e (rw e refl)
    by_word (Some the.End) e = rw e (rw e refl)

link_target : (k : Target → Language) (ts : List Mark) → run ts (target k ∷ []) ≡ fin (target_in ts) (λ p. run p.1 (k p.0 ∷ []))
unfolding target_in
link_target k [] = refl
link_target k (Sign t ∷ ms) = refl
link_target k (Keyword t ∷ ms) = refl
link_target k (Label text ∷ ms) = refl
link_target k (Number x ∷ ms) =
    elim (leb x.number 4294967295) as (λ t. leb x.number 4294967295 ≡ t → run (Number x ∷ ms) (target k ∷ []) ≡ fin (after (cond t (Ok (x, ms)) (Err (length ms + 1, kind.Range))) (λ (x : Felt) (rest : List Mark). Ok (target_is.Number x.number, rest))) (λ (p : Target × List Mark). run p.1 (k p.0 ∷ []))) [
      | true ↦ λ e. take (Number x) ms (target k ∷ []) (k (target_is.Number x.number)) [] (λ b. ap (λ t. (when t (k (target_is.Number x.number)) ++ []) ++ []) (in_bound b x.number 4294967295 e)) (rw e refl)
      | false ↦ λ e. rw (e, add-one) refl
    ] refl

link_place : (f : Target → Body) (ts : List Mark) → run ts (target (λ t. ended (alone (f t))) ∷ []) ≡ fin (place_in f ts) (λ d. Done (alone d))
unfolding place_in
link_place f ts =
    link_target (λ t. ended (alone (f t))) ts
    ∙ chain (target_in ts) (λ t a. making (λ _. f t) (nothing_in a)) (λ p. run p.1 (ended (alone (f p.0)) ∷ [])) (λ d. Done (alone d))
    (λ p. link_nothing (alone (f p.0)) p.1 ∙ chain_making (nothing_in p.1) (λ _. f p.0) (λ d. Done (alone d)))

link_setting : (ts : List Mark) → run ts (directive the.Builtins (given the.Output (λ o. given the.RangeCheck (λ r. ended (builtins_of o r)))) ∷ directive the.Start (target (λ t. ended (alone (body.Start t)))) ∷ directive the.End (target (λ t. ended (alone (body.End t)))) ∷ []) ≡ fin (setting_in ts) (λ d. Done (alone d))
unfolding setting_in after_directive builtins_in
link_setting [] = refl
link_setting (Sign t ∷ ms) = refl
link_setting (Keyword t ∷ ms) = refl
link_setting (Number x ∷ ms) = refl
link_setting (Label text ∷ ms) = by_word (directive_word text) refl
  where
    by_word : (o : Option Directive) → directive_word text ≡ o → run (Label text ∷ ms) (directive the.Builtins (given the.Output (λ o. given the.RangeCheck (λ r. ended (builtins_of o r)))) ∷ directive the.Start (target (λ t. ended (alone (body.Start t)))) ∷ directive the.End (target (λ t. ended (alone (body.End t)))) ∷ []) ≡ fin (setting_in (Label text ∷ ms)) (λ d. Done (alone d))
    by_word None e = rw e refl
    by_word (Some the.Builtins) e = rw e (link_builtins ms ∙ chain_making (nothing_in (given_in the.RangeCheck (given_in the.Output ms).1).1) (λ _. body.Builtins (given_in the.Output ms).0 (given_in the.RangeCheck (given_in the.Output ms).1).0) (λ d. Done (alone d)))
    by_word (Some the.Output) e = rw e refl
    by_word (Some the.RangeCheck) e = rw e refl
    by_word (Some the.Start) e = rw e (link_place (λ t. body.Start t) ms)
    by_word (Some the.End) e = rw e (link_place (λ t. body.End t) ms)

-- a statement or nothing, after what is there already
link_said : (v : List Body) (ts : List Mark) → run ts (said (λ s. ended (v ++ s)) ∷ []) ≡ fin (said_in ts) (λ s. Done (v ++ s))
unfolding said_in
link_said v [] = refl
link_said v (m ∷ ms) = link_stmt v m ms ∙ chain_making (stmt_in (m ∷ ms)) (λ s. s ∷ []) (λ s. Done (v ++ s))

-- a label's colon, and what it stands before
link_colon : (n : List ℕ) (ts : List Mark) → run ts (sign Colon (said (λ s. ended (body.Label n ∷ s))) ∷ []) ≡ fin (skip (expect_sign Colon ts) (λ b. making (λ s. body.Label n ∷ s) (said_in b))) (λ v. Done v)
unfolding expect_sign after_sign
link_colon n [] = refl
link_colon n (Sign Colon ∷ ms) = link_said (body.Label n ∷ []) ms ∙ chain_making (said_in ms) (λ s. body.Label n ∷ s) (λ v. Done v)
link_colon n (m ∷ ms) = refl

-- a whole line
pub link_line : (ts : List Mark) → run ts (whole_line ∷ []) ≡ fin (line_in ts) (λ v. Done v)
unfolding whole_line line_in named_in label_in said_in after_sign
link_line [] = refl
link_line (Sign Percent ∷ ms) = link_setting ms ∙ chain_making (setting_in ms) (λ d. d ∷ []) (λ v. Done v)
link_line (Label n ∷ ms) = link_colon n ms
link_line (Keyword reserved.Ap ∷ ms) = link_said [] (Keyword reserved.Ap ∷ ms)
link_line (m ∷ ms) = link_said [] (m ∷ ms)
