-- The lines of a text, and runs of bytes.
use Rattle.std.proofs.Common.{◌≡◌, ℕ, suc, ◌+◌, ◌<◌, Bool, true, false, not, ◌&&◌, cond, eqb, List, [], ◌∷◌, ◌++◌, length, take, drop, refl, ap, sym, ◌∙◌, arith, eqb-true, Option, Some, None, MatchOption}
use Rattle.std.proofs.Math.Numerals.{one-add}
use Rattle.std.specs.List.{prefix_len, list_all}
use Rattle.casm_tokens.specs.Lines.{is_in_line, AreLines}

-- a byte before the first line
abbrev pub with_byte : ℕ → List (List ℕ) → List (List ℕ)
with_byte b [] = (b ∷ []) ∷ []
with_byte b (line ∷ others) = (b ∷ line) ∷ others

-- the lines of a text, from the left on
unfoldable pub lines : List ℕ → List (List ℕ)
lines [] = [] ∷ []
lines (b ∷ bs) = cond (eqb b 10) ([] ∷ lines bs) (with_byte b (lines bs))

-- each byte of the longest run passes
pub list_all-run : (p : ℕ → Bool) (bs : List ℕ) → list_all p (take (prefix_len p bs) bs) ≡ true
list_all-run p [] = refl
list_all-run p (b ∷ bs) =
    elim (p b) as (λ t. p b ≡ t → list_all p (take (cond t (1 + prefix_len p bs) 0) (b ∷ bs)) ≡ true) [
      | true ↦ λ e. rw one-add (rw e (list_all-run p bs))
      | false ↦ λ e. refl
    ] refl

-- behind what comes up to the first line feed stands that
pub feed_behind : (bs : List ℕ) → prefix_len is_in_line bs < length bs → bs ≡ take (prefix_len is_in_line bs) bs ++ 10 ∷ drop (suc (prefix_len is_in_line bs)) bs
feed_behind [] h = absurd (omega arith)
feed_behind (b ∷ bs) h =
    elim (eqb b 10) as (λ t. eqb b 10 ≡ t → cond (not t) (1 + prefix_len is_in_line bs) 0 < suc (length bs) → b ∷ bs ≡ take (cond (not t) (1 + prefix_len is_in_line bs) 0) (b ∷ bs) ++ 10 ∷ drop (suc (cond (not t) (1 + prefix_len is_in_line bs) 0)) (b ∷ bs)) [
      | true ↦ λ e h. ap (λ x. x ∷ bs) (eqb-true b 10 e)
      | false ↦ λ e h. rw one-add (ap (λ x. b ∷ x) (feed_behind bs (omega arith)))
    ] refl h

-- a text that begins with a line
pub lines_line : (line rest : List ℕ) → list_all is_in_line line ≡ true → lines (line ++ 10 ∷ rest) ≡ line ∷ lines rest
unfolding lines
lines_line [] rest h = refl
lines_line (b ∷ bs) rest h =
    elim (eqb b 10) as (λ t. (not t && list_all is_in_line bs) ≡ true → cond t ([] ∷ lines (bs ++ 10 ∷ rest)) (with_byte b (lines (bs ++ 10 ∷ rest))) ≡ (b ∷ bs) ∷ lines rest) [
      | true ↦ λ h. cc
      | false ↦ λ h. ap (with_byte b) (lines_line bs rest h)
    ] h

pub lines_last : (line : List ℕ) → list_all is_in_line line ≡ true → lines line ≡ line ∷ []
unfolding lines
lines_last [] h = refl
lines_last (b ∷ bs) h =
    elim (eqb b 10) as (λ t. (not t && list_all is_in_line bs) ≡ true → cond t ([] ∷ lines bs) (with_byte b (lines bs)) ≡ (b ∷ bs) ∷ []) [
      | true ↦ λ h. cc
      | false ↦ λ h. ap (with_byte b) (lines_last bs h)
    ] h

-- the first line of a text, and those behind it
pub next_line : (text bytes rest : List ℕ) → text ≡ bytes ++ 10 ∷ rest → list_all is_in_line bytes ≡ true → lines text ≡ bytes ∷ lines rest
next_line text bytes rest e h = ap lines e ∙ lines_line bytes rest h

pub last_line : (text bytes : List ℕ) → text ≡ bytes → list_all is_in_line bytes ≡ true → lines text ≡ bytes ∷ []
last_line text bytes e h = ap lines e ∙ lines_last bytes h

pub first_line : {A : Type 0} (view : A → List ℕ) (text bytes : List ℕ) (next : Option A) → MatchOption next (text ≡ bytes) (λ rest. text ≡ bytes ++ 10 ∷ view rest) → list_all is_in_line bytes ≡ true → (others : List (List ℕ)) × (lines text ≡ bytes ∷ others)
first_line view text bytes None h l = ([], last_line text bytes h l)
first_line view text bytes (Some rest) h l = (lines (view rest), next_line text bytes (view rest) h l)

-- the function gives the lines
put_byte : (b : ℕ) (bs : List ℕ) (ls : List (List ℕ)) → is_in_line b ≡ true → AreLines bs ls → AreLines (b ∷ bs) (with_byte b ls)
put_byte b bs [] h k = absurd k
put_byte b bs (l ∷ []) h (e, plain) = (ap (λ x. b ∷ x) e, rw h plain)
put_byte b bs (l ∷ m ∷ ls) h (rest, e, plain, more) = (rest, ap (λ x. b ∷ x) e, rw h plain, more)

put_feed : (bs : List ℕ) (ls : List (List ℕ)) → AreLines bs ls → AreLines (10 ∷ bs) ([] ∷ ls)
put_feed bs [] k = absurd k
put_feed bs (l ∷ ls) k = (bs, refl, refl, k)

pub are_lines : (text : List ℕ) → AreLines text (lines text)
unfolding lines
are_lines [] = (refl, refl)
are_lines (b ∷ bs) =
    let more = are_lines bs in
    elim (eqb b 10) as (λ t. eqb b 10 ≡ t → AreLines (b ∷ bs) (cond t ([] ∷ lines bs) (with_byte b (lines bs)))) [
      | true ↦ λ e. rw (eqb-true b 10 e) (put_feed bs (lines bs) more)
      | false ↦ λ e. put_byte b bs (lines bs) (ap not e) more
    ] refl

-- and nothing else is
pub lines_only : (ls : List (List ℕ)) (text : List ℕ) → AreLines text ls → ls ≡ lines text
lines_only [] text k = absurd k
lines_only (l ∷ []) text (e, plain) = sym (last_line text l e plain)
lines_only (l ∷ m ∷ ls) text (rest, e, plain, more) = ap (λ x. l ∷ x) (lines_only (m ∷ ls) rest more) ∙ sym (next_line text l rest e plain)
