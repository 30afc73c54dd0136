-- Texts that are lines of a language: each token is cut where it is written.
use Rattle.std.proofs.Common.{◌≡◌, ℕ, suc, ◌+◌, ◌<◌, ◌≤◌, Bool, true, false, not, ◌&&◌, cond, eqb, List, [], ◌∷◌, ◌++◌, length, take, drop, refl, ap, sym, ◌∙◌, subst, arith, eqb-true, length-append, None}
use Rattle.std.proofs.Math.Numerals.{one-add}
use Rattle.std.proofs.lemmas.Bool.Decides.{nat_tests}
use Rattle.std.specs.List.{list_all, prefix_len}
use Rattle.std.specs.Char.{digit_value}
use Rattle.std.specs.Str.Parse.{AllDigits}
use Rattle.casm_statements.specs.declared.Body.{Body}
use Rattle.casm_statements.specs.Label.{is_word_byte}
use Rattle.casm_tokens.specs.Marks.{Mark, marks}
use Rattle.casm_tokens.specs.Pieces.{Piece, Over, Gap, Cut, piece_at, run_piece, sign_piece, sign_at, Scanned, after, scan_from}
use Rattle.casm_tokens.specs.Tokens.{is_blank, begins_comment}
use Rattle.casm_tokens.specs.Lines.{is_in_line}
use Rattle.casm_tokens.proofs.Scans.{scan_cut, scan_gap}
use Rattle.casm_grammar.specs.Language.{Language, ended, Derives, Kept}

-- the text is a line of the language with this meaning
pub record Fits (l : Language) (v : List Body) (text : List ℕ) : Type 0 where
  pub derives : (at : ℕ) → Derives Kept l v (marks (scan_from 0 at text).placed)
  pub stop : (at : ℕ) → (scan_from 0 at text).stop ≡ None
  pub no_feed : list_all is_in_line text ≡ true

pub Fits-end : (v : List Body) → Fits (ended v) v []
unfolding scan_from
Fits-end v = record { derives = λ at. (refl, refl); stop = λ at. refl; no_feed = refl }

pub Fits-map : (l k : Language) (v : List Body) (t : List ℕ) → ((ms : List Mark) → Derives Kept l v ms → Derives Kept k v ms) → Fits l v t → Fits k v t
Fits-map l k v t f h = record { derives = λ at. f (marks (scan_from 0 at t).placed) (h.derives at); stop = h.stop; no_feed = h.no_feed }

pub Fits-text : (l : Language) (v : List Body) (t u : List ℕ) → t ≡ u → Fits l v t → Fits l v u
Fits-text l v t u e h = subst (λ (x : List ℕ). Fits l v x) e h

-- a space
pub Fits-gap : (l : Language) (v : List Body) (t : List ℕ) → Fits l v t → Fits l v (32 ∷ t)
unfolding piece_at
Fits-gap l v t h = record {
  derives = λ at. subst (λ (s : Scanned). Derives Kept l v (marks s.placed)) (sym (scan_gap at (32 ∷ t) (omega arith) refl)) (h.derives (at + 1));
  stop = λ at. ap (λ (s : Scanned). s.stop) (scan_gap at (32 ∷ t) (omega arith) refl) ∙ h.stop (at + 1);
  no_feed = h.no_feed;
}

drop-front : (w t : List ℕ) → drop (length w) (w ++ t) ≡ t
drop-front [] t = refl
drop-front (b ∷ bs) t = drop-front bs t

no_feed-append : (w t : List ℕ) → list_all is_in_line w ≡ true → list_all is_in_line t ≡ true → list_all is_in_line (w ++ t) ≡ true
no_feed-append [] t h k = k
no_feed-append (b ∷ bs) t h k =
    elim (is_in_line b) as (λ x. (x && list_all is_in_line bs) ≡ true → (x && list_all is_in_line (bs ++ t)) ≡ true) [
      | true ↦ λ h. no_feed-append bs t h k
      | false ↦ λ h. h
    ] h

-- a token
pub Fits-cut : (l k : Language) (v : List Body) (w t : List ℕ) (m : Mark) → 0 < length w → piece_at (w ++ t) ≡ Cut (length w) m → list_all is_in_line w ≡ true → ((ms : List Mark) → Derives Kept l v ms → Derives Kept k v (m ∷ ms)) → Fits l v t → Fits k v (w ++ t)
Fits-cut l k v w t m p e n f h =
    let long : 0 < length (w ++ t) = let a = length-append w t in omega arith in
    let cut : (at : ℕ) → scan_from 0 at (w ++ t) ≡ after (record { start = at; end = at + length w; mark = m } ∷ []) (scan_from 0 (at + length w) t) = λ at. scan_cut (length w) at m (w ++ t) p long e ∙ ap (λ (x : List ℕ). after (record { start = at; end = at + length w; mark = m } ∷ []) (scan_from 0 (at + length w) x)) (drop-front w t) in
    record {
      derives = λ at. subst (λ (s : Scanned). Derives Kept k v (marks s.placed)) (sym (cut at)) (f (marks (scan_from 0 (at + length w) t).placed) (h.derives (at + length w)));
      stop = λ at. ap (λ (s : Scanned). s.stop) (cut at) ∙ h.stop (at + length w);
      no_feed = no_feed-append w t n h.no_feed;
    }

-- a byte that a word goes on with is no other
not_byte : (n b : ℕ) → is_word_byte n ≡ false → is_word_byte b ≡ true → eqb b n ≡ false
not_byte n b other is =
    elim (eqb b n) as (λ t. eqb b n ≡ t → t ≡ false) [
      | true ↦ λ e. let same : b ≡ n = eqb-true b n e in let f : is_word_byte b ≡ is_word_byte n = ap is_word_byte same in cc
      | false ↦ λ e. refl
    ] refl

-- the text goes on with no word byte
abbrev pub ends_run : List ℕ → Bool
ends_run [] = true
ends_run (b ∷ bs) = not (is_word_byte b)

prefix-run : (w t : List ℕ) → list_all is_word_byte w ≡ true → ends_run t ≡ true → prefix_len is_word_byte (w ++ t) ≡ length w
prefix-run [] [] h e = refl
prefix-run [] (b ∷ bs) h e = elim (is_word_byte b) as (λ x. not x ≡ true → cond x (1 + prefix_len is_word_byte bs) 0 ≡ 0) [ true ↦ λ e. cc | false ↦ λ e. refl ] e
prefix-run (b ∷ bs) t h e =
    elim (is_word_byte b) as (λ x. (x && list_all is_word_byte bs) ≡ true → cond x (1 + prefix_len is_word_byte (bs ++ t)) 0 ≡ suc (length bs)) [
      | true ↦ λ h. rw (prefix-run bs t h e, one-add) refl
      | false ↦ λ h. cc
    ] h

take-front : (w t : List ℕ) → take (length w) (w ++ t) ≡ w
take-front [] t = refl
take-front (b ∷ bs) t = ap (λ x. b ∷ x) (take-front bs t)

first_word : (b : ℕ) (bs : List ℕ) → list_all is_word_byte (b ∷ bs) ≡ true → is_word_byte b ≡ true
first_word b bs h = elim (is_word_byte b) as (λ x. (x && list_all is_word_byte bs) ≡ true → x ≡ true) [ true ↦ λ h. refl | false ↦ λ h. h ] h

other_byte : (n b : ℕ) → is_word_byte n ≡ false → is_word_byte b ≡ true → eqb n b ≡ false
other_byte n b other is =
    elim (eqb n b) as (λ t. eqb n b ≡ t → t ≡ false) [
      | true ↦ λ e. let same : n ≡ b = eqb-true n b e in let f : is_word_byte n ≡ is_word_byte b = ap is_word_byte same in cc
      | false ↦ λ e. refl
    ] refl

third : (x y z : Bool) (g o r s : Piece) → x ≡ false → y ≡ false → z ≡ true → cond x g (cond y o (cond z r s)) ≡ r
third x y z g o r s e f h = rw (e, f, h) refl

no_blank : (b : ℕ) → is_word_byte b ≡ true → is_blank b ≡ false
no_blank b is = rw (not_byte 32 b refl is, not_byte 9 b refl is, not_byte 13 b refl is) refl

no_comment : (b : ℕ) (bs : List ℕ) → is_word_byte b ≡ true → begins_comment (b ∷ bs) ≡ false
no_comment b bs is = rw (other_byte 47 b refl is, other_byte 35 b refl is) refl

-- a run of word bytes is one piece
piece-run : (w t : List ℕ) → 0 < length w → list_all is_word_byte w ≡ true → ends_run t ≡ true → piece_at (w ++ t) ≡ run_piece w
unfolding piece_at
piece-run [] t p h e = absurd (omega arith)
piece-run (b ∷ bs) t p h e =
    let is = first_word b bs h in
    third (is_blank b) (begins_comment (b ∷ (bs ++ t))) (is_word_byte b) Gap Over (run_piece (take (prefix_len is_word_byte (b ∷ (bs ++ t))) (b ∷ (bs ++ t)))) (sign_piece (sign_at (b ∷ (bs ++ t)))) (no_blank b is) (no_comment b (bs ++ t) is) is
    ∙ ap run_piece (ap (λ n. take n (b ∷ (bs ++ t))) (prefix-run (b ∷ bs) t h e) ∙ take-front (b ∷ bs) t)

no_feed-run : (w : List ℕ) → list_all is_word_byte w ≡ true → list_all is_in_line w ≡ true
no_feed-run [] h = refl
no_feed-run (b ∷ bs) h =
    let is = first_word b bs h in let n = not_byte 10 b refl is in
    rw n (no_feed-run bs (rw is at h))

-- digits are word bytes
word_digit : (c : ℕ) → digit_value c < 36 → is_word_byte c ≡ true
word_digit c h = grind (arith, nat_tests)

pub all_digits-run : (r : ℕ) (ds : List ℕ) → r ≤ 36 → AllDigits r ds → list_all is_word_byte ds ≡ true
all_digits-run r [] h d = refl
all_digits-run r (c ∷ ds) h d = let e = word_digit c (omega (arith, d.0)) in rw e (all_digits-run r ds h d.1)

-- a run that is one token
pub Fits-run : (l k : Language) (v : List Body) (w t : List ℕ) (m : Mark) → 0 < length w → list_all is_word_byte w ≡ true → run_piece w ≡ Cut (length w) m → ends_run t ≡ true → ((ms : List Mark) → Derives Kept l v ms → Derives Kept k v (m ∷ ms)) → Fits l v t → Fits k v (w ++ t)
Fits-run l k v w t m p run cut e f h = Fits-cut l k v w t m p (piece-run w t p run e ∙ cut) (no_feed-run w run) f h
