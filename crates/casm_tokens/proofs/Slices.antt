-- The tokens of a text are slices of it, one after another.
use Rattle.std.proofs.Common.{◌≡◌, ℕ, ◌+◌, ◌-◌, ◌≤◌, true, false, not, ◌&&◌, cond, ◌==◌, List, [], ◌∷◌, ◌++◌, length, map, take, drop, refl, ap, sym, ◌∙◌, subst, arith, length-append, append_assoc, append-nil, is_none}
use Rattle.std.proofs.Math.Seq.{take-append_seam, drop-append_seam}
use Rattle.std.proofs.lemmas.List.Sums.{sum_by-append}
use Rattle.std.specs.Prelude.{count_by}
use Rattle.std.specs.List.{list_all, slice_range, AllByRecursion}
use Rattle.std.proofs.lemmas.List.Folds.{list_all-append}
use Rattle.casm_tokens.specs.declared.spans.Token.{Token}
use Rattle.casm_statements.specs.Label.{is_word, is_label, reserved_word}
use Rattle.casm_tokens.specs.Marks.{Mark, Sign, Keyword, Label, Number}
use Rattle.casm_tokens.specs.Tokens.{Says, Part, Blank, Lexed, Comment, Parted, placed_from}
use Rattle.casm_tokens.specs.Lines.{is_in_line, AreLines, kind_of, token_at, AreTokens, HasTokens, AreInOrder, IsOfKind, IsSliceOf}
use Rattle.casm_tokens.proofs.Shapes.{both, shape_some}

-- how many line feeds there are
abbrev feeds : List ℕ → ℕ
feeds bs = count_by (λ b. b == 10) bs

feeds_append : (xs ys : List ℕ) → feeds (xs ++ ys) ≡ feeds xs + feeds ys
feeds_append xs ys = sum_by-append (λ b. cond (b == 10) 1 0) xs ys

no_feeds : (bs : List ℕ) → list_all is_in_line bs ≡ true → feeds bs ≡ 0
no_feeds [] h = refl
no_feeds (b ∷ bs) h =
    feeds_append (b ∷ []) bs ∙ elim (b == 10) as (λ t. (not t && list_all is_in_line bs) ≡ true → (0 + cond t 1 0) + feeds bs ≡ 0) [
      | true ↦ λ h. cc
      | false ↦ λ h. let e = no_feeds bs h in omega arith
    ] h

-- a slice is what stands between what is before and behind it
slice_is : (text front w tail : List ℕ) (a b : ℕ) → text ≡ front ++ (w ++ tail) → a ≡ length front → b ≡ a + length w → slice_range text a b ≡ w
slice_is text front w tail a b e is size =
    let n : b - a ≡ length w = omega arith in
    ap (λ x. take (b - a) (drop x text)) is
    ∙ ap (λ x. take x (drop (length front) text)) n
    ∙ ap (λ x. take (length w) (drop (length front) x)) e
    ∙ ap (λ x. take (length w) x) (drop-append_seam front (w ++ tail))
    ∙ take-append_seam w tail

front_is : (text front others : List ℕ) (a : ℕ) → text ≡ front ++ others → a ≡ length front → take a text ≡ front
front_is text front others a e is = ap (λ x. take x text) is ∙ ap (λ x. take (length front) x) e ∙ take-append_seam front others

label_word : (w : List ℕ) → is_label w ≡ true → is_word w ≡ true
unfolding is_label
label_word w h = (both (is_word w) (is_none (reserved_word w)) h).0

kind_is : (w : List ℕ) (m : Mark) → Says w m → IsOfKind w (kind_of m)
unfolding kind_of
kind_is w (Sign s) h = (s, h)
kind_is w (Keyword r) h = h.0
kind_is w (Label text) h = label_word w h.0
kind_is w (Number v) h = h.1

token_slice : (text front w tail : List ℕ) (n start at : ℕ) (m : Mark) → text ≡ front ++ (w ++ tail) → start + at ≡ length front → n ≡ 1 + feeds front → Says w m → IsSliceOf text (token_at n start (record { start = at; end = at + length w; mark = m }))
unfolding token_at
token_slice text front w tail n start at m e is line says = record {
  slice = subst (λ (x : List ℕ). IsOfKind x (kind_of m)) (sym (slice_is text front w tail (start + at) (start + (at + length w)) e is (omega arith))) (kind_is w m says);
  line = line ∙ ap (λ x. 1 + feeds x) (sym (front_is text front (w ++ tail) (start + at) e is));
}

-- spans from a place on
pub record Spans (text : List ℕ) (from : ℕ) (ts : List Token) : Type 0 where
  pub order : AreInOrder from (length text) ts
  pub slices : AllByRecursion (IsSliceOf text) ts

text_size : (text front bytes tail : List ℕ) (a : ℕ) → text ≡ front ++ (bytes ++ tail) → a ≡ length front → a + length bytes ≤ length text
text_size text front bytes tail a e is =
    let x : length text ≡ length front + length (bytes ++ tail) = ap length e ∙ length-append front (bytes ++ tail) in
    let y = length-append bytes tail in
    omega arith

-- one part further
record Step (text front bytes tail w others : List ℕ) (n place : ℕ) : Type 0 where
  size : length bytes ≡ length w + length others
  split : text ≡ (front ++ w) ++ (others ++ tail)
  at_end : place + length w ≡ length (front ++ w)
  count : n ≡ 1 + feeds (front ++ w)
  plain : list_all is_in_line others ≡ true

step_of : (text front bytes tail w others : List ℕ) (n place : ℕ) → bytes ≡ w ++ others → text ≡ front ++ (bytes ++ tail) → place ≡ length front → n ≡ 1 + feeds front → list_all is_in_line bytes ≡ true → Step text front bytes tail w others n place
step_of text front bytes tail w others n place whole e is line plain =
    let halves = both (list_all is_in_line w) (list_all is_in_line others) (sym (list_all-append is_in_line w others) ∙ sym (ap (list_all is_in_line) whole) ∙ plain) in
    record {
      size = ap length whole ∙ length-append w others;
      split = e ∙ ap (λ x. front ++ (x ++ tail)) whole ∙ ap (λ x. front ++ x) (append_assoc w others tail) ∙ sym (append_assoc front w (others ++ tail));
      at_end = let l = length-append front w in omega arith;
      count = let a = feeds_append front w in let b = no_feeds w halves.0 in omega arith;
      plain = halves.1;
    }

-- the spans of a line's tokens, before those of the lines behind it
line_spans : (text : List ℕ) (n start : ℕ) (ps : List Part) (at from : ℕ) (front bytes tail : List ℕ) (more : List Token) → Parted bytes ps [] → text ≡ front ++ (bytes ++ tail) → start + at ≡ length front → n ≡ 1 + feeds front → list_all is_in_line bytes ≡ true → from ≤ start + at → ((k : ℕ) → k ≤ start + at + length bytes → Spans text k more) → Spans text from (map (token_at n start) (placed_from at ps) ++ more)
unfolding token_at
line_spans text n start [] at from front bytes tail more parted e is line plain low next = next from (omega arith)
line_spans text n start (Blank b ∷ ps) at from front bytes tail more (others, whole, part, parted) e is line plain low next =
    let s = step_of text front bytes tail (b ∷ []) others n (start + at) whole e is line plain in
    line_spans text n start ps (at + 1) from (front ++ b ∷ []) others tail more parted s.split (let x = s.at_end in omega arith) s.count s.plain (omega arith) (λ k h. next k (let x = s.size in omega arith))
line_spans text n start (Comment w ∷ ps) at from front bytes tail more (others, whole, part, parted) e is line plain low next =
    let s = step_of text front bytes tail w others n (start + at) whole e is line plain in
    line_spans text n start ps (at + length w) from (front ++ w) others tail more parted s.split (let x = s.at_end in omega arith) s.count s.plain (omega arith) (λ k h. next k (let x = s.size in omega arith))
line_spans text n start (Lexed w m ∷ ps) at from front bytes tail more (others, whole, part, parted) e is line plain low next =
    let s = step_of text front bytes tail w others n (start + at) whole e is line plain in
    let some = shape_some w part.0.shape in
    let rest = line_spans text n start ps (at + length w) (start + (at + length w)) (front ++ w) others tail more parted s.split (let x = s.at_end in omega arith) s.count s.plain (omega arith) (λ k h. next k (let x = s.size in omega arith)) in
    let here = token_slice text front w (others ++ tail) n start at m (e ∙ ap (λ x. front ++ (x ++ tail)) whole ∙ ap (λ x. front ++ x) (append_assoc w others tail)) is line part.1 in
    record { order = (low, omega arith, rest.order); slices = (here, rest.slices) }

-- the spans of lines' tokens
lines_spans : (text : List ℕ) (ls : List (List ℕ)) (n start from : ℕ) (front rest : List ℕ) (found : List Token) → AreLines rest ls → AreTokens n start ls found → text ≡ front ++ rest → start ≡ length front → n ≡ 1 + feeds front → from ≤ start → Spans text from found
lines_spans text [] n start from front rest found k h e is line low = absurd k
lines_spans text (bytes ∷ []) n start from front rest found (same, plain) (tokens, more, found_is, cut, none) e is line low =
    let whole : text ≡ front ++ (bytes ++ []) = e ∙ ap (λ x. front ++ x) (same ∙ sym (append-nil bytes)) in
    let size = text_size text front bytes [] start whole is in
    let spans = line_spans text n start cut.parts 0 from front bytes [] more cut.parted whole (omega arith) line plain (omega arith) (λ k h. subst (λ (ts : List Token). Spans text k ts) (sym none) (record { order = omega arith; slices = tt })) in
    subst (λ (ts : List Token). Spans text from ts) (sym (found_is ∙ ap (λ x. map (token_at n start) x ++ more) cut.same)) spans
lines_spans text (bytes ∷ next ∷ others) n start from front rest found (behind, same, plain, are) (tokens, more, found_is, cut, are_more) e is line low =
    let whole : text ≡ front ++ (bytes ++ 10 ∷ behind) = e ∙ ap (λ x. front ++ x) same in
    let split : text ≡ (front ++ (bytes ++ 10 ∷ [])) ++ behind = whole ∙ ap (λ x. front ++ x) (sym (append_assoc bytes (10 ∷ []) behind)) ∙ sym (append_assoc front (bytes ++ 10 ∷ []) behind) in
    let long = length-append bytes (10 ∷ []) in
    let longer = length-append front (bytes ++ 10 ∷ []) in
    let count : n + 1 ≡ 1 + feeds (front ++ (bytes ++ 10 ∷ [])) = let a = feeds_append front (bytes ++ 10 ∷ []) in let b = feeds_append bytes (10 ∷ []) in let c = no_feeds bytes plain in let d : feeds (10 ∷ []) ≡ 1 = refl in omega arith in
    let spans = line_spans text n start cut.parts 0 from front bytes (10 ∷ behind) more cut.parted whole (omega arith) line plain (omega arith) (λ k h. lines_spans text (next ∷ others) (n + 1) (start + length bytes + 1) k (front ++ (bytes ++ 10 ∷ [])) behind more are are_more split (omega arith) count (omega arith)) in
    subst (λ (ts : List Token). Spans text from ts) (sym (found_is ∙ ap (λ x. map (token_at n start) x ++ more) cut.same)) spans

-- those of a text
pub text_spans : (text : List ℕ) (found : List Token) → HasTokens text found → Spans text 0 found
text_spans text found h = lines_spans text h.lines 1 0 0 [] text found h.are_lines h.are_tokens refl (omega arith) refl (omega arith)
