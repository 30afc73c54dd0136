-- What the scan finds are the parts of a line.
use Rattle.std.proofs.Common.{◌≡◌, ℕ, zero, suc, ◌+◌, ◌<◌, ◌≤◌, ◌⊎◌, inl, inr, Bool, true, false, not, cond, List, [], ◌∷◌, ◌++◌, length, take, drop, refl, ap, sym, ◌∙◌, subst, arith, Option, Some, None, Decides, length-append, append-nil, nat_lt}
use Rattle.std.proofs.Math.Numerals.{one-add}
use Rattle.std.proofs.Math.Seq.{drop-append_seam}
use Rattle.std.proofs.lemmas.List.{take-append-drop}
use Rattle.std.proofs.Math.Nat.{mod-eq_of_lt}
use Rattle.std.proofs.lemmas.Bool.Decides.{Decides-ltb}
use Rattle.std.proofs.lemmas.Bool.{cases_lt}
use Rattle.std.specs.List.{list_all, prefix_len}
use Rattle.std.specs.Char.{is_ascii_digit}
use Rattle.goldilocks.specs.Field.{prime}
use Rattle.goldilocks.specs.Text.{is_number_text, text_number, Writes, IsTooLarge}
use Rattle.goldilocks.specs.Felts.{felt}
use Rattle.goldilocks.proofs.Texts.{is_number_text_tells}
use Rattle.casm_statements.specs.declared.name.Reserved.{Reserved}
use Rattle.casm_statements.specs.Label.{is_word_byte, is_word, is_label, reserved_word}
use Rattle.casm_tokens.specs.declared.fault.SyntaxKind.{SyntaxKind}
use Rattle.casm_tokens.specs.declared.fault.SyntaxKind.TheVariants as kind
use Rattle.casm_tokens.specs.declared.marks.Symbol.{Symbol}
use Rattle.casm_tokens.specs.Marks.{Mark, Number, Placed}
use Rattle.casm_tokens.specs.Tokens.{is_blank, begins_comment, sign_text, is_numeral, HasShape, IsLongest, Says, Part, Blank, Lexed, Comment, Parted, placed_from, CutsInto, IsBad, StopsAt}
use Rattle.casm_tokens.specs.Pieces.{Piece, Over, Gap, Cut, Bad, number_piece, word_mark, run_piece, sign_at, sign_piece, piece_at, Scanned, after, scan_from, scan}
use Rattle.casm_tokens.proofs.LineLemmas.{list_all-run}
use Rattle.casm_tokens.proofs.Scans.{scan_cut, scan_gap, scan_over, scan_bad}
use Rattle.casm_tokens.proofs.Shapes.{both, head_of_byte, IsRun, run_of, ends_run, longest_run, sign_length, shape_some, sign_is, sign_found, longest_sign}

-- what a piece says of the bytes that it stands at
pub record IsToken (bs : List ℕ) (n : ℕ) (m : Mark) : Type 0 where
  pub text : List ℕ
  pub rest : List ℕ
  pub whole : bs ≡ text ++ rest
  pub size : n ≡ length text
  pub longest : IsLongest text rest
  pub says : Says text m

pub record IsGap (bs : List ℕ) : Type 0 where
  pub first : ℕ
  pub rest : List ℕ
  pub whole : bs ≡ first ∷ rest
  pub blank : is_blank first ≡ true

abbrev pub IsPiece : List ℕ → Piece → Type 0
IsPiece bs Over = (bs ≡ []) ⊎ (begins_comment bs ≡ true)
IsPiece bs Gap = IsGap bs
IsPiece bs (Cut n m) = IsToken bs n m
IsPiece bs (Bad k) = IsBad k bs

choose2 : (P : Piece → Type 0) (x y : Bool) (g o r : Piece) → (x ≡ false → P g) → (x ≡ true → y ≡ false → P o) → (x ≡ true → y ≡ true → P r) → P (cond (not x) g (cond (not y) o r))
choose2 P false y g o r a b c = a refl
choose2 P true false g o r a b c = b refl refl
choose2 P true true g o r a b c = c refl refl

choose3 : (P : Piece → Type 0) (x y z : Bool) (g o r s : Piece) → (x ≡ true → P g) → (x ≡ false → y ≡ true → P o) → (x ≡ false → y ≡ false → z ≡ true → P r) → (x ≡ false → y ≡ false → z ≡ false → P s) → P (cond x g (cond y o (cond z r s)))
choose3 P true y z g o r s a b c d = a refl
choose3 P false true z g o r s a b c d = b refl refl
choose3 P false false true g o r s a b c d = c refl refl refl
choose3 P false false false g o r s a b c d = d refl refl refl

absurd_not : {P : Type 0} (t : Bool) → Decides t P → t ≡ false → P → ⊥
absurd_not t d e p = let h = d.1 p in cc

-- a number
number_is : (text rest : List ℕ) → is_numeral text ≡ true → IsRun text → ends_run rest ≡ true → IsPiece (text ++ rest) (number_piece text)
unfolding number_piece IsTooLarge Writes
number_is text rest digit r e =
    let number = is_number_text_tells text in let low = Decides-ltb (text_number text) prime in
    choose2 (IsPiece (text ++ rest)) (is_number_text text) (nat_lt (text_number text) prime) (Bad kind.Number) (Bad kind.Range) (Cut (length text) (Number (felt (text_number text))))
    (λ x. record { text = text; rest = rest; parts = refl; longest = longest_run text rest r e; numeral = digit; stated = absurd_not (is_number_text text) number x })
    (λ x y. record { text = text; rest = rest; parts = refl; longest = longest_run text rest r e; numeral = digit; stated = (number.0 x, high y) })
    (λ x y. record { text = text; rest = rest; whole = refl; size = refl; longest = longest_run text rest r e; says = (digit, (number.0 x, sym (mod-eq_of_lt (low.0 y)), (felt (text_number text)).in_field)) })
  where
    high : nat_lt (text_number text) prime ≡ false → prime ≤ text_number text
    high y = elim (cases_lt (text_number text) prime) [ inl h ↦ absurd (absurd_not (nat_lt (text_number text) prime) (Decides-ltb (text_number text) prime) y h) | inr h ↦ h ]

-- a word
word_is : (text rest : List ℕ) → is_word text ≡ true → IsRun text → ends_run rest ≡ true → IsPiece (text ++ rest) (Cut (length text) (word_mark (reserved_word text) text))
unfolding word_mark is_label
word_is text rest w r e = by_word (reserved_word text) refl
  where
    by_word : (o : Option Reserved) → reserved_word text ≡ o → IsPiece (text ++ rest) (Cut (length text) (word_mark o text))
    by_word (Some k) is = record { text = text; rest = rest; whole = refl; size = refl; longest = longest_run text rest r e; says = (w, is) }
    by_word None is = record { text = text; rest = rest; whole = refl; size = refl; longest = longest_run text rest r e; says = (rw (w, is) refl, refl) }

-- a run
run_is : (text rest : List ℕ) → IsRun text → ends_run rest ≡ true → IsPiece (text ++ rest) (run_piece text)
unfolding run_piece
run_is [] rest r e = absurd (let h = r.some in omega arith)
run_is (b ∷ bs) rest r e =
    let p = both (is_word_byte b) (list_all is_word_byte bs) r.bytes in
    elim (is_ascii_digit b) as (λ t. is_ascii_digit b ≡ t → IsPiece ((b ∷ bs) ++ rest) (cond t (number_piece (b ∷ bs)) (Cut (length (b ∷ bs)) (word_mark (reserved_word (b ∷ bs)) (b ∷ bs))))) [
      | true ↦ λ d. number_is (b ∷ bs) rest (rw (d, p.1) refl) r e
      | false ↦ λ d. word_is (b ∷ bs) rest (rw (head_of_byte b p.0 d, p.1) refl) r e
    ] refl

run_ends : (bs : List ℕ) → ends_run (drop (prefix_len is_word_byte bs) bs) ≡ true
run_ends [] = refl
run_ends (b ∷ bs) =
    elim (is_word_byte b) as (λ t. is_word_byte b ≡ t → ends_run (drop (cond t (1 + prefix_len is_word_byte bs) 0) (b ∷ bs)) ≡ true) [
      | true ↦ λ h. rw one-add (run_ends bs)
      | false ↦ λ h. ap not h
    ] refl

run_some : (b : ℕ) (bs : List ℕ) → is_word_byte b ≡ true → 0 < length (take (prefix_len is_word_byte (b ∷ bs)) (b ∷ bs))
run_some b bs h =
    elim (is_word_byte b) as (λ t. t ≡ true → 0 < length (take (cond t (1 + prefix_len is_word_byte bs) 0) (b ∷ bs))) [
      | true ↦ λ h. rw one-add (omega arith)
      | false ↦ λ h. cc
    ] h

-- a sign, or nothing
sign_piece_is : (b : ℕ) (bs : List ℕ) → is_blank b ≡ false → begins_comment (b ∷ bs) ≡ false → is_word_byte b ≡ false → IsPiece (b ∷ bs) (sign_piece (sign_at (b ∷ bs)))
unfolding sign_piece
sign_piece_is b bs no_blank no_comment no_byte = by_sign (sign_at (b ∷ bs)) refl
  where
    begins_run : (front others : List ℕ) → b ∷ bs ≡ front ++ others → IsRun front → ⊥
    begins_run [] others e r = absurd (let h = r.some in omega arith)
    begins_run (c ∷ cs) others e r =
        let same : b ≡ c = cc in
        let h = (both (is_word_byte c) (list_all is_word_byte cs) r.bytes).0 in
        let k : is_word_byte b ≡ is_word_byte c = ap is_word_byte same in
        cc

    by_sign : (o : Option Symbol) → sign_at (b ∷ bs) ≡ o → IsPiece (b ∷ bs) (sign_piece o)
    by_sign (Some s) is =
        let p = sign_is (b ∷ bs) s is in
        record { text = sign_text s; rest = p.0; whole = p.1; size = sign_length s; longest = longest_sign s p.0 (ap sign_at (sym p.1) ∙ is); says = refl }
    by_sign None is = record {
      first = b;
      rest = bs;
      some = refl;
      no_blank = no_blank;
      no_comment = no_comment;
      no_token = λ front others e h. no_token front others e h;
    }
      where
        no_token : (front others : List ℕ) → b ∷ bs ≡ front ++ others → HasShape front → ⊥
        no_token front others e (inl (s, f)) = sign_found s others (ap sign_at (sym (e ∙ ap (λ x. x ++ others) f)) ∙ is)
        no_token front others e (inr h) = begins_run front others e (run_of front h)

-- each piece says what stands there
pub piece_is : (bs : List ℕ) → IsPiece bs (piece_at bs)
unfolding piece_at
piece_is [] = inl refl
piece_is (b ∷ bs) =
    let n = prefix_len is_word_byte (b ∷ bs) in
    let w = take n (b ∷ bs) in let r = drop n (b ∷ bs) in
    choose3 (IsPiece (b ∷ bs)) (is_blank b) (begins_comment (b ∷ bs)) (is_word_byte b) Gap Over (run_piece w) (sign_piece (sign_at (b ∷ bs)))
    (λ x. record { first = b; rest = bs; whole = refl; blank = x })
    (λ x y. inr y)
    (λ x y z. subst (λ (t : List ℕ). IsPiece t (run_piece w)) (take-append-drop n (b ∷ bs)) (run_is w r (record { some = run_some b bs z; bytes = list_all-run is_word_byte (b ∷ bs) }) (run_ends (b ∷ bs))))
    (λ x y z. sign_piece_is b bs x y z)

-- where a scan ends
abbrev pub Ends : ℕ → List ℕ → Option (ℕ × SyntaxKind) → List ℕ → Type 0
Ends at bs None rest = rest ≡ []
Ends at bs (Some s) rest = (s.0 + length rest ≡ at + length bs) × IsBad s.1 rest

pub record IsScan (at : ℕ) (bs : List ℕ) (s : Scanned) : Type 0 where
  pub parts : List Part
  pub rest : List ℕ
  pub parted : Parted bs parts rest
  pub found : s.placed ≡ placed_from at parts
  pub ends : Ends at bs s.stop rest

ends_more : (at n : ℕ) (bs others rest : List ℕ) (o : Option (ℕ × SyntaxKind)) → length bs ≡ n + length others → Ends (at + n) others o rest → Ends at bs o rest
ends_more at n bs others rest None e h = h
ends_more at n bs others rest (Some s) e h = (let k = h.0 in omega arith, h.1)

is_over : (at : ℕ) (bs : List ℕ) → (bs ≡ []) ⊎ (begins_comment bs ≡ true) → IsScan at bs (record { placed = []; stop = None })
is_over at bs (inl e) = record { parts = []; rest = []; parted = e; found = refl; ends = refl }
is_over at bs (inr h) = record { parts = Comment bs ∷ []; rest = []; parted = ([], sym (append-nil bs), (h, refl), refl); found = refl; ends = refl }

is_bad : (at : ℕ) (bs : List ℕ) (k : SyntaxKind) → IsBad k bs → IsScan at bs (record { placed = []; stop = Some (at, k) })
is_bad at bs k h = record { parts = []; rest = bs; parted = refl; found = refl; ends = (refl, h) }

is_gap : (at : ℕ) (bs : List ℕ) (g : IsGap bs) (s : Scanned) → IsScan (at + 1) g.rest s → IsScan at bs s
is_gap at bs g s h = record {
  parts = Blank g.first ∷ h.parts;
  rest = h.rest;
  parted = (g.rest, g.whole, g.blank, h.parted);
  found = h.found;
  ends = ends_more at 1 bs g.rest h.rest s.stop (ap length g.whole ∙ omega arith) h.ends;
}

is_cut : (at n : ℕ) (m : Mark) (bs : List ℕ) (t : IsToken bs n m) (s : Scanned) → IsScan (at + n) t.rest s → IsScan at bs (after (record { start = at; end = at + n; mark = m } ∷ []) s)
is_cut at n m bs t s h = record {
  parts = Lexed t.text m ∷ h.parts;
  rest = h.rest;
  parted = (t.rest, t.whole, (t.longest, t.says), h.parted);
  found = ap (λ (ps : List Placed). let one : Placed = record { start = at; end = at + n; mark = m } in one ∷ ps) h.found ∙ ap (λ (k : ℕ). let one : Placed = record { start = at; end = at + k; mark = m } in one ∷ placed_from (at + k) h.parts) t.size;
  ends = ends_more at n bs t.rest h.rest s.stop (ap length t.whole ∙ length-append t.text t.rest ∙ ap (λ k. k + length t.rest) (sym t.size)) h.ends;
}

by_piece : (at : ℕ) (bs : List ℕ) → ((m : ℕ) (others : List ℕ) → length others < length bs → IsScan m others (scan_from 0 m others)) → (p : Piece) → piece_at bs ≡ p → IsPiece bs p → IsScan at bs (scan_from 0 at bs)
by_piece at bs more Over e h = subst (λ (s : Scanned). IsScan at bs s) (sym (scan_over at bs e)) (is_over at bs h)
by_piece at bs more (Bad k) e h = subst (λ (s : Scanned). IsScan at bs s) (sym (scan_bad at bs k e)) (is_bad at bs k h)
by_piece at bs more Gap e h =
    let size : length bs ≡ suc (length h.rest) = ap length h.whole in
    let rest : drop 1 bs ≡ h.rest = ap (λ x. drop 1 x) h.whole in
    subst (λ (s : Scanned). IsScan at bs s) (sym (scan_gap at bs (omega arith) e ∙ ap (λ x. scan_from 0 (at + 1) x) rest))
    (is_gap at bs h (scan_from 0 (at + 1) h.rest) (more (at + 1) h.rest (omega arith)))
by_piece at bs more (Cut n m) e h =
    let size : length bs ≡ length h.text + length h.rest = ap length h.whole ∙ length-append h.text h.rest in
    let some : 0 < length h.text = shape_some h.text h.longest.shape in
    let rest : drop n bs ≡ h.rest = ap (λ x. drop n x) h.whole ∙ ap (λ k. drop k (h.text ++ h.rest)) h.size ∙ drop-append_seam h.text h.rest in
    let long : 0 < n = let x = h.size in omega arith in
    subst (λ (s : Scanned). IsScan at bs s) (sym (scan_cut n at m bs long (omega arith) e ∙ ap (λ x. after (record { start = at; end = at + n; mark = m } ∷ []) (scan_from 0 (at + n) x)) rest))
    (is_cut at n m bs h (scan_from 0 (at + n) h.rest) (more (at + n) h.rest (omega arith)))

scans : (n at : ℕ) (bs : List ℕ) → length bs ≤ n → IsScan at bs (scan_from 0 at bs)
scans zero at bs low = by_piece at bs (λ m others lt. absurd (omega arith)) (piece_at bs) refl (piece_is bs)
scans (suc n) at bs low = by_piece at bs (λ m others lt. scans n m others (omega arith)) (piece_at bs) refl (piece_is bs)

-- a scan to the end is of the line's tokens
pub scan_cuts : (line : List ℕ) (tokens : List Placed) → scan line ≡ record { placed = tokens; stop = None } → CutsInto line tokens
scan_cuts line tokens e =
    let h = subst (λ (s : Scanned). IsScan 0 line s) e (scans (length line) 0 line (omega arith)) in
    record { parts = h.parts; parted = subst (λ (r : List ℕ). Parted line h.parts r) h.ends h.parted; same = h.found }

-- one that stops is up to the first place where no token stands
pub scan_stops : (line : List ℕ) (at : ℕ) (k : SyntaxKind) → (scan line).stop ≡ Some (at, k) → StopsAt line at k
scan_stops line at k e =
    let h = scans (length line) 0 line (omega arith) in
    let ends = subst (λ (o : Option (ℕ × SyntaxKind)). Ends 0 line o h.rest) e h.ends in
    record { parts = h.parts; rest = h.rest; parted = h.parted; place = let x = ends.0 in omega arith; bad = ends.1 }
