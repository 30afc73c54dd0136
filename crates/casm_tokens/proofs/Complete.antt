-- The parts of a line are what the scan finds.
use Rattle.std.proofs.Common.{◌≡◌, ℕ, suc, ◌+◌, ◌<◌, ◌⊎◌, inl, inr, Bool, true, false, not, ◌&&◌, ◌||◌, cond, nat_eq, List, [], ◌∷◌, ◌++◌, length, take, refl, ap, sym, ◌∙◌, subst, arith, eqb-true, Option, Some, None, is_none, length-append, append-nil}
use Rattle.std.proofs.Math.Numerals.{one-add}
use Rattle.std.proofs.lemmas.Bool.Decides.{nat_tests}
use Rattle.std.proofs.Math.Seq.{take-append_seam, drop-append_seam}
use Rattle.std.specs.List.{list_all, prefix_len, starts_with}
use Rattle.std.specs.Char.{is_ascii_digit}
use Rattle.casm_statements.specs.declared.name.Reserved.{Reserved}
use Rattle.casm_statements.specs.Label.{is_word_head, is_word_byte, is_word, is_label, reserved_word}
use Rattle.casm_tokens.specs.declared.fault.SyntaxKind.{SyntaxKind}
use Rattle.casm_tokens.specs.declared.fault.SyntaxKind.TheVariants as kind
use Rattle.casm_tokens.specs.declared.marks.Symbol.{Symbol}
use Rattle.casm_tokens.specs.declared.marks.Symbol.TheVariants.{Increment, AddTo, NotEqual, Open, Close, Plus, Minus, Times, Equal, Semicolon, Comma, Colon, Percent}
use Rattle.casm_tokens.specs.Marks.{Mark, Sign, Keyword, Label, Number, Placed}
use Rattle.casm_tokens.specs.Tokens.{is_blank, begins_comment, sign_text, is_numeral, HasShape, IsLongest, Says, Part, Blank, Lexed, Comment, bytes_of, IsPart, Parted, placed_from, CutsInto, IsBad, StopsAt}
use Rattle.casm_tokens.specs.Pieces.{Piece, Over, Gap, Cut, Bad, number_piece, word_mark, run_piece, sign_at, sign_piece, piece_at, Scanned, after, scan_from, scan}
use Rattle.casm_tokens.proofs.Numbers.{number_read, number_bad, number_large}
use Rattle.casm_tokens.proofs.Scans.{scan_cut, scan_gap, scan_over, scan_bad}
use Rattle.casm_tokens.proofs.Shapes.{both, IsRun, run_of, shape_of, shape_some, ends_run, ends_of_longest, sign_length, sign_is, sign_of_longest}

-- a byte that a word goes on with is no other
not_byte : (n b : ℕ) → is_word_byte n ≡ false → is_word_byte b ≡ true → nat_eq b n ≡ false
not_byte n b other is =
    elim (nat_eq b n) as (λ t. nat_eq b n ≡ t → t ≡ false) [
      | true ↦ λ e. let same : b ≡ n = eqb-true b n e in let f : is_word_byte b ≡ is_word_byte n = ap is_word_byte same in cc
      | false ↦ λ e. refl
    ] refl

other_byte : (n b : ℕ) → is_word_byte n ≡ false → is_word_byte b ≡ true → nat_eq n b ≡ false
other_byte n b other is =
    elim (nat_eq n b) as (λ t. nat_eq n b ≡ t → t ≡ false) [
      | true ↦ λ e. let same : n ≡ b = eqb-true n b e in let f : is_word_byte n ≡ is_word_byte b = ap is_word_byte same in cc
      | false ↦ λ e. refl
    ] refl

no_blank : (b : ℕ) → is_word_byte b ≡ true → is_blank b ≡ false
no_blank b is = rw (not_byte 32 b refl is, not_byte 9 b refl is, not_byte 13 b refl is) refl

no_comment : (b : ℕ) (bs : List ℕ) → is_word_byte b ≡ true → begins_comment (b ∷ bs) ≡ false
no_comment b bs is = rw (other_byte 47 b refl is, other_byte 35 b refl is) refl

second : (x y : Bool) (g o r : Piece) → x ≡ false → y ≡ true → cond x g (cond y o r) ≡ o
second x y g o r e f = rw (e, f) refl

third : (x y z : Bool) (g o r s : Piece) → x ≡ false → y ≡ false → z ≡ true → cond x g (cond y o (cond z r s)) ≡ r
third x y z g o r s e f h = rw (e, f, h) refl

fourth : (x y z : Bool) (g o r s : Piece) → x ≡ false → y ≡ false → z ≡ false → cond x g (cond y o (cond z r s)) ≡ s
fourth x y z g o r s e f h = rw (e, f, h) refl

prefix-run : (w t : List ℕ) → list_all is_word_byte w ≡ true → ends_run t ≡ true → prefix_len is_word_byte (w ++ t) ≡ length w
prefix-run [] [] h e = refl
prefix-run [] (b ∷ bs) h e = elim (is_word_byte b) as (λ x. not x ≡ true → cond x (1 + prefix_len is_word_byte bs) 0 ≡ 0) [ true ↦ λ e. cc | false ↦ λ e. refl ] e
prefix-run (b ∷ bs) t h e =
    elim (is_word_byte b) as (λ x. (x && list_all is_word_byte bs) ≡ true → cond x (1 + prefix_len is_word_byte (bs ++ t)) 0 ≡ suc (length bs)) [
      | true ↦ λ h. rw (prefix-run bs t h e, one-add) refl
      | false ↦ λ h. cc
    ] h

-- a run is one piece
pub piece-run : (w t : List ℕ) → IsRun w → ends_run t ≡ true → piece_at (w ++ t) ≡ run_piece w
unfolding piece_at
piece-run [] t r e = absurd (let h = r.some in omega arith)
piece-run (b ∷ bs) t r e =
    let is = (both (is_word_byte b) (list_all is_word_byte bs) r.bytes).0 in
    third (is_blank b) (begins_comment (b ∷ (bs ++ t))) (is_word_byte b) Gap Over (run_piece (take (prefix_len is_word_byte (b ∷ (bs ++ t))) (b ∷ (bs ++ t)))) (sign_piece (sign_at (b ∷ (bs ++ t)))) (no_blank b is) (no_comment b (bs ++ t) is) is
    ∙ ap run_piece (ap (λ n. take n (b ∷ (bs ++ t))) (prefix-run (b ∷ bs) t r.bytes e) ∙ take-append_seam (b ∷ bs) t)

-- a sign is one
piece-sign : (s : Symbol) (t : List ℕ) → piece_at (sign_text s ++ t) ≡ sign_piece (sign_at (sign_text s ++ t))
unfolding piece_at
piece-sign Increment t = refl
piece-sign AddTo t = refl
piece-sign NotEqual t = refl
piece-sign Open t = refl
piece-sign Close t = refl
piece-sign Plus t = refl
piece-sign Minus t = refl
piece-sign Times t = refl
piece-sign Equal t = refl
piece-sign Semicolon t = refl
piece-sign Comma t = refl
piece-sign Colon t = refl
piece-sign Percent t = refl

-- a blank
piece-blank : (b : ℕ) (t : List ℕ) → is_blank b ≡ true → piece_at (b ∷ t) ≡ Gap
unfolding piece_at
piece-blank b t h = rw h refl

comment_head : (b : ℕ) (bs : List ℕ) → begins_comment (b ∷ bs) ≡ true → is_blank b ≡ false
comment_head b bs h = by_test (nat_eq 47 b) (nat_eq 35 b) (starts_with nat_eq bs (47 ∷ [])) refl refl h
  where
    by_test : (x y z : Bool) → nat_eq 47 b ≡ x → nat_eq 35 b ≡ y → ((x && z) || (y && true)) ≡ true → is_blank b ≡ false
    by_test true y z e f h = subst (λ c. is_blank c ≡ false) (eqb-true 47 b e) refl
    by_test false true z e f h = subst (λ c. is_blank c ≡ false) (eqb-true 35 b f) refl
    by_test false false z e f h = cc

piece-comment : (bs : List ℕ) → begins_comment bs ≡ true → piece_at bs ≡ Over
unfolding piece_at
piece-comment [] h = refl
piece-comment (b ∷ bs) h = second (is_blank b) (begins_comment (b ∷ bs)) Gap Over (cond (is_word_byte b) (run_piece (take (prefix_len is_word_byte (b ∷ bs)) (b ∷ bs))) (sign_piece (sign_at (b ∷ bs)))) (comment_head b bs h) h

-- words and numbers
numeral_piece : (w : List ℕ) → is_numeral w ≡ true → run_piece w ≡ number_piece w
unfolding run_piece
numeral_piece [] h = cc
numeral_piece (b ∷ bs) h = rw (both (is_ascii_digit b) (list_all is_word_byte bs) h).0 refl

head_no_digit : (b : ℕ) → is_word_head b ≡ true → is_ascii_digit b ≡ false
head_no_digit b h = grind (arith, nat_tests)

word_piece : (w : List ℕ) → is_word w ≡ true → run_piece w ≡ Cut (length w) (word_mark (reserved_word w) w)
unfolding run_piece
word_piece [] h = cc
word_piece (b ∷ bs) h = rw (head_no_digit b (both (is_word_head b) (list_all is_word_byte bs) h).0) refl

label_parts : (w : List ℕ) → is_label w ≡ true → (is_word w ≡ true) × (reserved_word w ≡ None)
unfolding is_label
label_parts w h = let p = both (is_word w) (is_none (reserved_word w)) h in (p.0, none (reserved_word w) p.1)
  where
    none : (o : Option Reserved) → is_none o ≡ true → o ≡ None
    none None h = refl
    none (Some r) h = cc

run_piece-at : (w t : List ℕ) → IsLongest w t → (is_word w ≡ true) ⊎ (is_numeral w ≡ true) → piece_at (w ++ t) ≡ run_piece w
run_piece-at w t l h = let r = run_of w h in piece-run w t r (ends_of_longest w t r l)

-- a token is cut
token_piece : (w t : List ℕ) (m : Mark) → IsLongest w t → Says w m → piece_at (w ++ t) ≡ Cut (length w) m
unfolding sign_piece word_mark
token_piece w t (Sign s) l e =
    let longest = subst (λ (x : List ℕ). IsLongest x t) e l in
    ap (λ x. piece_at (x ++ t)) e ∙ piece-sign s t ∙ ap sign_piece (sign_of_longest s t longest) ∙ ap (λ n. Cut n (Sign s)) (sign_length s ∙ sym (ap length e))
token_piece w t (Keyword r) l (h, e) =
    run_piece-at w t l (inl h) ∙ word_piece w h ∙ ap (λ o. Cut (length w) (word_mark o w)) e
token_piece w t (Label text) l (h, e) =
    let p = label_parts w h in
    run_piece-at w t l (inl p.0) ∙ word_piece w p.0 ∙ ap (λ o. Cut (length w) (word_mark o w)) p.1 ∙ ap (λ x. Cut (length w) (Label x)) e
token_piece w t (Number v) l (h, e) =
    run_piece-at w t l (inr h) ∙ numeral_piece w h ∙ number_read w v e

-- and so is what is no token
nothing_piece : (b : ℕ) (bs : List ℕ) → is_blank b ≡ false → begins_comment (b ∷ bs) ≡ false → ((front others : List ℕ) → b ∷ bs ≡ front ++ others → HasShape front → ⊥) → piece_at (b ∷ bs) ≡ Bad kind.Char
unfolding piece_at sign_piece
nothing_piece b bs blank comment none =
    fourth (is_blank b) (begins_comment (b ∷ bs)) (is_word_byte b) Gap Over (run_piece (take (prefix_len is_word_byte (b ∷ bs)) (b ∷ bs))) (sign_piece (sign_at (b ∷ bs))) blank comment (byte (is_word_byte b) refl)
    ∙ ap sign_piece (sign (sign_at (b ∷ bs)) refl)
  where
    byte : (x : Bool) → is_word_byte b ≡ x → x ≡ false
    byte false e = refl
    byte true e = absurd (none (b ∷ []) bs refl (inr (shape_of (b ∷ []) (record { some = omega arith; bytes = rw e refl }))))

    sign : (o : Option Symbol) → sign_at (b ∷ bs) ≡ o → o ≡ None
    sign None e = refl
    sign (Some s) e = let p = sign_is (b ∷ bs) s e in absurd (none (sign_text s) p.0 p.1 (inl (s, refl)))

bad_piece : (k : SyntaxKind) (bs : List ℕ) → IsBad k bs → piece_at bs ≡ Bad k
bad_piece kind.Char bs h =
    ap piece_at h.some ∙ nothing_piece h.first h.rest h.no_blank (ap begins_comment (sym h.some) ∙ h.no_comment) (λ front others e s. h.no_token front others (h.some ∙ e) s)
bad_piece kind.Number bs h =
    ap piece_at h.parts ∙ run_piece-at h.text h.rest h.longest (inr h.numeral) ∙ numeral_piece h.text h.numeral ∙ number_bad h.text h.stated
bad_piece kind.Range bs h =
    ap piece_at h.parts ∙ run_piece-at h.text h.rest h.longest (inr h.numeral) ∙ numeral_piece h.text h.numeral ∙ number_large h.text h.stated
bad_piece kind.Token bs h = absurd h

-- no part and no fault is empty
part_some : (p : Part) (others : List ℕ) → IsPart p others → 0 < length (bytes_of p)
part_some (Blank b) others h = omega arith
part_some (Lexed w m) others h = shape_some w h.0.shape
part_some (Comment []) others h = let e = h.0 in cc
part_some (Comment (b ∷ bs)) others h = omega arith

pub bad_some : (k : SyntaxKind) (bs : List ℕ) → IsBad k bs → bs ≡ [] → ⊥
unfolding piece_at
bad_some k bs h e = let b = bad_piece k bs h in let c : piece_at bs ≡ Over = ap piece_at e in cc

parted_nil : (bs : List ℕ) (ps : List Part) (rest : List ℕ) → bs ≡ [] → Parted bs ps rest → (ps ≡ []) × (rest ≡ [])
parted_nil bs [] rest e h = (refl, sym h ∙ e)
parted_nil bs (p ∷ ps) rest e (others, is, part, more) =
    let some = part_some p others part in
    let size : length bs ≡ length (bytes_of p) + length others = ap length is ∙ length-append (bytes_of p) others in
    let none : length bs ≡ 0 = ap length e in
    absurd (omega arith)

-- a scan's answer
abbrev pub answer : List Placed → Option (ℕ × SyntaxKind) → Scanned
answer tokens stop = record { placed = tokens; stop = stop }

-- the parts up to the end or to a place where no token stands are scanned so
abbrev pub Ended : ℕ → List ℕ → Option (ℕ × SyntaxKind) → Type 0
Ended size rest None = rest ≡ []
Ended size rest (Some s) = (s.0 + length rest ≡ size) × IsBad s.1 rest

scan_rest : (at : ℕ) (rest : List ℕ) (o : Option (ℕ × SyntaxKind)) → Ended (at + length rest) rest o → scan_from 0 at rest ≡ answer [] o
unfolding piece_at
scan_rest at rest None e = scan_over at rest (ap piece_at e)
scan_rest at rest (Some s) (e, h) =
    let same : at ≡ s.0 = omega arith in
    scan_bad at rest s.1 (bad_piece s.1 rest h) ∙ ap (λ n. answer [] (Some (n, s.1))) same

scan_parts : (ps : List Part) (at size : ℕ) (bs rest : List ℕ) (o : Option (ℕ × SyntaxKind)) → Parted bs ps rest → size ≡ at + length bs → Ended size rest o → scan_from 0 at bs ≡ answer (placed_from at ps) o
scan_parts [] at size bs rest o h e d =
    let same : size ≡ at + length rest = e ∙ ap (λ x. at + length x) h in
    ap (λ x. scan_from 0 at x) h ∙ scan_rest at rest o (subst (λ n. Ended n rest o) same d)
scan_parts (Blank b ∷ ps) at size bs rest o (others, is, part, more) e d =
    ap (λ x. scan_from 0 at x) is
    ∙ scan_gap at (b ∷ others) (omega arith) (piece-blank b others part)
    ∙ scan_parts ps (at + 1) size others rest o more (let l : length bs ≡ suc (length others) = ap length is in omega arith) d
scan_parts (Lexed w m ∷ ps) at size bs rest o (others, is, part, more) e d =
    let some = shape_some w part.0.shape in
    let long : length (w ++ others) ≡ length w + length others = length-append w others in
    let l : length bs ≡ length (w ++ others) = ap length is in
    ap (λ x. scan_from 0 at x) is
    ∙ scan_cut (length w) at m (w ++ others) some (omega arith) (token_piece w others m part.0 part.1)
    ∙ ap (λ x. after (record { start = at; end = at + length w; mark = m } ∷ []) (scan_from 0 (at + length w) x)) (drop-append_seam w others)
    ∙ ap (λ x. after (record { start = at; end = at + length w; mark = m } ∷ []) x) (scan_parts ps (at + length w) size others rest o more (omega arith) d)
scan_parts (Comment w ∷ ps) at size bs rest o (others, is, part, more) e d =
    let last = parted_nil others ps rest part.1 more in
    let same : bs ≡ w = is ∙ ap (λ x. w ++ x) part.1 ∙ append-nil w in
    ap (λ x. scan_from 0 at x) same
    ∙ scan_over at w (piece-comment w part.0)
    ∙ by_end o (placed_none last.0) (subst (λ (x : List ℕ). Ended size x o) last.1 d)
  where
    placed_none : ps ≡ [] → placed_from (at + length w) ps ≡ []
    placed_none e = ap (λ x. placed_from (at + length w) x) e

    by_end : (o : Option (ℕ × SyntaxKind)) → placed_from (at + length w) ps ≡ [] → Ended size [] o → answer [] None ≡ answer (placed_from (at + length w) ps) o
    by_end None e h = ap (λ x. answer x None) (sym e)
    by_end (Some s) e h = absurd (bad_some s.1 [] h.1 refl)

-- the tokens of a line are scanned, and where one stops the scan does
pub cuts_scan : (line : List ℕ) (tokens : List Placed) → CutsInto line tokens → scan line ≡ answer tokens None
cuts_scan line tokens h = scan_parts h.parts 0 (length line) line [] None h.parted (omega arith) refl ∙ ap (λ x. answer x None) (sym h.same)

pub stops_scan : (line : List ℕ) (at : ℕ) (k : SyntaxKind) → StopsAt line at k → (scan line).stop ≡ Some (at, k)
stops_scan line at k h = ap (λ s. s.stop) (scan_parts h.parts 0 (length line) line h.rest (Some (at, k)) h.parted (omega arith) (h.place, h.bad))

-- a line has one list of tokens, or one place where it stops
pub cuts_one : (line : List ℕ) (xs ys : List Placed) → CutsInto line xs → CutsInto line ys → xs ≡ ys
cuts_one line xs ys h k = ap (λ s. s.placed) (sym (cuts_scan line xs h) ∙ cuts_scan line ys k)

pub cuts_or_stops : (line : List ℕ) (xs : List Placed) (at : ℕ) (k : SyntaxKind) → CutsInto line xs → StopsAt line at k → ⊥
cuts_or_stops line xs at k h s = let a : (scan line).stop ≡ None = ap (λ s. s.stop) (cuts_scan line xs h) in let b = stops_scan line at k s in cc

pub stops_one : (line : List ℕ) (i j : ℕ) (k l : SyntaxKind) → StopsAt line i k → StopsAt line j l → (i ≡ j) × (k ≡ l)
stops_one line i j k l h s =
    let a = stops_scan line i k h in let b = stops_scan line j l s in
    let e : Some (i, k) ≡ Some (j, l) = sym a ∙ b in
    (ap (λ o. first_or i o) e, ap (λ o. second_or k o) e)
  where
    first_or : ℕ → Option (ℕ × SyntaxKind) → ℕ
    first_or d None = d
    first_or d (Some s) = s.0

    second_or : SyntaxKind → Option (ℕ × SyntaxKind) → SyntaxKind
    second_or d None = d
    second_or d (Some s) = s.1
