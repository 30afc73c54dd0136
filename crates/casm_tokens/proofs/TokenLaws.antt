-- A text has one list of tokens, or one least place where none stands.
use Rattle.std.proofs.Common.{◌≡◌, ℕ, ◌+◌, ◌⊎◌, inl, inr, List, [], ◌∷◌, ◌++◌, length, map, refl, ap, sym, ◌∙◌, subst, Option, Some, None}
use Rattle.casm_tokens.specs.declared.fault.SyntaxKind.{SyntaxKind}
use Rattle.casm_tokens.specs.declared.spans.Token.{Token}
use Rattle.casm_tokens.specs.Marks.{Placed}
use Rattle.casm_tokens.specs.Tokens.{CutsInto, StopsAt}
use Rattle.casm_tokens.specs.Lines.{AreLines, Fault, token_at, AreTokens, HasTokens, IsFirstStop, HasStop}
use Rattle.casm_tokens.specs.Pieces.{scan, Scanned}
use Rattle.casm_tokens.proofs.LineLemmas.{lines, are_lines, lines_only}
use Rattle.casm_tokens.proofs.Sound.{scan_cuts, scan_stops}
use Rattle.casm_tokens.proofs.Complete.{cuts_scan, stops_scan, cuts_one, cuts_or_stops, stops_one}

-- the relation is what the scan gives
pub cuts_is : (line : List ℕ) (tokens : List Placed) → (CutsInto line tokens → scan line ≡ record { placed = tokens; stop = None }) × (scan line ≡ record { placed = tokens; stop = None } → CutsInto line tokens)
cuts_is line tokens = (cuts_scan line tokens, scan_cuts line tokens)

pub stops_is : (line : List ℕ) (at : ℕ) (k : SyntaxKind) → (StopsAt line at k → (scan line).stop ≡ Some (at, k)) × ((scan line).stop ≡ Some (at, k) → StopsAt line at k)
stops_is line at k = (stops_scan line at k, scan_stops line at k)

-- a line has tokens or a place where it stops
pub line_has : (line : List ℕ) → ((tokens : List Placed) × CutsInto line tokens) ⊎ ((at : ℕ) × (k : SyntaxKind) × StopsAt line at k)
line_has line = by_stop (scan line).stop refl
  where
    by_stop : (o : Option (ℕ × SyntaxKind)) → (scan line).stop ≡ o → ((tokens : List Placed) × CutsInto line tokens) ⊎ ((at : ℕ) × (k : SyntaxKind) × StopsAt line at k)
    by_stop None e = inl ((scan line).placed, scan_cuts line (scan line).placed (ap (λ (o : Option (ℕ × SyntaxKind)). let r : Scanned = record { placed = (scan line).placed; stop = o } in r) e))
    by_stop (Some s) e = inr (s.0, s.1, scan_stops line s.0 s.1 e)

tokens_same : (ls : List (List ℕ)) (n start : ℕ) (xs ys : List Token) → AreTokens n start ls xs → AreTokens n start ls ys → xs ≡ ys
tokens_same [] n start xs ys h k = h ∙ sym k
tokens_same (l ∷ ls) n start xs ys (t, more, e, c, h) (u, others, f, d, k) =
    e ∙ ap (λ x. map (token_at n start) x ++ more) (cuts_one l t u c d) ∙ ap (λ x. map (token_at n start) u ++ x) (tokens_same ls (n + 1) (start + length l + 1) more others h k) ∙ sym f

pub same_lines : (text : List ℕ) (ls ms : List (List ℕ)) → AreLines text ls → AreLines text ms → ls ≡ ms
same_lines text ls ms h k = lines_only ls text h ∙ sym (lines_only ms text k)

-- a text has one list of tokens at most
pub one_list : (text : List ℕ) (xs ys : List Token) → HasTokens text xs → HasTokens text ys → xs ≡ ys
one_list text xs ys h k =
    tokens_same k.lines 1 0 xs ys (subst (λ (ls : List (List ℕ)). AreTokens 1 0 ls xs) (same_lines text h.lines k.lines h.are_lines k.are_lines) h.are_tokens) k.are_tokens

not_both_lines : (ls : List (List ℕ)) (n start : ℕ) (xs : List Token) (f : Fault) → AreTokens n start ls xs → IsFirstStop n ls f → ⊥
not_both_lines [] n start xs f h k = k
not_both_lines (l ∷ ls) n start xs f (t, more, e, c, h) (inl (at, stop, _, _)) = cuts_or_stops l t at f.kind c stop
not_both_lines (l ∷ ls) n start xs f (t, more, e, c, h) (inr (u, d, k)) = not_both_lines ls (n + 1) (start + length l + 1) more f h k

-- and none where there is a place at which none stands
pub not_both : (text : List ℕ) (xs : List Token) (f : Fault) → HasTokens text xs → HasStop text f → ⊥
not_both text xs f h k =
    not_both_lines k.lines 1 0 xs f (subst (λ (ls : List (List ℕ)). AreTokens 1 0 ls xs) (same_lines text h.lines k.lines h.are_lines k.are_lines) h.are_tokens) k.first

pub same_fault : (f g : Fault) → f.line ≡ g.line → f.column ≡ g.column → f.kind ≡ g.kind → f ≡ g
same_fault f g a b c =
    ap (λ (n : ℕ). let r : Fault = record { line = n; column = f.column; kind = f.kind } in r) a
    ∙ ap (λ (n : ℕ). let r : Fault = record { line = g.line; column = n; kind = f.kind } in r) b
    ∙ ap (λ (k : SyntaxKind). let r : Fault = record { line = g.line; column = g.column; kind = k } in r) c

stops_same : (ls : List (List ℕ)) (n : ℕ) (f g : Fault) → IsFirstStop n ls f → IsFirstStop n ls g → f ≡ g
stops_same [] n f g h k = absurd h
stops_same (l ∷ ls) n f g (inl (at, stop, a, b)) (inl (to, also, c, d)) =
    let e = stops_one l at to f.kind g.kind stop also in
    same_fault f g (a ∙ sym c) (b ∙ ap (λ x. x + 1) e.0 ∙ sym d) e.1
stops_same (l ∷ ls) n f g (inl (at, stop, a, b)) (inr (t, cut, k)) = absurd (cuts_or_stops l t at f.kind cut stop)
stops_same (l ∷ ls) n f g (inr (t, cut, h)) (inl (to, also, c, d)) = absurd (cuts_or_stops l t to g.kind cut also)
stops_same (l ∷ ls) n f g (inr (t, cut, h)) (inr (u, also, k)) = stops_same ls (n + 1) f g h k

-- the place is one
pub one_stop : (text : List ℕ) (f g : Fault) → HasStop text f → HasStop text g → f ≡ g
one_stop text f g h k =
    stops_same k.lines 1 f g (subst (λ (ls : List (List ℕ)). IsFirstStop 1 ls f) (same_lines text h.lines k.lines h.are_lines k.are_lines) h.first) k.first

either_lines : (ls : List (List ℕ)) (n start : ℕ) → ((xs : List Token) × AreTokens n start ls xs) ⊎ ((f : Fault) × IsFirstStop n ls f)
either_lines [] n start = inl ([], refl)
either_lines (l ∷ ls) n start = by_line (line_has l) (either_lines ls (n + 1) (start + length l + 1))
  where
    by_line : ((tokens : List Placed) × CutsInto l tokens) ⊎ ((at : ℕ) × (k : SyntaxKind) × StopsAt l at k) → ((xs : List Token) × AreTokens (n + 1) (start + length l + 1) ls xs) ⊎ ((f : Fault) × IsFirstStop (n + 1) ls f) → ((xs : List Token) × AreTokens n start (l ∷ ls) xs) ⊎ ((f : Fault) × IsFirstStop n (l ∷ ls) f)
    by_line (inl (t, cut)) (inl (more, h)) = inl (map (token_at n start) t ++ more, (t, more, refl, cut, h))
    by_line (inl (t, cut)) (inr (f, h)) = inr (f, inr (t, cut, h))
    by_line (inr (at, k, stop)) rest = inr (record { line = n; column = at + 1; kind = k }, inl (at, stop, refl, refl))

-- a text has tokens, or such a place
pub either : (text : List ℕ) → ((xs : List Token) × HasTokens text xs) ⊎ ((f : Fault) × HasStop text f)
either text = by_lines (either_lines (lines text) 1 0)
  where
    by_lines : ((xs : List Token) × AreTokens 1 0 (lines text) xs) ⊎ ((f : Fault) × IsFirstStop 1 (lines text) f) → ((xs : List Token) × HasTokens text xs) ⊎ ((f : Fault) × HasStop text f)
    by_lines (inl (xs, h)) = inl (xs, record { lines = lines text; are_lines = are_lines text; are_tokens = h })
    by_lines (inr (f, h)) = inr (f, record { lines = lines text; are_lines = are_lines text; first = h })
