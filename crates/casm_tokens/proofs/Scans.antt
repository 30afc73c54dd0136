-- How a scan goes on.
use Rattle.std.proofs.Common.{◌≡◌, ℕ, suc, zero, ◌+◌, ◌<◌, ◌≤◌, List, [], ◌∷◌, ◌++◌, length, drop, refl, ap, sym, ◌∙◌, arith, append_assoc, add-zero, Some, None, append-nil, length-drop}
use Rattle.casm_tokens.specs.declared.fault.SyntaxKind.{SyntaxKind}
use Rattle.casm_tokens.specs.Marks.{Mark, Placed}
use Rattle.casm_tokens.specs.Pieces.{Over, Gap, Cut, Bad, piece_at, Scanned, after, scan_from, scan}

-- the bytes of a token are passed over
pub scan_inside : (n at : ℕ) (bs : List ℕ) → scan_from n at bs ≡ scan_from 0 (at + n) (drop n bs)
unfolding scan_from
scan_inside zero at [] = refl
scan_inside (suc n) at [] = refl
scan_inside zero at (b ∷ bs) = rw add-zero refl
scan_inside (suc n) at (b ∷ bs) = scan_inside n (at + 1) bs ∙ ap (λ x. scan_from 0 x (drop n bs)) (omega arith)

-- a blank at the front
pub scan_gap : (at : ℕ) (bs : List ℕ) → 0 < length bs → piece_at bs ≡ Gap → scan_from 0 at bs ≡ scan_from 0 (at + 1) (drop 1 bs)
unfolding scan_from
scan_gap at [] h e = absurd (omega arith)
scan_gap at (b ∷ bs) h e = rw e refl

-- a token at the front
pub scan_cut : (n at : ℕ) (m : Mark) (bs : List ℕ) → 0 < n → 0 < length bs → piece_at bs ≡ Cut n m → scan_from 0 at bs ≡ after (record { start = at; end = at + n; mark = m } ∷ []) (scan_from 0 (at + n) (drop n bs))
unfolding scan_from
scan_cut n at m [] p h e = absurd (omega arith)
scan_cut zero at m (b ∷ bs) p h e = absurd (omega arith)
scan_cut (suc n) at m (b ∷ bs) p h e =
    rw e (ap (λ x. after (record { start = at; end = at + suc n; mark = m } ∷ []) x) (ap (λ k. scan_from k (at + 1) bs) (omega arith) ∙ scan_inside n (at + 1) bs ∙ ap (λ x. scan_from 0 x (drop n bs)) (omega arith)))

-- where the line or a comment ends it
pub scan_over : (at : ℕ) (bs : List ℕ) → piece_at bs ≡ Over → scan_from 0 at bs ≡ record { placed = []; stop = None }
unfolding scan_from
scan_over at [] e = refl
scan_over at (b ∷ bs) e = rw e refl

-- where no token stands
pub scan_bad : (at : ℕ) (bs : List ℕ) (k : SyntaxKind) → piece_at bs ≡ Bad k → scan_from 0 at bs ≡ record { placed = []; stop = Some (at, k) }
unfolding scan_from piece_at
scan_bad at [] k e = cc
scan_bad at (b ∷ bs) k e = rw e refl

-- tokens that were found, and one more
pub after_more : (front : List Placed) (t : Placed) (s : Scanned) → after front (after (t ∷ []) s) ≡ after (front ++ t ∷ []) s
after_more front t s = ap (λ (x : List Placed). let r : Scanned = record { placed = x; stop = s.stop } in r) (sym (append_assoc front (t ∷ []) s.placed))

-- the tokens found so far, and what of the line is left
pub record Scans (line : List ℕ) (found : List Placed) (at : ℕ) (rest : List ℕ) : Type 0 where
  pub in_range : at + length rest ≡ length line
  pub scanned : scan line ≡ after found (scan_from 0 at rest)

pub Scans-gap : (line : List ℕ) (found : List Placed) (at : ℕ) (rest next : List ℕ) → Scans line found at rest → 0 < length rest → piece_at rest ≡ Gap → next ≡ drop 1 rest → Scans line found (at + 1) next
Scans-gap line found at rest next s h e is = let l = length-drop 1 rest in record {
  in_range = rw is (omega (arith, s.in_range));
  scanned = rw is (s.scanned ∙ ap (after found) (scan_gap at rest h e));
}

pub Scans-cut : (line : List ℕ) (found more : List Placed) (at n : ℕ) (m : Mark) (rest next : List ℕ) → Scans line found at rest → 0 < n → n ≤ length rest → piece_at rest ≡ Cut n m → next ≡ drop n rest → more ≡ found ++ (record { start = at; end = at + n; mark = m } ∷ []) → Scans line more (at + n) next
Scans-cut line found more at n m rest next s p h e is pushed = let l = length-drop n rest in record {
  in_range = rw is (omega (arith, s.in_range));
  scanned = rw (is, pushed) (s.scanned ∙ ap (after found) (scan_cut n at m rest p (omega arith) e) ∙ after_more found (record { start = at; end = at + n; mark = m }) (scan_from 0 (at + n) (drop n rest)));
}

pub Scans-over : (line : List ℕ) (found : List Placed) (at : ℕ) (rest : List ℕ) → Scans line found at rest → piece_at rest ≡ Over → scan line ≡ record { placed = found; stop = None }
Scans-over line found at rest s e = s.scanned ∙ ap (after found) (scan_over at rest e) ∙ ap (λ (x : List Placed). let r : Scanned = record { placed = x; stop = None } in r) (append-nil found)

pub Scans-bad : (line : List ℕ) (found : List Placed) (at : ℕ) (rest : List ℕ) (k : SyntaxKind) → Scans line found at rest → piece_at rest ≡ Bad k → scan line ≡ record { placed = found; stop = Some (at, k) }
Scans-bad line found at rest k s e = s.scanned ∙ ap (after found) (scan_bad at rest k e) ∙ ap (λ (x : List Placed). let r : Scanned = record { placed = x; stop = Some (at, k) } in r) (append-nil found)
