-- Printed items are read back.
use Rattle.std.proofs.Common.{◌≡◌, ℕ, suc, ◌+◌, List, [], ◌∷◌, refl, ap, inl, inr, sym, subst, arith, Option, None}
use Rattle.std.specs.Prelude.{All}
use Rattle.casm_statements.specs.declared.Item.{Item}
use Rattle.casm_statements.specs.declared.Body.{Body}
use Rattle.casm_tokens.specs.declared.fault.SyntaxKind.{SyntaxKind}
use Rattle.casm_tokens.specs.Tokens.{CutsInto}
use Rattle.casm_tokens.specs.Pieces.{Scanned, scan}
use Rattle.casm_tokens.proofs.LineLemmas.{lines, are_lines, lines_line}
use Rattle.casm_tokens.proofs.Sound.{scan_cuts}
use Rattle.casm_grammar.specs.Language.{Derives, Kept}
use Rattle.casm_grammar.specs.Grammar.{whole_line}
use Rattle.casm_text.specs.Canonical.{body_text, printed}
use Rattle.casm_text.specs.Meaning.{item_on, AreItems, bodies, MeansBodies}
use Rattle.casm_text.specs.Bounds.{IsBody}
use Rattle.casm_text.proofs.Fits.{Fits}
use Rattle.casm_text.proofs.Shows.{body_step}

-- what is read of printed items
record IsBack (n : ℕ) (ls : List (List ℕ)) (items : List Item) : Type 0 where
  read : List Item
  same : bodies read ≡ bodies items
  mean : AreItems n ls read

nothing_cut : CutsInto [] []
nothing_cut = record { parts = []; parted = refl; same = refl }

nothing_meant : Derives Kept whole_line [] []
unfolding whole_line
nothing_meant = inr (inl (inl (refl, refl)))

IsBack-none : (n : ℕ) → IsBack n (lines []) []
unfolding lines
IsBack-none n = record { read = []; same = refl; mean = ([], [], [], refl, nothing_cut, nothing_meant, refl) }

whole_scan : (w : List ℕ) → (scan w).stop ≡ None → CutsInto w (scan w).placed
whole_scan w e = scan_cuts w (scan w).placed (ap (λ (o : Option (ℕ × SyntaxKind)). let r : Scanned = record { placed = (scan w).placed; stop = o } in r) e)

IsBack-more : (n : ℕ) (w : List ℕ) (ls : List (List ℕ)) (i : Item) (items : List Item) → Fits whole_line (i.body ∷ []) w → IsBack (n + 1) ls items → IsBack n (w ∷ ls) (i ∷ items)
IsBack-more n w ls i items f h = record {
  read = item_on n i.body ∷ h.read;
  same = ap (λ (x : List Body). i.body ∷ x) h.same;
  mean = ((scan w).placed, i.body ∷ [], h.read, refl, whole_scan w (f.stop 0), f.derives 0, h.mean);
}

back : (n : ℕ) (items : List Item) → All (λ i. IsBody i.body) items → IsBack n (lines (printed items)) items
unfolding printed
back n [] h = IsBack-none n
back n (i ∷ is) h =
    let f = body_step i.body (h 0 i (omega arith)) in
    subst (λ (ls : List (List ℕ)). IsBack n ls (i ∷ is)) (sym (lines_line (body_text i.body) (printed is) f.no_feed)) (IsBack-more n (body_text i.body) (lines (printed is)) i is f (back (n + 1) is (λ k d p. h (suc k) d (omega arith))))

-- printed items mean what was printed
pub printed-means : (items : List Item) → All (λ i. IsBody i.body) items → MeansBodies (printed items) (bodies items)
printed-means items h =
    let b = back 1 items h in
    record { items = b.read; reads = record { lines = lines (printed items); are_lines = are_lines (printed items); mean = b.mean }; same = b.same }
