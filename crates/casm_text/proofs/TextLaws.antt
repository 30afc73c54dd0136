-- A text has one meaning, or one fault.
use Rattle.std.proofs.Common.{◌≡◌, ℕ, ◌+◌, ◌⊎◌, inl, inr, List, [], ◌∷◌, ◌++◌, length, map, refl, ap, sym, ◌∙◌, subst}
use Rattle.casm_statements.specs.declared.Body.{Body}
use Rattle.casm_statements.specs.declared.Item.{Item}
use Rattle.casm_tokens.specs.declared.fault.SyntaxKind.{SyntaxKind}
use Rattle.casm_tokens.specs.declared.spans.Token.{Token}
use Rattle.casm_tokens.specs.Marks.{Placed, marks}
use Rattle.casm_tokens.specs.Lines.{AreTokens, Fault, HasTokens, HasStop}
use Rattle.casm_tokens.proofs.Complete.{cuts_one}
use Rattle.casm_tokens.proofs.TokenLaws.{same_lines, same_fault, one_stop, not_both as tokens_or_stop, either as tokens_either}
use Rattle.casm_grammar.specs.Language.{Derives, Kept, HasFault}
use Rattle.casm_grammar.specs.Grammar.{whole_line}
use Rattle.casm_grammar.proofs.LineLaws.{fault_excludes, one_fault as line_one_fault, line_or_fault}
use Rattle.casm_text.specs.Meaning.{item_on, AreItems, bodies, MeansBodies, column_at, IsWrong, IsRight, IsFirstWrong, IsTextFault}
use Rattle.casm_text.proofs.Parses.{Reads-one}

pub one_meaning : (text : List ℕ) (v w : List Body) → MeansBodies text v → MeansBodies text w → v ≡ w
one_meaning text v w h k = sym h.same ∙ ap bodies (Reads-one text h.items k.items h.reads k.reads) ∙ k.same

-- a line is right, or has one fault
right_or_wrong : (n : ℕ) (bytes : List ℕ) (f : Fault) → IsWrong n bytes f → IsRight bytes → ⊥
right_or_wrong n bytes f w r =
    fault_excludes (marks w.tokens) w.at f.kind r.meant w.fault (subst (λ (x : List Placed). Derives Kept whole_line r.meant (marks x)) (cuts_one bytes r.tokens w.tokens r.cut w.cut) r.derives)

wrong_one : (n : ℕ) (bytes : List ℕ) (f g : Fault) → IsWrong n bytes f → IsWrong n bytes g → f ≡ g
wrong_one n bytes f g w v =
    let tokens : w.tokens ≡ v.tokens = cuts_one bytes w.tokens v.tokens w.cut v.cut in
    let same = line_one_fault (marks v.tokens) w.at v.at f.kind g.kind (subst (λ (x : List Placed). HasFault whole_line (marks x) w.at f.kind) tokens w.fault) v.fault in
    same_fault f g (w.line ∙ sym v.line) (w.column ∙ ap (λ x. column_at 0 x w.at) tokens ∙ ap (λ x. column_at 0 v.tokens x) same.0 ∙ sym v.column) same.1

wrong_lines_one : (ls : List (List ℕ)) (n : ℕ) (f g : Fault) → IsFirstWrong n ls f → IsFirstWrong n ls g → f ≡ g
wrong_lines_one [] n f g h k = absurd h
wrong_lines_one (l ∷ ls) n f g (inl w) (inl v) = wrong_one n l f g w v
wrong_lines_one (l ∷ ls) n f g (inl w) (inr k) = absurd (right_or_wrong n l f w k.0)
wrong_lines_one (l ∷ ls) n f g (inr h) (inl v) = absurd (right_or_wrong n l g v h.0)
wrong_lines_one (l ∷ ls) n f g (inr h) (inr k) = wrong_lines_one ls (n + 1) f g h.1 k.1

pub one_fault : (text : List ℕ) (f g : Fault) → IsTextFault text f → IsTextFault text g → f ≡ g
one_fault text f g (inl h) (inl k) = one_stop text f g h k
one_fault text f g (inl h) (inr k) = absurd (tokens_or_stop text k.tokens f k.cut h)
one_fault text f g (inr h) (inl k) = absurd (tokens_or_stop text h.tokens g h.cut k)
one_fault text f g (inr h) (inr k) =
    wrong_lines_one k.lines 1 f g (subst (λ (ls : List (List ℕ)). IsFirstWrong 1 ls f) (same_lines text h.lines k.lines h.are_lines k.are_lines) h.first) k.first

-- lines that are cut mean items, or one of them is wrong
lines_mean : (ls : List (List ℕ)) (n start : ℕ) (xs : List Token) → AreTokens n start ls xs → ((items : List Item) × AreItems n ls items) ⊎ ((f : Fault) × IsFirstWrong n ls f)
lines_mean [] n start xs h = inl ([], refl)
lines_mean (l ∷ ls) n start xs (t, more, e, cut, h) = by_line (line_or_fault (marks t)) (lines_mean ls (n + 1) (start + length l + 1) more h)
  where
    by_line : ((v : List Body) × Derives Kept whole_line v (marks t)) ⊎ ((at : ℕ) × (k : SyntaxKind) × HasFault whole_line (marks t) at k) → ((items : List Item) × AreItems (n + 1) ls items) ⊎ ((f : Fault) × IsFirstWrong (n + 1) ls f) → ((items : List Item) × AreItems n (l ∷ ls) items) ⊎ ((f : Fault) × IsFirstWrong n (l ∷ ls) f)
    by_line (inl (v, d)) (inl (items, r)) = inl (map (item_on n) v ++ items, (t, v, items, refl, cut, d, r))
    by_line (inl (v, d)) (inr (f, r)) = inr (f, inr (record { tokens = t; cut = cut; meant = v; derives = d }, r))
    by_line (inr (at, k, d)) rest = inr (record { line = n; column = column_at 0 t at; kind = k }, inl (record { tokens = t; cut = cut; at = at; fault = d; line = refl; column = refl }))

-- a text means something, or has a fault
pub either : (text : List ℕ) → ((meant : List Body) × MeansBodies text meant) ⊎ ((f : Fault) × IsTextFault text f)
either text = by_tokens (tokens_either text)
  where
    by_items : (xs : List Token) (h : HasTokens text xs) → ((items : List Item) × AreItems 1 h.lines items) ⊎ ((f : Fault) × IsFirstWrong 1 h.lines f) → ((meant : List Body) × MeansBodies text meant) ⊎ ((f : Fault) × IsTextFault text f)
    by_items xs h (inl (items, r)) = inl (bodies items, record { items = items; reads = record { lines = h.lines; are_lines = h.are_lines; mean = r }; same = refl })
    by_items xs h (inr (f, r)) = inr (f, inr (record { tokens = xs; cut = h; lines = h.lines; are_lines = h.are_lines; first = r }))

    by_tokens : ((xs : List Token) × HasTokens text xs) ⊎ ((f : Fault) × HasStop text f) → ((meant : List Body) × MeansBodies text meant) ⊎ ((f : Fault) × IsTextFault text f)
    by_tokens (inl (xs, h)) = by_items xs h (lines_mean h.lines 1 0 xs h.are_tokens)
    by_tokens (inr (f, h)) = inr (f, inl h)
