-- The lines of a text that are read so far.
use Rattle.std.proofs.Common.{◌≡◌, ℕ, ◌+◌, inl, inr, List, [], ◌∷◌, ◌++◌, length, map, refl, ap, sym, ◌∙◌, subst, append_assoc, append-nil, Option, Some, None}
use Rattle.casm_statements.specs.declared.Body.{Body}
use Rattle.casm_statements.specs.declared.Item.{Item}
use Rattle.casm_tokens.specs.declared.fault.SyntaxKind.{SyntaxKind}
use Rattle.casm_tokens.specs.declared.spans.Token.{Token}
use Rattle.casm_tokens.specs.Marks.{Placed, marks}
use Rattle.casm_tokens.specs.Tokens.{CutsInto, StopsAt}
use Rattle.casm_tokens.specs.Lines.{token_at, AreTokens, Fault, IsFirstStop}
use Rattle.casm_tokens.proofs.LineLemmas.{lines, are_lines}
use Rattle.casm_tokens.proofs.Complete.{cuts_one, cuts_or_stops}
use Rattle.casm_tokens.proofs.TokenLaws.{same_lines}
use Rattle.casm_grammar.specs.Language.{Derives, Kept}
use Rattle.casm_grammar.specs.Grammar.{whole_line}
use Rattle.casm_grammar.proofs.LineLaws.{fault_excludes, one_meaning}
use Rattle.casm_text.specs.declared.parser.Wrong.{Wrong}
use Rattle.casm_text.specs.Meaning.{item_on, AreItems, Reads, bodies, MeansBodies, IsFirstWrong, IsTextFault}
use Rattle.casm_text.specs.Views.{GoesOn}

-- a place where a line is none of the grammar, as a fault
abbrev pub fault_of : Wrong → Fault
fault_of w = record { line = w.line; column = w.column; kind = w.kind }

-- the tokens of the lines from here on, and their first place where none stands, are what is left of the text's
pub record IsCut (text : List ℕ) (n start : ℕ) (ls : List (List ℕ)) : Type 0 where
  pub found : List Token
  pub are_tokens : (more : List Token) → AreTokens n start ls more → AreTokens 1 0 (lines text) (found ++ more)
  pub first_stop : (f : Fault) → IsFirstStop n ls f → IsFirstStop 1 (lines text) f

-- what they mean is what is left of the text's meaning, and so is their first fault
pub record IsHeld (text : List ℕ) (items : List Item) (n : ℕ) (ls : List (List ℕ)) : Type 0 where
  pub mean : (more : List Item) → AreItems n ls more → AreItems 1 (lines text) (items ++ more)
  pub wrong : (f : Fault) → IsFirstWrong n ls f → IsFirstWrong 1 (lines text) f

abbrev pub State : List ℕ → List Item → Option Wrong → ℕ → List (List ℕ) → Type 0
State text items None n ls = IsHeld text items n ls
State text items (Some w) n ls = IsFirstWrong 1 (lines text) (fault_of w)

pub record Parses (text : List ℕ) (items : List Item) (wrong : Option Wrong) (n : ℕ) (ls : List (List ℕ)) : Type 0 where
  pub start : ℕ
  pub cut : IsCut text n start ls
  pub state : State text items wrong n ls

pub Parses-start : (text : List ℕ) → Parses text [] None 1 (lines text)
Parses-start text = record {
  start = 0;
  cut = record { found = []; are_tokens = λ more h. h; first_stop = λ f h. h };
  state = record { mean = λ more h. h; wrong = λ f h. h };
}

-- a line whose tokens are cut
cut_more : (text : List ℕ) (n start : ℕ) (bytes : List ℕ) (others : List (List ℕ)) (tokens : List Placed) → IsCut text n start (bytes ∷ others) → CutsInto bytes tokens → IsCut text (n + 1) (start + length bytes + 1) others
cut_more text n start bytes others tokens c cut = record {
  found = c.found ++ map (token_at n start) tokens;
  are_tokens = λ more h. subst (λ (x : List Token). AreTokens 1 0 (lines text) x) (sym (append_assoc c.found (map (token_at n start) tokens) more)) (c.are_tokens (map (token_at n start) tokens ++ more) (tokens, more, refl, cut, h));
  first_stop = λ f h. c.first_stop f (inr (tokens, cut, h));
}

state_more : (text : List ℕ) (old new : List Item) (wrong next : Option Wrong) (n : ℕ) (bytes : List ℕ) (others : List (List ℕ)) (tokens : List Placed) → State text old wrong n (bytes ∷ others) → CutsInto bytes tokens → GoesOn wrong n tokens old new next → State text new next (n + 1) others
state_more text old new (Some w) next n bytes others tokens s cut g = subst (λ (o : Option Wrong). State text new o (n + 1) others) (sym g) s
state_more text old new None None n bytes others tokens s cut g = record {
  mean = λ more h. subst (λ (x : List Item). AreItems 1 (lines text) x) (sym (ap (λ x. x ++ more) g.1 ∙ append_assoc old (map (item_on n) g.0) more)) (s.mean (map (item_on n) g.0 ++ more) (tokens, g.0, more, refl, cut, g.2, h));
  wrong = λ f h. s.wrong f (inr (record { tokens = tokens; cut = cut; meant = g.0; derives = g.2 }, h));
}
state_more text old new None (Some w) n bytes others tokens s cut g =
    s.wrong (fault_of w) (inl (record { tokens = tokens; cut = cut; at = g.0; fault = g.1; line = g.2; column = g.3 }))

pub Parses-line : (text : List ℕ) (old new : List Item) (wrong next : Option Wrong) (n : ℕ) (bytes : List ℕ) (others : List (List ℕ)) (tokens : List Placed) → Parses text old wrong n (bytes ∷ others) → CutsInto bytes tokens → GoesOn wrong n tokens old new next → Parses text new next (n + 1) others
Parses-line text old new wrong next n bytes others tokens p cut g = record {
  start = p.start + length bytes + 1;
  cut = cut_more text n p.start bytes others tokens p.cut cut;
  state = state_more text old new wrong next n bytes others tokens p.state cut g;
}

pub Parses-stop : (text : List ℕ) (items : List Item) (wrong : Option Wrong) (n : ℕ) (bytes : List ℕ) (others : List (List ℕ)) (at : ℕ) (k : SyntaxKind) → Parses text items wrong n (bytes ∷ others) → StopsAt bytes at k → IsTextFault text (record { line = n; column = at + 1; kind = k })
Parses-stop text items wrong n bytes others at k p stop = inl (record {
  lines = lines text;
  are_lines = are_lines text;
  first = p.cut.first_stop (record { line = n; column = at + 1; kind = k }) (inl (at, stop, refl, refl));
})

-- all lines are read
pub Parses-reads : (text : List ℕ) (items : List Item) (n : ℕ) → Parses text items None n [] → Reads text items
Parses-reads text items n p = record {
  lines = lines text;
  are_lines = are_lines text;
  mean = subst (λ (x : List Item). AreItems 1 (lines text) x) (append-nil items) (p.state.mean [] refl);
}

pub Parses-wrong : (text : List ℕ) (items : List Item) (w : Wrong) (n : ℕ) → Parses text items (Some w) n [] → IsTextFault text (fault_of w)
Parses-wrong text items w n p = inr (record {
  tokens = p.cut.found ++ [];
  cut = record { lines = lines text; are_lines = are_lines text; are_tokens = p.cut.are_tokens [] refl };
  lines = lines text;
  are_lines = are_lines text;
  first = p.state;
})

-- lines mean one list of items
AreItems-one : (n : ℕ) (ls : List (List ℕ)) (xs ys : List Item) → AreItems n ls xs → AreItems n ls ys → xs ≡ ys
AreItems-one n [] xs ys h k = h ∙ sym k
AreItems-one n (l ∷ ls) xs ys (t, v, rest, e, cut, d, h) (u, w, others, f, also, c, k) =
    let tokens : t ≡ u = cuts_one l t u cut also in
    let same : v ≡ w = one_meaning (marks u) v w (subst (λ (x : List Placed). Derives Kept whole_line v (marks x)) tokens d) c in
    let more : rest ≡ others = AreItems-one (n + 1) ls rest others h k in
    e ∙ (ap (λ x. map (item_on n) x ++ rest) same ∙ (ap (λ x. map (item_on n) w ++ x) more ∙ sym f))

pub Reads-one : (text : List ℕ) (xs ys : List Item) → Reads text xs → Reads text ys → xs ≡ ys
Reads-one text xs ys r s =
    AreItems-one 1 s.lines xs ys (subst (λ (ls : List (List ℕ)). AreItems 1 ls xs) (same_lines text r.lines s.lines r.are_lines s.are_lines) r.mean) s.mean

pub Reads-means : (text : List ℕ) (items : List Item) (meant : List Body) → Reads text items → MeansBodies text meant → meant ≡ bodies items
Reads-means text items meant r m = sym m.same ∙ ap bodies (Reads-one text m.items items m.reads r)

-- a text with a fault means nothing
stop_excludes : (n : ℕ) (ls : List (List ℕ)) (f : Fault) (xs : List Item) → IsFirstStop n ls f → AreItems n ls xs → ⊥
stop_excludes n [] f xs h k = h
stop_excludes n (l ∷ ls) f xs (inl (at, stop, _, _)) (t, v, rest, e, cut, d, k) = cuts_or_stops l t at f.kind cut stop
stop_excludes n (l ∷ ls) f xs (inr (u, also, h)) (t, v, rest, e, cut, d, k) = stop_excludes (n + 1) ls f rest h k

wrong_excludes : (n : ℕ) (ls : List (List ℕ)) (f : Fault) (xs : List Item) → IsFirstWrong n ls f → AreItems n ls xs → ⊥
wrong_excludes n [] f xs h k = h
wrong_excludes n (l ∷ ls) f xs (inl w) (t, v, rest, e, cut, d, k) =
    fault_excludes (marks w.tokens) w.at f.kind v w.fault (subst (λ (x : List Placed). Derives Kept whole_line v (marks x)) (cuts_one l t w.tokens cut w.cut) d)
wrong_excludes n (l ∷ ls) f xs (inr h) (t, v, rest, e, cut, d, k) = wrong_excludes (n + 1) ls f rest h.1 k

pub fault_means_nothing : (text : List ℕ) (f : Fault) (meant : List Body) → IsTextFault text f → MeansBodies text meant → ⊥
fault_means_nothing text f meant (inl s) m =
    stop_excludes 1 s.lines f m.items s.first (subst (λ (ls : List (List ℕ)). AreItems 1 ls m.items) (same_lines text m.reads.lines s.lines m.reads.are_lines s.are_lines) m.reads.mean)
fault_means_nothing text f meant (inr s) m =
    wrong_excludes 1 s.lines f m.items s.first (subst (λ (ls : List (List ℕ)). AreItems 1 ls m.items) (same_lines text m.reads.lines s.lines m.reads.are_lines s.are_lines) m.reads.mean)

-- the last line is read
last_state : (text : List ℕ) (old new : List Item) (wrong next : Option Wrong) (n : ℕ) (ls : List (List ℕ)) (bytes : List ℕ) (tokens : List Placed) → Parses text old wrong n ls → ls ≡ bytes ∷ [] → CutsInto bytes tokens → GoesOn wrong n tokens old new next → Parses text new next (n + 1) []
last_state text old new wrong next n ls bytes tokens p is cut g =
    Parses-line text old new wrong next n bytes [] tokens (subst (λ (x : List (List ℕ)). Parses text old wrong n x) is p) cut g

pub last_reads : (text : List ℕ) (old new : List Item) (wrong next : Option Wrong) (n : ℕ) (ls : List (List ℕ)) (bytes : List ℕ) (tokens : List Placed) → Parses text old wrong n ls → ls ≡ bytes ∷ [] → CutsInto bytes tokens → GoesOn wrong n tokens old new next → next ≡ None → Reads text new
last_reads text old new wrong next n ls bytes tokens p is cut g e =
    Parses-reads text new (n + 1) (subst (λ (w : Option Wrong). Parses text new w (n + 1) []) e (last_state text old new wrong next n ls bytes tokens p is cut g))

pub last_wrong : (text : List ℕ) (old new : List Item) (wrong next : Option Wrong) (n : ℕ) (ls : List (List ℕ)) (bytes : List ℕ) (tokens : List Placed) (w : Wrong) → Parses text old wrong n ls → ls ≡ bytes ∷ [] → CutsInto bytes tokens → GoesOn wrong n tokens old new next → next ≡ Some w → IsTextFault text (fault_of w)
last_wrong text old new wrong next n ls bytes tokens w p is cut g e =
    Parses-wrong text new w (n + 1) (subst (λ (w : Option Wrong). Parses text new w (n + 1) []) e (last_state text old new wrong next n ls bytes tokens p is cut g))
