-- What is read of a text is what it means, or its fault.
use Rattle.std.proofs.Common.{◌≡◌, ℕ, ◌+◌, ◌-◌, ◌==◌, if◌then◌else◌, inl, inr, List, [], ◌∷◌, ◌++◌, length, map, Option, Some, None, Result, Ok, Err, refl, ap, sym, ◌∙◌, subst}
use Rattle.std.proofs.lemmas.List.{length-map}
use Rattle.std.proofs.lemmas.Option.{none-some, same_Some}
use Rattle.casm_statements.specs.declared.Body.{Body}
use Rattle.casm_statements.specs.declared.Item.{Item}
use Rattle.casm_tokens.specs.declared.fault.SyntaxKind.{SyntaxKind}
use Rattle.casm_tokens.specs.declared.spans.Token.{Token}
use Rattle.casm_tokens.specs.Marks.{Placed, marks}
use Rattle.casm_tokens.specs.Tokens.{CutsInto}
use Rattle.casm_tokens.specs.Lines.{Fault, AreLines, token_at, AreTokens, IsFirstStop}
use Rattle.casm_tokens.specs.Pieces.{scan, Scanned}
use Rattle.casm_tokens.proofs.LineLemmas.{lines, are_lines}
use Rattle.casm_tokens.proofs.Sound.{scan_cuts, scan_stops}
use Rattle.casm_grammar.specs.Readers.{Refusal, line_in}
use Rattle.casm_grammar.proofs.LineLaws.{read_derives, read_fault}
use Rattle.casm_text.specs.Meaning.{item_on, column_at, AreItems, Reads, bodies, IsWrong, IsFirstWrong, IsTextFault}
use Rattle.casm_text.specs.TextReading.{with_byte, lines_of, stop_or, first_stop, on_line, then_read, lines_reading, unless_fault, text_reading}
use Rattle.casm_text.proofs.Parses.{Reads-one, fault_means_nothing}
use Rattle.casm_text.proofs.TextLaws.{one_fault}

-- the lines of a text
lines_of-is : (text : List ℕ) → lines_of text ≡ lines text
unfolding lines_of lines
lines_of-is [] = refl
lines_of-is (b ∷ bs) = ap (λ (ls : List (List ℕ)). if b == 10 then [] ∷ ls else with_byte b ls) (lines_of-is bs)

lines_of-are : (text : List ℕ) → AreLines text (lines_of text)
lines_of-are text = subst (λ (ls : List (List ℕ)). AreLines text ls) (sym (lines_of-is text)) (are_lines text)

-- lines without a place where no token stands are cut
abbrev AreCut : List (List ℕ) → Type 0
AreCut [] = Unit {0}
AreCut (bytes ∷ others) = CutsInto bytes (scan bytes).placed × AreCut others

line_cut : (bytes : List ℕ) → (scan bytes).stop ≡ None → CutsInto bytes (scan bytes).placed
line_cut bytes e =
    scan_cuts bytes (scan bytes).placed (ap (λ (o : Option (ℕ × SyntaxKind)). let r : Scanned = record { placed = (scan bytes).placed; stop = o } in r) e)

no_stop : (n : ℕ) (o : Option (ℕ × SyntaxKind)) (others : Option Fault) → stop_or n o others ≡ None → (o ≡ None) × (others ≡ None)
no_stop n None others h = (refl, h)
no_stop n (Some stop) others h = absurd (none-some (record { line = n; column = stop.0 + 1; kind = stop.1 }) (sym h))

all_cut : (n : ℕ) (ls : List (List ℕ)) → first_stop n ls ≡ None → AreCut ls
unfolding first_stop
all_cut n [] h = tt
all_cut n (bytes ∷ others) h =
    let none = no_stop n (scan bytes).stop (first_stop (n + 1) others) h in
    (line_cut bytes none.0, all_cut (n + 1) others none.1)

cut_tokens : (n start : ℕ) (ls : List (List ℕ)) → AreCut ls → (xs : List Token) × AreTokens n start ls xs
cut_tokens n start [] c = ([], refl)
cut_tokens n start (bytes ∷ others) c =
    let more = cut_tokens (n + 1) (start + length bytes + 1) others c.1 in
    (map (token_at n start) (scan bytes).placed ++ more.0, ((scan bytes).placed, more.0, refl, c.0, more.1))

-- the place that is found is the first
stop_from_line : (n : ℕ) (bytes : List ℕ) (others : List (List ℕ)) (f : Fault) (o : Option (ℕ × SyntaxKind)) → (scan bytes).stop ≡ o → (first_stop (n + 1) others ≡ Some f → IsFirstStop (n + 1) others f) → stop_or n o (first_stop (n + 1) others) ≡ Some f → IsFirstStop n (bytes ∷ others) f
stop_from_line n bytes others f None e next h = inr ((scan bytes).placed, line_cut bytes e, next h)
stop_from_line n bytes others f (Some stop) e next h =
    let g : Fault = record { line = n; column = stop.0 + 1; kind = stop.1 } in
    subst (λ (x : Fault). IsFirstStop n (bytes ∷ others) x) (same_Some g f h) (inl (stop.0, scan_stops bytes stop.0 stop.1 e, refl, refl))

stop_found : (n : ℕ) (ls : List (List ℕ)) (f : Fault) → first_stop n ls ≡ Some f → IsFirstStop n ls f
unfolding first_stop
stop_found n [] f h = none-some f h
stop_found n (bytes ∷ others) f h = stop_from_line n bytes others f (scan bytes).stop refl (stop_found (n + 1) others f) h

-- items that are read are what the lines mean
items_from_line : (n : ℕ) (bytes : List ℕ) (others : List (List ℕ)) (items : List Item) (r : Result (List Body) Refusal) (s : Result (List Item) Fault) → CutsInto bytes (scan bytes).placed → r ≡ line_in (marks (scan bytes).placed) → ((more : List Item) → s ≡ Ok more → AreItems (n + 1) others more) → then_read (on_line n (scan bytes).placed r) s ≡ Ok items → AreItems n (bytes ∷ others) items
items_from_line n bytes others items (Ok v) (Ok more) cut e next h =
    let parts : items ≡ map (item_on n) v ++ more = cc in
    ((scan bytes).placed, v, more, parts, cut, read_derives (marks (scan bytes).placed) v e, next more refl)
items_from_line n bytes others items (Ok v) (Err f) cut e next h = cc
items_from_line n bytes others items (Err stop) s cut e next h = cc

items_read : (n : ℕ) (ls : List (List ℕ)) (items : List Item) → AreCut ls → lines_reading n ls ≡ Ok items → AreItems n ls items
unfolding lines_reading
items_read n [] items c h = cc
items_read n (bytes ∷ others) items c h =
    items_from_line n bytes others items (line_in (marks (scan bytes).placed)) (lines_reading (n + 1) others) c.0 refl (λ more. items_read (n + 1) others more c.1) h

-- a fault that is read is the first of the lines
marks_left : (tokens : List Placed) (left : ℕ) → length (marks tokens) - left ≡ length tokens - left
marks_left tokens left = ap (λ (x : ℕ). x - left) (length-map tokens (λ (t : Placed). t.mark))

refusal_is_wrong : (n : ℕ) (bytes : List ℕ) (stop : Refusal) (f : Fault) → CutsInto bytes (scan bytes).placed → Err stop ≡ line_in (marks (scan bytes).placed) → on_line n (scan bytes).placed (Err stop) ≡ Err f → IsWrong n bytes f
refusal_is_wrong n bytes stop f cut e h =
    let tokens : List Placed = (scan bytes).placed in
    let g : Fault = record { line = n; column = column_at 0 tokens (length tokens - stop.0); kind = stop.1 } in
    let same : g ≡ f = cc in
    let wrong : IsWrong n bytes g = record {
      tokens = tokens;
      cut = cut;
      at = length (marks tokens) - stop.0;
      fault = read_fault (marks tokens) stop.0 stop.1 e;
      line = refl;
      column = ap (column_at 0 tokens) (sym (marks_left tokens stop.0));
    } in
    subst (λ (x : Fault). IsWrong n bytes x) same wrong

fault_from_line : (n : ℕ) (bytes : List ℕ) (others : List (List ℕ)) (f : Fault) (r : Result (List Body) Refusal) (s : Result (List Item) Fault) → CutsInto bytes (scan bytes).placed → r ≡ line_in (marks (scan bytes).placed) → (s ≡ Err f → IsFirstWrong (n + 1) others f) → then_read (on_line n (scan bytes).placed r) s ≡ Err f → IsFirstWrong n (bytes ∷ others) f
fault_from_line n bytes others f (Ok v) (Ok more) cut e next h = cc
fault_from_line n bytes others f (Ok v) (Err g) cut e next h =
    inr (record { tokens = (scan bytes).placed; cut = cut; meant = v; derives = read_derives (marks (scan bytes).placed) v e }, next h)
fault_from_line n bytes others f (Err stop) s cut e next h = inl (refusal_is_wrong n bytes stop f cut e h)

fault_read : (n : ℕ) (ls : List (List ℕ)) (f : Fault) → AreCut ls → lines_reading n ls ≡ Err f → IsFirstWrong n ls f
unfolding lines_reading
fault_read n [] f c h = cc
fault_read n (bytes ∷ others) f c h =
    fault_from_line n bytes others f (line_in (marks (scan bytes).placed)) (lines_reading (n + 1) others) c.0 refl (fault_read (n + 1) others f c.1) h

-- items that are read of a text are what it means
items_from_stop : (text : List ℕ) (items : List Item) (o : Option Fault) → first_stop 1 (lines_of text) ≡ o → unless_fault o (lines_reading 1 (lines_of text)) ≡ Ok items → Reads text items
items_from_stop text items None e h = record {
  lines = lines_of text;
  are_lines = lines_of-are text;
  mean = items_read 1 (lines_of text) items (all_cut 1 (lines_of text) e) h;
}
items_from_stop text items (Some f) e h = cc

pub Reads-from_text_reading : (text : List ℕ) (items : List Item) → text_reading text ≡ Ok items → Reads text items
unfolding text_reading
Reads-from_text_reading text items h = items_from_stop text items (first_stop 1 (lines_of text)) refl h

-- a fault that is read is the text's
fault_from_stop : (text : List ℕ) (f : Fault) (o : Option Fault) → first_stop 1 (lines_of text) ≡ o → unless_fault o (lines_reading 1 (lines_of text)) ≡ Err f → IsTextFault text f
fault_from_stop text f None e h =
    let c = all_cut 1 (lines_of text) e in
    let t = cut_tokens 1 0 (lines_of text) c in
    inr (record {
      tokens = t.0;
      cut = record { lines = lines_of text; are_lines = lines_of-are text; are_tokens = t.1 };
      lines = lines_of text;
      are_lines = lines_of-are text;
      first = fault_read 1 (lines_of text) f c h;
    })
fault_from_stop text f (Some g) e h =
    let same : g ≡ f = cc in
    inl (record {
      lines = lines_of text;
      are_lines = lines_of-are text;
      first = stop_found 1 (lines_of text) f (e ∙ ap (λ (x : Fault). Some x) same);
    })

pub IsTextFault-from_text_reading : (text : List ℕ) (f : Fault) → text_reading text ≡ Err f → IsTextFault text f
unfolding text_reading
IsTextFault-from_text_reading text f h = fault_from_stop text f (first_stop 1 (lines_of text)) refl h

-- what a text means is read of it
meant_by : (text : List ℕ) (items : List Item) → Reads text items → (r : Result (List Item) Fault) → text_reading text ≡ r → r ≡ Ok items
meant_by text items h (Ok xs) e = ap (λ (x : List Item). Ok x) (Reads-one text xs items (Reads-from_text_reading text xs e) h)
meant_by text items h (Err f) e =
    absurd (fault_means_nothing text f (bodies items) (IsTextFault-from_text_reading text f e) (record { items = items; reads = h; same = refl }))

pub text_reading-meant : (text : List ℕ) (items : List Item) → Reads text items → text_reading text ≡ Ok items
text_reading-meant text items h = meant_by text items h (text_reading text) refl

-- and so is its fault
faulty_by : (text : List ℕ) (f : Fault) → IsTextFault text f → (r : Result (List Item) Fault) → text_reading text ≡ r → r ≡ Err f
faulty_by text f h (Ok xs) e =
    absurd (fault_means_nothing text f (bodies xs) h (record { items = xs; reads = Reads-from_text_reading text xs e; same = refl }))
faulty_by text f h (Err g) e = ap (λ (x : Fault). Err x) (one_fault text g f (IsTextFault-from_text_reading text g e) h)

pub text_reading-faulty : (text : List ℕ) (f : Fault) → IsTextFault text f → text_reading text ≡ Err f
text_reading-faulty text f h = faulty_by text f h (text_reading text) refl
