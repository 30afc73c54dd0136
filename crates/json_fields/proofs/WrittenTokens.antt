-- The tokens of what is written.
use Rattle.std.proofs.Common.{◌≡◌, ℕ, ◌+◌, ◌<◌, ◌≤◌, List, [], ◌∷◌, ◌++◌, length, get_or, take, map, Result, Ok, Err, OnOk, refl, sym, ap, ◌∙◌, append_assoc, append-nil}
use Rattle.std.proofs.lemmas.List.{take_more, map-append, take_all}
use Rattle.json.specs.Token.{Token}
use Rattle.json.specs.Tree.{json_tokens, items_tokens}
use Rattle.json.specs.Written.{Written, Writes}
use Rattle.serde_json.specs.Data.{Data, string}
use Rattle.serde_json.specs.View.{items_of}
use Rattle.serde_json.specs.Written.{outline, items_outline, compact_text}
use Rattle.serde_json.proofs.Texts.{print-outline}
use Rattle.json.specs.Print.{print}
use Rattle.json_fields.specs.Encoding.{WritesValue, list_json}

-- the tokens of these values, one after another
abbrev pub value_tokens : List Data → List Token
value_tokens [] = []
value_tokens (d ∷ ds) = json_tokens (outline d) ++ value_tokens ds

pub value_tokens-append : (ds es : List Data) → value_tokens (ds ++ es) ≡ value_tokens ds ++ value_tokens es
value_tokens-append [] es = refl
value_tokens-append (d ∷ ds) es = ap (λ ts. json_tokens (outline d) ++ ts) (value_tokens-append ds es) ∙ sym (append_assoc (json_tokens (outline d)) _ _)

pub items_tokens-items_of : (ds : List Data) → items_tokens (items_outline (items_of ds)) ≡ value_tokens ds ++ Token.end_array ∷ []
items_tokens-items_of [] = refl
items_tokens-items_of (d ∷ ds) = ap (λ ts. json_tokens (outline d) ++ ts) (items_tokens-items_of ds) ∙ sym (append_assoc (json_tokens (outline d)) _ _)

pub string_written : {E : Type 0} (r : Result (Unit {0}) E) (old new : Written) (s t : List ℕ) → Writes r old new (Token.string s) → s ≡ t → OnOk r (WritesValue old new (string t))
string_written (Ok u) old new s t w e = record { value = w.ok ∙ ap (λ x. old.tokens ++ Token.string x ∷ []) e; rest = w.room.0 }
string_written (Err e) old new s t w _ = tt

-- so many of the entries have been written after the bracket
pub record IsWriting {X : Type 0} (f : X → Data) (xs : List X) (count : ℕ) (old now : Written) : Type 0 where
  pub entries : now.tokens ≡ old.tokens ++ (Token.begin_array ∷ value_tokens (map f (take count xs)))
  pub rest : now.before ≡ old.before

module _ {X : Type 0} (f : X → Data) (xs : List X) (old : Written) where
  pub one_more : (i : ℕ) (x : X) (now next : Written) → i < length xs → get_or xs i x ≡ x → IsWriting f xs i old now → WritesValue now next (f x) → IsWriting f xs (i + 1) old next
  one_more i x now next h is done w = record {
    entries =
        w.value ∙ ap (λ ts. ts ++ json_tokens (outline (f x))) done.entries
        ∙ append_assoc old.tokens _ _
        ∙ ap (λ ts. old.tokens ++ (Token.begin_array ∷ ts)) (
        ap (λ ts. value_tokens (map f (take i xs)) ++ ts) (sym (append-nil (json_tokens (outline (f x)))))
        ∙ sym (value_tokens-append (map f (take i xs)) (f x ∷ []))
        ∙ ap value_tokens (
        ap (λ y. map f (take i xs) ++ f y ∷ []) (sym is)
        ∙ sym (map-append f (take i xs) (get_or xs i x ∷ []))
        ∙ ap (map f) (sym (take_more xs i x h))));
    rest = w.rest ∙ done.rest;
  }

  pub ended : {E : Type 0} (count : ℕ) (now new : Written) (r : Result (Unit {0}) E) → length xs ≤ count → IsWriting f xs count old now → Writes r now new Token.end_array → OnOk r (WritesValue old new (list_json (map f xs)))
  ended count now new (Ok u) all done w = record {
    value =
        w.ok ∙ ap (λ ts. ts ++ Token.end_array ∷ []) done.entries
        ∙ append_assoc old.tokens _ _
        ∙ ap (λ ts. old.tokens ++ (Token.begin_array ∷ ts)) (
        ap (λ ys. value_tokens (map f ys) ++ Token.end_array ∷ []) (take_all count xs all)
        ∙ sym (items_tokens-items_of (map f xs)));
    rest = w.room.0 ∙ done.rest;
  }
  ended count now new (Err e) all done w = tt

-- these tokens, and nothing else, have been written in between
pub record Adds (old now : Written) (ts : List Token) : Type 0 where
  pub tokens : now.tokens ≡ old.tokens ++ ts
  pub rest : now.before ≡ old.before

pub token_added : {E : Type 0} {u : Unit {0}} (old now : Written) (t : Token) → Writes {E = E} (Ok u) old now t → Adds old now (t ∷ [])
token_added old now t w = record { tokens = w.ok; rest = w.room.0 }

pub value_added : (old now : Written) (d : Data) → WritesValue old now d → Adds old now (json_tokens (outline d))
value_added old now d w = record { tokens = w.value; rest = w.rest }

pub and_then : {a b c : Written} {ts us : List Token} → Adds a b ts → Adds b c us → Adds a c (ts ++ us)
and_then {a = a} {ts = ts} {us = us} p q = record { tokens = q.tokens ∙ ap (λ l. l ++ us) p.tokens ∙ append_assoc a.tokens ts us; rest = q.rest ∙ p.rest }

pub value_written : (old now : Written) (d : Data) (ts : List Token) → Adds old now ts → ts ≡ json_tokens (outline d) → WritesValue old now d
value_written old now d ts p e = record { value = p.tokens ∙ ap (λ l. old.tokens ++ l) e; rest = p.rest }

-- the text of a writer that began with nothing and has written one value
pub written_text : (old now : Written) (d : Data) (text : List ℕ) → old.tokens ≡ [] → old.before ≡ [] → WritesValue old now d → text ≡ now.before ++ print now.tokens → text ≡ compact_text d
written_text old now d text none nothing w e =
    e ∙ ap (λ l. l ++ print now.tokens) (w.rest ∙ nothing) ∙ ap print (w.value ∙ ap (λ l. l ++ json_tokens (outline d)) none) ∙ print-outline d
