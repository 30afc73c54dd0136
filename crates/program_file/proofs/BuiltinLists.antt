-- The names of the builtins as a list of texts.
use Rattle.std.proofs.Common.{◌≡◌, ℕ, Bool, true, false, cond, List, [], ◌∷◌, ◌++◌, map, Option, Some, refl, sym, ap, ap₂, ◌∙◌, codes}
use Rattle.std.proofs.lemmas.Bool.{and_parts, false≢true}
use Rattle.std.proofs.lemmas.Slice.Eq.{bytes_eq-Decides}
use Rattle.std.specs.List.{find}
use Rattle.json.specs.Token as token
use Rattle.json.specs.Token.{Token}
use Rattle.json.specs.Tree.{json_tokens}
use Rattle.json.proofs.Printed.Utf8.{IsUtf8-are_ascii}
use Rattle.serde_json.specs.Data.{Data, null, boolean, number, string, array, object}
use Rattle.serde_json.specs.Find.{as_str}
use Rattle.serde_json.specs.View.{items_of}
use Rattle.serde_json.specs.Written.{outline}
use Rattle.json_fields.specs.Plain.{ArePlain}
use Rattle.json_fields.specs.Encoding.{list_json}
use Rattle.program_file.specs.declared.Builtins.{Builtins}
use Rattle.program_file.specs.Format.{builtin_names}
use Rattle.program_file.specs.Reading.{is_same_text, are_texts, all_builtins, builtins_in}

-- ---- reading the names

is_text : (name : List ℕ) (d : Data) → is_same_text name (as_str d) ≡ true → d ≡ string name
is_text name null h = absurd (false≢true h)
is_text name (boolean b) h = absurd (false≢true h)
is_text name (number n) h = absurd (false≢true h)
is_text name (string s) h = ap string ((bytes_eq-Decides s name).0 h)
is_text name (array ds) h = absurd (false≢true h)
is_text name (object ms) h = absurd (false≢true h)

texts_are : (names : List (List ℕ)) (ds : List Data) → are_texts names ds ≡ true → ds ≡ map string names
texts_are [] [] h = refl
texts_are [] (d ∷ ds) h = absurd (false≢true h)
texts_are (name ∷ names) [] h = absurd (false≢true h)
texts_are (name ∷ names) (d ∷ ds) h = let p = and_parts _ _ h in ap₂ (λ (x : Data) (xs : List Data). x ∷ xs) (is_text name d p.0) (texts_are names ds p.1)

passed : {X : Type 0} (p : X → Bool) (x y : X) (rest : Option X) (b : Bool) → p x ≡ b → (rest ≡ Some y → p y ≡ true) → cond b (Some x) rest ≡ Some y → p y ≡ true
passed p x y rest true e h f = let same : x ≡ y = cc in ap p (sym same) ∙ e
passed p x y rest false e h f = h f

found : {X : Type 0} (p : X → Bool) (xs : List X) (y : X) → find p xs ≡ Some y → p y ≡ true
found p [] y e = absurd (cc)
found p (x ∷ xs) y e = passed p x y (find p xs) (p x) refl (found p xs y) e

pub names-builtins_in : (ds : List Data) (uses : Builtins) → builtins_in ds ≡ Some uses → ds ≡ map string (builtin_names uses)
unfolding builtins_in
names-builtins_in ds uses e = texts_are (builtin_names uses) ds (found (λ b. are_texts (builtin_names b) ds) all_builtins uses e)

abbrev uses_of : Bool → Bool → Builtins
uses_of output range = record { output = output; range = range }

back : (output range : Bool) → builtins_in (map string (builtin_names (uses_of output range))) ≡ Some (uses_of output range)
unfolding builtins_in
back true true = refl
back true false = refl
back false true = refl
back false false = refl

pub builtins_in-names : (uses : Builtins) → builtins_in (map string (builtin_names uses)) ≡ Some uses
builtins_in-names uses = back uses.output uses.range

-- ---- writing the names

plain : (output range : Bool) → ArePlain (items_of (map string (builtin_names (uses_of output range))))
plain true true = (IsUtf8-are_ascii (codes "output") refl, (IsUtf8-are_ascii (codes "range_check") refl, tt))
plain true false = (IsUtf8-are_ascii (codes "output") refl, tt)
plain false true = (IsUtf8-are_ascii (codes "range_check") refl, tt)
plain false false = tt

pub ArePlain-names : (uses : Builtins) → ArePlain (items_of (map string (builtin_names uses)))
ArePlain-names uses = plain uses.output uses.range

abbrev name_token : Bool → List ℕ → List Token
name_token used name = cond used (token.string name ∷ []) []

list_tokens : (output range : Bool) → ((token.begin_array ∷ [] ++ name_token output (codes "output")) ++ name_token range (codes "range_check")) ++ token.end_array ∷ []
    ≡ json_tokens (outline (list_json (map string (builtin_names (uses_of output range)))))
list_tokens true true = refl
list_tokens true false = refl
list_tokens false true = refl
list_tokens false false = refl

pub builtins_tokens : (uses : Builtins) → ((token.begin_array ∷ [] ++ name_token uses.output (codes "output")) ++ name_token uses.range (codes "range_check")) ++ token.end_array ∷ []
    ≡ json_tokens (outline (list_json (map string (builtin_names uses))))
builtins_tokens uses = list_tokens uses.output uses.range
