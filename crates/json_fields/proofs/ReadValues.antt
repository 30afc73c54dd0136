-- What `serde_json` finds is what the definitions say.
use Rattle.std.proofs.Common.{◌≡◌, Bool, true, false, ℕ, List, [], ◌∷◌, Some, None, map, option_map, refl, ap, ◌∙◌, sym, cond}
use Rattle.std.specs.Str.{is_utf8, IsUtf8}
use Rattle.std.proofs.lemmas.Str.{is_utf8-from_IsUtf8, IsUtf8-from_is_utf8}
use Rattle.serde_json.specs.Data.{Data}
use Rattle.serde_json.specs.Find.{as_array}
use Rattle.serde_json.specs.Read.{read}
use Rattle.serde_json.specs.View.{view, items_of, items_view}
use Rattle.serde_json.specs.declared.value.Value.{Value}
use Rattle.json_fields.specs.Values.{json_of, entries, list_in}

pub json_of-text : (bytes : List ℕ) → IsUtf8 bytes → json_of bytes ≡ read bytes
unfolding json_of
json_of-text bytes h = rw (is_utf8-from_IsUtf8 bytes h)

no_text : (bytes : List ℕ) (b : Bool) → is_utf8 bytes ≡ b → (IsUtf8 bytes → ⊥) → None ≡ cond b (read bytes) None
no_text bytes true e h = absurd (h (IsUtf8-from_is_utf8 bytes e))
no_text bytes false e h = refl

pub json_of-no_text : (bytes : List ℕ) → (IsUtf8 bytes → ⊥) → None ≡ json_of bytes
unfolding json_of
json_of-no_text bytes h = no_text bytes _ refl h

pub entries-items_of : (ds : List Data) → entries (items_of ds) ≡ ds
entries-items_of [] = refl
entries-items_of (d ∷ ds) = ap (λ es. d ∷ es) (entries-items_of ds)

pub list_in-view : (d : Data) (vs : List Value) → Some (items_view vs) ≡ as_array d → Some (map view vs) ≡ list_in d
unfolding list_in
list_in-view d vs e = ap Some (sym (entries-items_of (map view vs))) ∙ ap (option_map entries) e
