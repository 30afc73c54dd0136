-- The JSON value that bytes are, and what stands in it. `Data` is the kit's form of a JSON value: an object holds each
-- key once, and of equal keys in a text the last one counts.
use Rattle.std.specs.Prelude.{ℕ, List, [], ◌∷◌, Option, Some, None, option_map, option_and_then, if◌then◌else◌}
use Rattle.std.specs.Str.{is_utf8}
use Rattle.serde_json.specs.Data.{Data, Items, no_items, item}
use Rattle.serde_json.specs.Find.{get, as_array, as_number, as_str, as_u64}
use Rattle.serde_json.specs.Read.{read}
use Rattle.goldilocks.specs.declared.Felt.{Felt}
use Rattle.goldilocks.specs.declared.Pair.{Pair}
use Rattle.json_fields.specs.FieldTexts.{felt_of_text}

-- The JSON value that the bytes are: what `serde_json` reads of them, nested at most 127 deep. There is none where the
-- bytes are no UTF-8 or no JSON text. Own.
unfoldable pub json_of : List ℕ → Option Data
json_of bytes = if is_utf8 bytes then read bytes else None

-- The entries of a list, one after another. Own.
abbrev pub entries : Items → List Data
entries no_items = []
entries (item d ds) = d ∷ entries ds

-- The entries of a list, where the value is one. Own.
unfoldable pub list_in : Data → Option (List Data)
list_in d = option_map entries (as_array d)

-- The whole number from 0 to 2^64 - 1 that the value is, where it is one. Own.
unfoldable pub whole_in : Data → Option ℕ
whole_in d = option_and_then as_u64 (as_number d)

-- The number of the field that the value is the text of, where it is such a text. Own.
unfoldable pub felt_in : Data → Option Felt
felt_in d = option_and_then felt_of_text (as_str d)

-- The pair of an address and a value, where there are both. Own.
abbrev pub pair_with : Option Felt → Option Felt → Option Pair
pair_with None v = None
pair_with (Some a) None = None
pair_with (Some a) (Some v) = Some (record { addr = a; value = v })

-- The pair that two entries are. Own.
abbrev pub pair_of : List Data → Option Pair
pair_of [] = None
pair_of (a ∷ []) = None
pair_of (a ∷ v ∷ []) = pair_with (felt_in a) (felt_in v)
pair_of (a ∷ v ∷ more ∷ rest) = None

-- The value as a list of two numbers of the field, an address and a value, where it is one. Own.
unfoldable pub pair_in : Data → Option Pair
pair_in d = option_and_then pair_of (list_in d)

-- The text at a key. There is none where the value is no object, where the key is missing, and where what stands there is
-- no text. Own.
unfoldable pub text_at : List ℕ → Data → Option (List ℕ)
text_at key top = option_and_then as_str (get key top)

-- The entries of the list at a key, where one stands there. Own.
unfoldable pub list_at : List ℕ → Data → Option (List Data)
list_at key top = option_and_then list_in (get key top)

-- The whole number at a key, where one stands there. Own.
unfoldable pub whole_at : List ℕ → Data → Option ℕ
whole_at key top = option_and_then whole_in (get key top)

-- The number of the field whose text stands at a key, where one does. Own.
unfoldable pub felt_at : List ℕ → Data → Option Felt
felt_at key top = option_and_then felt_in (get key top)
