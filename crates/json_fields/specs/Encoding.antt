-- What is written for the parts of a file.
use Rattle.std.specs.Prelude.{ℕ, ◌≡◌, List, [], ◌∷◌, ◌++◌}
use Rattle.json.specs.Tree.{json_tokens}
use Rattle.json.specs.Written.{Written}
use Rattle.serde_json.specs.Data.{Data, number, unsigned, string, array}
use Rattle.serde_json.specs.View.{items_of}
use Rattle.serde_json.specs.Written.{outline}
use Rattle.goldilocks.specs.declared.Felt.{Felt}
use Rattle.goldilocks.specs.declared.Pair.{Pair}
use Rattle.json_fields.specs.FieldTexts.{hex_text}

-- A list of these values. Own.
abbrev pub list_json : List Data → Data
list_json ds = array (items_of ds)

-- A whole number. Own.
abbrev pub whole_json : ℕ → Data
whole_json n = number (unsigned n)

-- A number of the field, as its text. Own.
abbrev pub felt_json : Felt → Data
felt_json x = string (hex_text x)

-- A pair, as a list of the texts of its address and its value. Own.
abbrev pub pair_json : Pair → Data
pair_json p = list_json (felt_json p.addr ∷ felt_json p.value ∷ [])

-- The writer, which wrote the old text before, has written the value after it. Own.
pub record WritesValue (old new : Written) (d : Data) : Type 0 where
  pub value : new.tokens ≡ old.tokens ++ json_tokens (outline d)
  pub rest : new.before ≡ old.before
