-- The format of program files: which bytes are which program, and the bytes that are written.
use Rattle.std.specs.Prelude.{ℕ, ◌≡◌, ◌++◌, if◌then◌else◌, List, [], ◌∷◌, map, Some, codes}
use Rattle.serde_json.specs.Data.{Data, string, object, member, no_members}
use Rattle.serde_json.specs.Written.{compact_text}
use Rattle.json_fields.specs.Values.{json_of, text_at, list_at, whole_at, felt_in}
use Rattle.json_fields.specs.Encoding.{list_json, whole_json, felt_json}
use Rattle.program_file.specs.declared.Builtins.{Builtins}
use Rattle.program_file.specs.Listing.{Listing, IsProgram}

-- The order of the field, 2^64 - 2^32 + 1, as a file has it. Own.
abbrev pub prime_text : List ℕ
prime_text = codes "0xffffffff00000001"

-- The names of the builtins, the output before the range check. Own.
abbrev pub builtin_names : Builtins → List (List ℕ)
builtin_names uses =
    (if uses.output then codes "output" ∷ [] else []) ++ (if uses.range then codes "range_check" ∷ [] else [])

-- The bytes are this program: JSON whose keys hold the field's order, the words as texts, the two places and the names of
-- the builtins. What stands at other keys is passed over. Own.
pub record SpellsProgram (bytes : List ℕ) (p : Listing) : Type 0 where
  pub top : Data
  pub is_json : json_of bytes ≡ Some top
  pub prime_is : text_at (codes "prime") top ≡ Some prime_text
  pub texts : List Data
  pub data_is : list_at (codes "data") top ≡ Some texts
  pub words_are : map felt_in texts ≡ map Some p.words
  pub start_is : whole_at (codes "start") top ≡ Some p.start
  pub end_is : whole_at (codes "end") top ≡ Some p.end
  pub builtins_are : list_at (codes "builtins") top ≡ Some (map string (builtin_names p.builtins))
  pub program : IsProgram p

-- A program as a JSON value, with the keys in the order of their letters. Own.
unfoldable pub program_json : Listing → Data
program_json p =
    object (member (codes "builtins") (list_json (map string (builtin_names p.builtins)))
    (member (codes "data") (list_json (map felt_json p.words))
    (member (codes "end") (whole_json p.end)
    (member (codes "prime") (string prime_text)
    (member (codes "start") (whole_json p.start) no_members)))))

-- The bytes that are written for a program: its JSON without spaces. Own.
unfoldable pub written : Listing → List ℕ
written p = compact_text (program_json p)
