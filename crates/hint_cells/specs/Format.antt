-- The format of hint files: which bytes spell which hints, and the bytes that are written.
use Rattle.std.specs.Prelude.{ℕ, ◌≡◌, List, [], ◌∷◌, map, Some}
use Rattle.serde_json.specs.Data.{Data, object, member, no_members}
use Rattle.serde_json.specs.Written.{compact_text}
use Rattle.segments.specs.declared.Place.{Place}
use Rattle.segments.specs.declared.Value.{Value}
use Rattle.segments.specs.declared.Value.TheVariants.{Num, Ptr}
use Rattle.json_fields.specs.Values.{json_of, list_at, whole_at}
use Rattle.json_fields.specs.Encoding.{list_json, whole_json, felt_json}
use Rattle.hint_cells.specs.declared.HintCell.{HintCell}
use Rattle.hint_cells.specs.declared.fault.HintKey.TheVariants as key
use Rattle.hint_cells.specs.Shown.{key_name}
use Rattle.hint_cells.specs.HintList.{HintList, AreHints}
use Rattle.hint_cells.specs.Cells.{cell_in}

-- The bytes spell these hints. They are a JSON text, and its value has under `extra` the number of extra segments. Under
-- `cells` it has a list whose entries are the cells, each a list of a segment, an offset and a value. Other keys may be
-- there, and of equal keys the last one counts. Own.
pub record SpellsHints (bytes : List ℕ) (h : HintList) : Type 0 where
  pub top : Data
  pub is_json : json_of bytes ≡ Some top
  pub extra_is : whole_at (key_name key.Extra) top ≡ Some h.extra
  pub entries : List Data
  pub entries_are : list_at (key_name key.Cells) top ≡ Some entries
  pub cells_are : map cell_in entries ≡ map Some h.cells
  pub hints : AreHints h

-- A place, as a list of its segment and its offset. Own.
abbrev pub place_json : Place → Data
place_json p = list_json (whole_json p.seg ∷ whole_json p.off ∷ [])

-- What a cell holds: a number as its text, a pointer as its place. Own.
abbrev pub value_json : Value → Data
value_json (Num x) = felt_json x
value_json (Ptr p) = place_json p

-- A cell, as a list of its segment, its offset and what it holds. Own.
abbrev pub cell_json : HintCell → Data
cell_json c = list_json (whole_json c.place.seg ∷ whole_json c.place.off ∷ value_json c.value ∷ [])

-- Hints as a JSON value, with the cells first. Own.
unfoldable pub hints_json : HintList → Data
hints_json h =
    object (member (key_name key.Cells) (list_json (map cell_json h.cells))
    (member (key_name key.Extra) (whole_json h.extra) no_members))

-- The bytes that are written for hints: their JSON without spaces. Own.
unfoldable pub written : HintList → List ℕ
written h = compact_text (hints_json h)
