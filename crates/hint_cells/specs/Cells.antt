-- The cell that an entry of a hint file is.
use Rattle.std.specs.Prelude.{ℕ, List, [], ◌∷◌, nat_lt, if◌then◌else◌, Option, Some, None, option_and_then}
use Rattle.serde_json.specs.Data.{Data}
use Rattle.goldilocks.specs.declared.Felt.{Felt}
use Rattle.segments.specs.declared.Place.{Place}
use Rattle.segments.specs.declared.Value.{Value}
use Rattle.segments.specs.declared.Value.TheVariants.{Num, Ptr}
use Rattle.segments.specs.Values.{place}
use Rattle.json_fields.specs.Values.{list_in, whole_in, felt_in}
use Rattle.hint_cells.specs.declared.HintCell.{HintCell}
use Rattle.hint_cells.specs.Limits.{index_limit}

-- The number, where it is below 2^32. Own.
abbrev pub index_of : ℕ → Option ℕ
index_of n = if nat_lt n index_limit then Some n else None

-- The whole number below 2^32 that the value is, where it is one. Own.
unfoldable pub index_in : Data → Option ℕ
index_in d = option_and_then index_of (whole_in d)

-- The place in a segment at an offset, where there are both. Own.
abbrev pub place_with : Option ℕ → Option ℕ → Option Place
place_with None off = None
place_with (Some seg) None = None
place_with (Some seg) (Some off) = Some (place seg off)

-- The place that two values are, a segment and an offset. Own.
unfoldable pub place_of : Data → Data → Option Place
place_of seg off = place_with (index_in seg) (index_in off)

-- The place that two entries are. Own.
abbrev pub pointer_of : List Data → Option Place
pointer_of [] = None
pointer_of (seg ∷ []) = None
pointer_of (seg ∷ off ∷ []) = place_of seg off
pointer_of (seg ∷ off ∷ more ∷ rest) = None

-- The value as a list of a segment and an offset, where it is one. Own.
unfoldable pub pointer_in : Data → Option Place
pointer_in d = option_and_then pointer_of (list_in d)

-- A number, or else a pointer, where there is either. Own.
abbrev pub number_or_pointer : Option Felt → Option Place → Option Value
number_or_pointer (Some x) p = Some (Num x)
number_or_pointer None (Some p) = Some (Ptr p)
number_or_pointer None None = None

-- What a cell holds: a number as its text, or a pointer as a list of a segment and an offset. Own.
unfoldable pub value_in : Data → Option Value
value_in d = number_or_pointer (felt_in d) (pointer_in d)

-- The cell with a place and a value, where there are both. Own.
abbrev pub cell_with : Option Place → Option Value → Option HintCell
cell_with None v = None
cell_with (Some p) None = None
cell_with (Some p) (Some v) = Some (record { place = p; value = v })

-- The cell that three entries are, a segment, an offset and a value. Own.
abbrev pub cell_of : List Data → Option HintCell
cell_of [] = None
cell_of (seg ∷ []) = None
cell_of (seg ∷ off ∷ []) = None
cell_of (seg ∷ off ∷ value ∷ []) = cell_with (place_of seg off) (value_in value)
cell_of (seg ∷ off ∷ value ∷ more ∷ rest) = None

-- The value as a list of a segment, an offset and what the cell holds, where it is one. Own.
unfoldable pub cell_in : Data → Option HintCell
cell_in d = option_and_then cell_of (list_in d)
