-- Which bytes are a public file, and of which public input.
use Rattle.std.specs.Prelude.{◌≡◌, ℕ, List, map, Some}
use Rattle.serde_json.specs.Data.{Data}
use Rattle.json_fields.specs.Values.{json_of, whole_at, felt_at, list_at, pair_in}
use Rattle.public_input.specs.declared.fault.PublicKey.TheVariants.{Steps, ApFirst, ApLast, RcMin, RcMax, RangeBegin, RangeCount, Cells}
use Rattle.public_input.specs.Shown.{key_name}
use Rattle.public_input.specs.Statement.{Statement}
use Rattle.public_input.specs.Valid.{KeepsLimits}

-- The bytes spell what is said. They are a JSON text, and its value has under each key what is said. The entries of
-- `cells` are the cells, each a list of an address and a value, and the limits are kept. Other keys may be there, and
-- of equal keys the last one counts. Own.
pub record SpellsPublic (bytes : List ℕ) (s : Statement) : Type 0 where
  pub top : Data
  pub json : json_of bytes ≡ Some top
  pub steps : whole_at (key_name Steps) top ≡ Some s.steps
  pub ap_first : felt_at (key_name ApFirst) top ≡ Some s.ap_first
  pub ap_last : felt_at (key_name ApLast) top ≡ Some s.ap_last
  pub rc_min : whole_at (key_name RcMin) top ≡ Some s.rc_min
  pub rc_max : whole_at (key_name RcMax) top ≡ Some s.rc_max
  pub range_begin : felt_at (key_name RangeBegin) top ≡ Some s.range_begin
  pub range_count : whole_at (key_name RangeCount) top ≡ Some s.range_count
  pub listed : List Data
  pub entries : list_at (key_name Cells) top ≡ Some listed
  pub cells : map pair_in listed ≡ map Some s.cells
  pub limits : KeepsLimits s
