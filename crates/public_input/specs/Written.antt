-- The one spelling that is written.
use Rattle.std.specs.Prelude.{ℕ, List, map}
use Rattle.serde_json.specs.Data.{Data, Members, no_members, member, object}
use Rattle.serde_json.specs.Written.{compact_text}
use Rattle.json_fields.specs.Encoding.{list_json, whole_json, felt_json, pair_json}
use Rattle.public_input.specs.declared.fault.PublicKey.{PublicKey}
use Rattle.public_input.specs.declared.fault.PublicKey.TheVariants.{Steps, ApFirst, ApLast, RcMin, RcMax, RangeBegin, RangeCount, Cells}
use Rattle.public_input.specs.Shown.{key_name}
use Rattle.public_input.specs.Statement.{Statement}

-- A key with its value, and then other members. Own.
abbrev pub under : PublicKey → Data → Members → Members
under key value more = member (key_name key) value more

-- What is said, as JSON: an object with the eight keys in the order of their names. Own.
unfoldable pub statement_json : Statement → Data
statement_json s = object
    (under ApFirst (felt_json s.ap_first)
    (under ApLast (felt_json s.ap_last)
    (under Cells (list_json (map pair_json s.cells))
    (under RangeBegin (felt_json s.range_begin)
    (under RangeCount (whole_json s.range_count)
    (under RcMax (whole_json s.rc_max)
    (under RcMin (whole_json s.rc_min)
    (under Steps (whole_json s.steps) no_members))))))))

-- The bytes that are written: that JSON with no space, and nothing after it. Own.
unfoldable pub written : Statement → List ℕ
written s = compact_text (statement_json s)
