-- The public file that is written for a public input has at most 45 bytes a cell, and some 250 more, so it is within its
-- limit.
use Rattle.std.proofs.Common.{◌+◌, ◌*◌, ◌^◌, ◌<◌, ◌≤◌, Bool, true, false, List, [], ◌∷◌, ◌++◌, map, length, arith}
use Rattle.json.specs.Print.{escape_byte, quoted}
use Rattle.serde_json.specs.Data.{Members, no_members}
use Rattle.serde_json.specs.View.{items_of}
use Rattle.serde_json.specs.Written.{comma_if, compact_text, items_text, members_text}
use Rattle.json_fields.specs.FieldTexts.{hex_text}
use Rattle.json_fields.specs.Encoding.{list_json, whole_json, felt_json, pair_json}
use Rattle.goldilocks.specs.declared.Pair.{Pair}
use Rattle.public_input.specs.declared.fault.PublicKey.TheVariants.{Steps, ApFirst, ApLast, RcMin, RcMax, RangeBegin, RangeCount, Cells}
use Rattle.public_input.specs.Limits.{public_limit}
use Rattle.public_input.specs.Shown.{key_name}
use Rattle.public_input.specs.Statement.{Statement}
use Rattle.public_input.specs.Valid.{KeepsLimits}
use Rattle.public_input.specs.Written.{under, statement_json, written}
use Rattle.cairo_commands.proofs.TextSizes.{text_le, word_le, comma_le, place_le, member_le}

-- ---- a list of cells

cell_le : (c : Pair) → length (compact_text (pair_json c)) ≤ 43
unfolding escape_byte
cell_le c =
    let value = text_le (quoted (hex_text c.value)) (93 ∷ []) 20 1 (word_le c.value) (omega arith) in
    let both = text_le (quoted (hex_text c.addr)) (44 ∷ (quoted (hex_text c.value) ++ 93 ∷ [])) 20 22 (word_le c.addr) (omega arith) in
    omega arith

cells_le : (later : Bool) (cells : List Pair) → length (items_text later (items_of (map pair_json cells))) ≤ 44 * length cells + 1
cells_le later [] = omega arith
cells_le later (c ∷ cells) =
    let others = items_text true (items_of (map pair_json cells)) in
    let k = text_le (comma_if later) (compact_text (pair_json c) ++ others) 1 (43 + (44 * length cells + 1)) (comma_le later)
    (text_le (compact_text (pair_json c)) others 43 (44 * length cells + 1) (cell_le c) (cells_le true cells)) in
    omega arith

-- ---- the whole file

module _ (s : Statement) where
  abbrev from_steps : Members
  from_steps = under Steps (whole_json s.steps) no_members

  abbrev from_rc_min : Members
  from_rc_min = under RcMin (whole_json s.rc_min) from_steps

  abbrev from_rc_max : Members
  from_rc_max = under RcMax (whole_json s.rc_max) from_rc_min

  abbrev from_range_count : Members
  from_range_count = under RangeCount (whole_json s.range_count) from_rc_max

  abbrev from_range_begin : Members
  from_range_begin = under RangeBegin (felt_json s.range_begin) from_range_count

  abbrev from_cells : Members
  from_cells = under Cells (list_json (map pair_json s.cells)) from_range_begin

  abbrev from_ap_last : Members
  from_ap_last = under ApLast (felt_json s.ap_last) from_cells

  numbers_le : KeepsLimits s → length (members_text true from_range_begin) ≤ 160
  unfolding escape_byte
  numbers_le kept =
      let steps : s.steps < 2 ^ 32 = omega (arith, kept.most_steps) in
      let least : s.rc_min < 2 ^ 32 = omega (arith, kept.in_order, kept.narrow) in
      let greatest : s.rc_max < 2 ^ 32 = omega (arith, kept.narrow) in
      let count : s.range_count < 2 ^ 32 = omega (arith, kept.most_range_cells) in
      let every = member_le true (key_name RangeBegin) (felt_json s.range_begin) from_range_count 13 20 85 (omega arith) (word_le s.range_begin)
      (member_le true (key_name RangeCount) (whole_json s.range_count) from_rc_max 13 10 60 (omega arith) (place_le s.range_count count)
      (member_le true (key_name RcMax) (whole_json s.rc_max) from_rc_min 8 10 40 (omega arith) (place_le s.rc_max greatest)
      (member_le true (key_name RcMin) (whole_json s.rc_min) from_steps 8 10 20 (omega arith) (place_le s.rc_min least)
      (member_le true (key_name Steps) (whole_json s.steps) no_members 7 10 1 (omega arith) (place_le s.steps steps) (omega arith))))) in
      omega arith

  members_le : KeepsLimits s → length (members_text false (under ApFirst (felt_json s.ap_first) from_ap_last)) ≤ 44 * length s.cells + 260
  unfolding escape_byte
  members_le kept =
      let cells = cells_le false s.cells in
      let every = member_le false (key_name ApFirst) (felt_json s.ap_first) from_ap_last 10 20 (44 * length s.cells + 210) (omega arith) (word_le s.ap_first)
      (let behind = member_le true (key_name ApLast) (felt_json s.ap_last) from_cells 9 20 (44 * length s.cells + 175) (omega arith) (word_le s.ap_last)
      (let listed = member_le true (key_name Cells) (list_json (map pair_json s.cells)) from_range_begin 7 (44 * length s.cells + 2) 160 (omega arith) (omega arith) (numbers_le kept) in omega arith) in omega arith) in
      omega arith

  -- what is written for a public input is within the limit of a public file
  pub public_fits : KeepsLimits s → length (written s) ≤ public_limit
  unfolding written statement_json
  public_fits kept =
      let few = kept.most_cells in
      let k = members_le kept in
      omega arith
