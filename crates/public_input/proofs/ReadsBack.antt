-- What is written spells what was said.
use Rattle.std.proofs.Common.{◌≡◌, ℕ, ◌≤◌, List, [], ◌∷◌, map, Some, Ok, refl, arith}
use Rattle.std.specs.Str.{IsUtf8}
use Rattle.json.proofs.Printed.Utf8.{IsUtf8-are_ascii}
use Rattle.serde_json.specs.Data.{depth}
use Rattle.serde_json.specs.Read.{max_depth}
use Rattle.json_fields.specs.Values.{json_of, pair_in, whole_at, felt_at, list_at}
use Rattle.json_fields.specs.Plain.{IsPlain, IsAfter}
use Rattle.json_fields.specs.Encoding.{pair_json}
use Rattle.public_input.specs.declared.fault.PublicKey.{PublicKey}
use Rattle.public_input.specs.declared.fault.PublicKey.TheVariants.{Steps, ApFirst, ApLast, RcMin, RcMax, RangeBegin, RangeCount, Cells}
use Rattle.public_input.specs.Shown.{key_name}
use Rattle.public_input.specs.Statement.{Statement}
use Rattle.public_input.specs.Valid.{KeepsLimits}
use Rattle.public_input.specs.Spelling.{SpellsPublic}
use Rattle.public_input.specs.Reading.{reading}
use Rattle.public_input.specs.Written.{statement_json, written}
use Rattle.public_input.proofs.Spellings.{reading-spelled}
use Rattle.json_fields.proofs.ReadBack.{json_of-compact_text}
use Rattle.json_fields.proofs.Parts.{ArePlain-items_of, items_depth-items_of, map-entries, list_in-list_json, whole_in-whole_json, felt_in-felt_json, pair_in-pair_json, IsPlain-felt_json, IsPlain-pair_json, depth-pair_json}

-- ---- the value that is written is plain

IsUtf8-key_name : (key : PublicKey) → IsUtf8 (key_name key)
IsUtf8-key_name Steps = IsUtf8-are_ascii (key_name Steps) refl
IsUtf8-key_name ApFirst = IsUtf8-are_ascii (key_name ApFirst) refl
IsUtf8-key_name ApLast = IsUtf8-are_ascii (key_name ApLast) refl
IsUtf8-key_name RcMin = IsUtf8-are_ascii (key_name RcMin) refl
IsUtf8-key_name RcMax = IsUtf8-are_ascii (key_name RcMax) refl
IsUtf8-key_name RangeBegin = IsUtf8-are_ascii (key_name RangeBegin) refl
IsUtf8-key_name RangeCount = IsUtf8-are_ascii (key_name RangeCount) refl
IsUtf8-key_name Cells = IsUtf8-are_ascii (key_name Cells) refl

-- the keys that are written before a key
abbrev keys_before : PublicKey → List (List ℕ)
keys_before ApFirst = []
keys_before ApLast = key_name ApFirst ∷ []
keys_before Cells = key_name ApFirst ∷ key_name ApLast ∷ []
keys_before RangeBegin = key_name ApFirst ∷ key_name ApLast ∷ key_name Cells ∷ []
keys_before RangeCount = key_name ApFirst ∷ key_name ApLast ∷ key_name Cells ∷ key_name RangeBegin ∷ []
keys_before RcMax = key_name ApFirst ∷ key_name ApLast ∷ key_name Cells ∷ key_name RangeBegin ∷ key_name RangeCount ∷ []
keys_before RcMin = key_name ApFirst ∷ key_name ApLast ∷ key_name Cells ∷ key_name RangeBegin ∷ key_name RangeCount ∷ key_name RcMax ∷ []
keys_before Steps = key_name ApFirst ∷ key_name ApLast ∷ key_name Cells ∷ key_name RangeBegin ∷ key_name RangeCount ∷ key_name RcMax ∷ key_name RcMin ∷ []

IsAfter-key_name : (key : PublicKey) → IsAfter (key_name key) (keys_before key)
IsAfter-key_name ApFirst = tt
IsAfter-key_name ApLast = (refl, tt)
IsAfter-key_name Cells = (refl, (refl, tt))
IsAfter-key_name RangeBegin = (refl, (refl, (refl, tt)))
IsAfter-key_name RangeCount = (refl, (refl, (refl, (refl, tt))))
IsAfter-key_name RcMax = (refl, (refl, (refl, (refl, (refl, tt)))))
IsAfter-key_name RcMin = (refl, (refl, (refl, (refl, (refl, (refl, tt))))))
IsAfter-key_name Steps = (refl, (refl, (refl, (refl, (refl, (refl, (refl, tt)))))))

IsPlain-statement_json : (s : Statement) → KeepsLimits s → IsPlain (statement_json s)
unfolding statement_json
IsPlain-statement_json s limits = (
  IsAfter-key_name ApFirst,
  IsUtf8-key_name ApFirst,
  IsPlain-felt_json s.ap_first,
  (
    IsAfter-key_name ApLast,
    IsUtf8-key_name ApLast,
    IsPlain-felt_json s.ap_last,
    (
      IsAfter-key_name Cells,
      IsUtf8-key_name Cells,
      ArePlain-items_of pair_json IsPlain-pair_json s.cells,
      (
        IsAfter-key_name RangeBegin,
        IsUtf8-key_name RangeBegin,
        IsPlain-felt_json s.range_begin,
        (
          IsAfter-key_name RangeCount,
          IsUtf8-key_name RangeCount,
          omega (arith, limits.most_range_cells),
          (
            IsAfter-key_name RcMax,
            IsUtf8-key_name RcMax,
            omega (arith, limits.narrow),
            (
              IsAfter-key_name RcMin,
              IsUtf8-key_name RcMin,
              omega (arith, limits.narrow, limits.in_order),
              (IsAfter-key_name Steps, IsUtf8-key_name Steps, omega (arith, limits.most_steps), tt),
            ),
          ),
        ),
      ),
    ),
  ),
)

depth-statement_json : (s : Statement) → depth (statement_json s) ≤ max_depth
unfolding statement_json
depth-statement_json s = let cells = items_depth-items_of pair_json 1 depth-pair_json s.cells in omega arith

json_of-written : (s : Statement) → KeepsLimits s → json_of (written s) ≡ Some (statement_json s)
unfolding written
json_of-written s limits = json_of-compact_text (statement_json s) (IsPlain-statement_json s limits) (depth-statement_json s)

-- ---- what stands under its keys

pub SpellsPublic-written : (s : Statement) → KeepsLimits s → SpellsPublic (written s) s
unfolding statement_json whole_at felt_at list_at
SpellsPublic-written s limits = record {
  top = statement_json s;
  json = json_of-written s limits;
  steps = whole_in-whole_json s.steps;
  ap_first = felt_in-felt_json s.ap_first;
  ap_last = felt_in-felt_json s.ap_last;
  rc_min = whole_in-whole_json s.rc_min;
  rc_max = whole_in-whole_json s.rc_max;
  range_begin = felt_in-felt_json s.range_begin;
  range_count = whole_in-whole_json s.range_count;
  listed = map pair_json s.cells;
  entries = list_in-list_json (map pair_json s.cells);
  cells = map-entries pair_json pair_in pair_in-pair_json s.cells;
  limits = limits;
}

pub reading-written : (s : Statement) → KeepsLimits s → reading (written s) ≡ Ok s
reading-written s limits = reading-spelled (written s) s (SpellsPublic-written s limits)
