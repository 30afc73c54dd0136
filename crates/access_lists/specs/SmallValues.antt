-- Every small value of rows, range cells and fillers, which is to be range checked. "The whitepaper" is Cairo's, ePrint
-- 2021/1063.
use Rattle.std.specs.Prelude.{List, [], ◌∷◌, ◌++◌}
use Rattle.std.specs.List.{flat_map}
use Rattle.goldilocks.specs.declared.Felt.{Felt}
use Rattle.cpu_rows.specs.declared.Row.{Row}
use Rattle.range_columns.specs.declared.RangeRow.{RangeRow}
use Rattle.access_lists.specs.declared.values.SmallValues.{SmallValues}

-- The three biased offsets of a row. The whitepaper's range-checked offsets.
unfoldable pub row_offsets : Row → List Felt
row_offsets r = r.off_dst ∷ r.off_op0 ∷ r.off_op1 ∷ []

-- The three limbs of a range row, also where a range cell has fewer. The whitepaper's builtin for range checks.
unfoldable pub limbs : RangeRow → List Felt
limbs r = r.l0 ∷ r.l1 ∷ r.l2 ∷ []

-- What has small values: rows, range cells, and fillers. The whitepaper's permutation range-checks.
pub record SmallParts : Type 0 where
  pub rows : List Row
  pub range_rows : List RangeRow
  pub fillers : List Felt

-- Every small value: the offsets of each row, the limbs of each range cell, and the fillers. The whitepaper's
-- permutation range-checks.
unfoldable pub small_values : SmallParts → List Felt
small_values parts =
    flat_map row_offsets parts.rows
    ++ flat_map limbs parts.range_rows
    ++ parts.fillers

-- The parts that a value of the code's type has. Own.
abbrev pub small_parts : SmallValues → SmallParts
small_parts s = record { rows = s.rows.now; range_rows = s.range_rows.now; fillers = s.fillers.now }
