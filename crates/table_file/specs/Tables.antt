-- What tables hold, and how many of each there may be.
use Rattle.std.specs.Prelude.{ℕ, ◌≡◌, ◌+◌, ◌*◌, ◌^◌, ◌≤◌, List, length}
use Rattle.goldilocks.specs.declared.Felt.{Felt}
use Rattle.goldilocks.specs.declared.Pair.{Pair}
use Rattle.casm_word.specs.declared.State.{State}
use Rattle.cpu_rows.specs.declared.Row.{Row}
use Rattle.memory_columns.specs.Filling.{filler_limit}
use Rattle.range_columns.specs.declared.RangeRow.{RangeRow}
use Rattle.table_file.specs.declared.Tables.{Tables}

-- What tables hold: the rows, the state after the last one, the range rows, the memory fillers, the sorted pairs, the
-- range fillers and the sorted range values. Own.
pub record Contents : Type 0 where
  pub rows : List Row
  pub last : State
  pub range : List RangeRow
  pub fillers : List Pair
  pub pairs : List Pair
  pub range_fillers : List Felt
  pub sorted_range : List Felt

-- The lists that the tables of the code hold. Own.
abbrev pub contents : Tables → Contents
contents t = record {
  rows = t.rows.items;
  last = t.last;
  range = t.range.items;
  fillers = t.memory.fill.items;
  pairs = t.memory.sorted.items;
  range_fillers = t.small.fill.items;
  sorted_range = t.small.sorted.items;
}

-- The most rows. Own.
abbrev pub row_limit : ℕ
row_limit = 2 ^ 20

-- The most range rows. Own.
abbrev pub range_row_limit : ℕ
range_row_limit = 2 ^ 18

-- The most sorted pairs. Own.
abbrev pub pair_limit : ℕ
pair_limit = 7077888

-- The most range fillers. Own.
abbrev pub range_filler_limit : ℕ
range_filler_limit = 65536

-- Tables that a file may hold: no list is above its limit. There is a sorted range value for each offset of a row, for
-- each limb of a range row and for each range filler. Own.
pub record AreValid (t : Contents) : Type 0 where
  pub row_count : length t.rows ≤ row_limit
  pub range_row_count : length t.range ≤ range_row_limit
  pub filler_count : length t.fillers ≤ filler_limit
  pub pair_count : length t.pairs ≤ pair_limit
  pub range_filler_count : length t.range_fillers ≤ range_filler_limit
  pub sorted_range_count : length t.sorted_range ≡ 3 * length t.rows + 3 * length t.range + length t.range_fillers
