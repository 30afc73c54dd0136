-- What a hint file says: how many extra segments a run has, and which cells are given to it.
use Rattle.std.specs.Prelude.{ℕ, ◌≤◌, List, length, All}
use Rattle.hint_cells.specs.declared.HintCell.{HintCell}
use Rattle.hint_cells.specs.declared.Hints.{Hints}
use Rattle.hint_cells.specs.Limits.{extra_limit, hint_cell_limit}
use Rattle.hint_cells.specs.Fits.{FitsPlaces}

-- Hints as the number of extra segments, and the given cells in their order. Own.
pub record HintList : Type 0 where
  pub extra : ℕ
  pub cells : List HintCell

-- What is listed are hints: not too many extra segments, not too many cells, and each segment and offset is below 2^32.
-- Own.
pub record AreHints (h : HintList) : Type 0 where
  pub few_extra : h.extra ≤ extra_limit
  pub few_cells : length h.cells ≤ hint_cell_limit
  pub fit : All FitsPlaces h.cells

-- What hints of the code list: their number of extra segments, and their cells. Own.
abbrev pub hint_list : Hints → HintList
hint_list h = record { extra = h.extra; cells = h.cells.items }
