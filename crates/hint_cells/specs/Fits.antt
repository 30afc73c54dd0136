-- Which cells the code can hold: segments and offsets are numbers below 2^32.
use Rattle.std.specs.Prelude.{◌≡◌, ◌<◌}
use Rattle.segments.specs.declared.Place.{Place}
use Rattle.segments.specs.declared.Value.{Value}
use Rattle.segments.specs.declared.Value.TheVariants.{Ptr}
use Rattle.hint_cells.specs.declared.HintCell.{HintCell}
use Rattle.hint_cells.specs.Limits.{index_limit}

-- The place's segment and its offset are below 2^32. Own.
abbrev pub FitsPlace : Place → Type 0
FitsPlace p = (p.seg < index_limit) × (p.off < index_limit)

-- If the value is a pointer, its place does so. Own.
abbrev pub FitsValue : Value → Type 0
FitsValue v = (p : Place) → v ≡ Ptr p → FitsPlace p

-- The cell's place does so, and the place that it may point at. Own.
abbrev pub FitsPlaces : HintCell → Type 0
FitsPlaces c = FitsPlace c.place × FitsValue c.value
