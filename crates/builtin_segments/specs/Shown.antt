-- How the causes against a cell are printed.
use Rattle.std.specs.Prelude.{ℕ, List}
use Rattle.segments.specs.Shown.{cause_text}
use Rattle.builtin_segments.specs.declared.cells.CellCause.{CellCause}
use Rattle.builtin_segments.specs.declared.cells.CellCause.TheVariants.{Put}

-- A cause as text: that of the memory. Own.
abbrev pub cell_cause_text : CellCause → List ℕ
cell_cause_text (Put cause) = cause_text cause
