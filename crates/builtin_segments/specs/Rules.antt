-- What a run asks of a cell before it is placed.
use Rattle.std.specs.Prelude.{Option, Some, None, Result, Ok, Err}
use Rattle.segments.specs.declared.Place.{Place}
use Rattle.segments.specs.declared.Value.{Value}
use Rattle.segments.specs.declared.memory.PutCause.{PutCause}
use Rattle.segments.specs.Memory.{RunMemory, put_cause, with_cell}
use Rattle.program_file.specs.declared.Builtins.{Builtins}
use Rattle.builtin_segments.specs.declared.layout.Layout.{Layout}
use Rattle.builtin_segments.specs.declared.cells.CellCause.{CellCause}
use Rattle.builtin_segments.specs.declared.cells.CellCause.TheVariants.{Put}
use Rattle.builtin_segments.specs.Layout.{layout_of}

-- What the placing of cells goes by: which segment is which. No builtin asks anything of its cells yet. Own.
pub record Rules : Type 0 where
  pub layout : Layout

-- The rules for a program with these builtins. Own.
abbrev pub rules_of : Builtins → Rules
rules_of b = record { layout = layout_of b }

-- The memory, unless there is a cause against it. Own.
unfoldable pub unless_caused : Option PutCause → RunMemory → Result RunMemory CellCause
unless_caused None m = Ok m
unless_caused (Some cause) m = Err (Put cause)

-- The memory with this value at this place, or the first cause against it. Own.
unfoldable pub adding : Rules → RunMemory → Place → Value → Result RunMemory CellCause
adding rules m p v = unless_caused (put_cause m p v) (with_cell m p v)
