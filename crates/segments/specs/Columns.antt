-- How the memory of a run is kept: for each segment the list of its cells up to its size. Only the code that keeps it
-- speaks of it.
use Rattle.std.specs.Prelude.{ℕ, ◌+◌, ◌-◌, ◌^◌, ◌<◌, nat_lt, if◌then◌else◌, List, [], ◌∷◌, ◌++◌, length, map, replicate, slice_set, Option, Some, None}
use Rattle.std.specs.FinMap.{from_entries}
use Rattle.goldilocks.specs.declared.Felt.{Felt}
use Rattle.segments.specs.declared.Place.{Place}
use Rattle.segments.specs.declared.Value.{Value}
use Rattle.segments.specs.declared.Value.TheVariants.{Num, Ptr}
use Rattle.segments.specs.declared.column.Slot.{Slot}
use Rattle.segments.specs.declared.column.Slot.TheVariants.{Hole, Number, Pointer}
use Rattle.segments.specs.Values.{place}
use Rattle.segments.specs.Memory.{RunMemory}

-- A pointer's offset is below 2^32, as the code's type of offsets says. Own.
abbrev pub HasOffset : Value → Type 0
HasOffset (Num x) = Unit {0}
HasOffset (Ptr p) = p.off < 2 ^ 32

-- The value that a slot holds. Own.
abbrev pub slot_value : Slot → Option Value
slot_value Hole = None
slot_value (Number x) = Some (Num x)
slot_value (Pointer p) = Some (Ptr p)

-- The value that a word of the program is. Own.
abbrev pub word_value : Felt → Option Value
word_value x = Some (Num x)

-- The list with an item at an index, up to which it grows by another. Own.
unfoldable pub written_at : List Slot → ℕ → Slot → List Slot
written_at slots off slot =
    if nat_lt off (length slots) then slice_set slots off slot
    else slots ++ replicate (off - length slots) Hole ++ slot ∷ []

-- The column with a value at an offset. Own.
unfoldable pub with_value : List (Option Value) → ℕ → Value → List (Option Value)
with_value column off v =
    if nat_lt off (length column) then slice_set column off (Some v)
    else column ++ replicate (off - length column) None ++ Some v ∷ []

-- The held cells of a segment from an offset on. Own.
abbrev pub column_entries : ℕ → ℕ → List (Option Value) → List (Place × Value)
column_entries seg off [] = []
column_entries seg off (None ∷ column) = column_entries seg (off + 1) column
column_entries seg off (Some v ∷ column) = (place seg off, v) ∷ column_entries seg (off + 1) column

-- The held cells of the segments from one on. Own.
abbrev pub entries : ℕ → List (List (Option Value)) → List (Place × Value)
entries seg [] = []
entries seg (column ∷ columns) = column_entries seg 0 column ++ entries (seg + 1) columns

-- The memory that the columns keep. Own.
unfoldable pub kept_memory : List (List (Option Value)) → RunMemory
kept_memory columns = record { sizes = map length columns; cells = from_entries (entries 0 columns) }
