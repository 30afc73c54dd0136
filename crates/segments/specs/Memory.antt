-- The memory of a run: how large each segment is, and a finite map from places to values. A cell is written once.
use Rattle.std.specs.Prelude.{◌≡◌, ℕ, ◌+◌, ◌-◌, ◌^◌, ◌<◌, ◌≤◌, max, Bool, true, ◌&&◌, ◌==◌, not, nat_lt, nat_le, if◌then◌else◌, List, [], ◌∷◌, ◌++◌, length, map, sum, slice_index, slice_set, Option, Some, None, IsSome}
use Rattle.std.specs.List.{enumerate_from}
use Rattle.std.specs.FinMap.{FinMap, get, insert, from_entries}
use Rattle.goldilocks.specs.declared.Felt.{Felt}
use Rattle.segments.specs.declared.Place.{Place}
use Rattle.segments.specs.declared.Value.{Value}
use Rattle.segments.specs.declared.Value.TheVariants.{Num, Ptr}
use Rattle.segments.specs.declared.memory.PutCause.{PutCause}
use Rattle.segments.specs.declared.memory.PutCause.TheVariants.{NoSegment, Fixed, CellLimit, Conflict}
use Rattle.segments.specs.Values.{place_cmp, place, same_value}

-- The sizes of all segments, in their order, and the cells that hold a value. Own.
pub record RunMemory : Type 0 where
  pub sizes : List ℕ
  pub cells : FinMap place_cmp Value

-- The sizes of all segments add up to at most this. Own.
abbrev pub total_limit : ℕ
total_limit = 2 ^ 21

-- There are at most this many segments. Own.
abbrev pub segment_limit : ℕ
segment_limit = 2 ^ 20

-- The value at a place, where its cell holds one. Own.
unfoldable pub cell : RunMemory → Place → Option Value
cell m p = get m.cells p

-- The size of a segment, 0 where there is none. Own.
unfoldable pub size : RunMemory → ℕ → ℕ
size m seg = slice_index m.sizes seg

-- The segment is there. Own.
unfoldable pub has_segment : RunMemory → ℕ → Bool
has_segment m seg = nat_lt seg (length m.sizes)

-- The value's segment is there; a number has none. Own.
unfoldable pub names_segment : RunMemory → Value → Bool
names_segment m (Num x) = true
names_segment m (Ptr p) = has_segment m p.seg

-- What every memory keeps. Segment 0 is there, and the numbers of segments and cells are in their limits. A held cell
-- lies below its segment's size, and the last one below a size is held: the size is one more than the greatest held
-- offset, or 0. A held pointer's segment is there, and its offset is below 2^32. Own.
pub record IsMemory (m : RunMemory) : Type 0 where
  pub has_program : 0 < length m.sizes
  pub segments : length m.sizes ≤ segment_limit
  pub total : sum m.sizes ≤ total_limit
  pub inside : (p : Place) → IsSome (cell m p) → p.off < size m p.seg
  pub last : (seg : ℕ) → 0 < size m seg → IsSome (cell m (place seg (size m seg - 1)))
  pub pointers : (p q : Place) → cell m p ≡ Some (Ptr q) → (q.seg < length m.sizes) × (q.off < 2 ^ 32)

-- The memory at first: the program's words are segment 0, and nothing else is there. Own.
unfoldable pub program_memory : List Felt → RunMemory
program_memory words = record {
  sizes = length words ∷ [];
  cells = from_entries (map (λ w. (place 0 w.0, Num w.1)) (enumerate_from 0 words));
}

-- The memory with one more segment, which is empty. Own.
unfoldable pub with_segment : RunMemory → RunMemory
with_segment m = record { sizes = m.sizes ++ 0 ∷ []; cells = m.cells }

-- The sizes once the cell at a place is held. Own.
unfoldable pub sizes_with : RunMemory → Place → List ℕ
sizes_with m p = slice_set m.sizes p.seg (max (size m p.seg) (p.off + 1))

-- The memory with this value at this place. Own.
unfoldable pub with_cell : RunMemory → Place → Value → RunMemory
with_cell m p v = record { sizes = sizes_with m p; cells = insert m.cells p v }

-- A later memory: every segment is there still and is at least as large, and every held cell keeps its value. Own.
pub record Grows (m n : RunMemory) : Type 0 where
  pub segments : length m.sizes ≤ length n.sizes
  pub sizes : (seg : ℕ) → size m seg ≤ size n seg
  pub cells : (p : Place) (v : Value) → cell m p ≡ Some v → cell n p ≡ Some v

-- What a held value has against another: one that isn't the same. Where nothing is held, there is nothing against any. Own.
unfoldable pub conflict : Option Value → Value → Option PutCause
conflict None v = None
conflict (Some kept) v = if same_value kept v then None else Some (Conflict kept)

-- Why a value may not go to a place: the first cause in their order, where there is one. Own.
unfoldable pub put_cause : RunMemory → Place → Value → Option PutCause
put_cause m p v =
    if not (has_segment m p.seg && names_segment m v) then Some NoSegment
    else (if (p.seg == 0) && nat_le (size m 0) p.off then Some Fixed
    else (if nat_lt total_limit (sum (sizes_with m p)) then Some CellLimit
    else conflict (cell m p) v))
