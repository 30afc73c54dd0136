-- Memory files: the cells of a memory, in the order of their addresses. Own.
use Rattle.std.specs.Prelude.{◌≡◌, ◌≢◌, ℕ, ◌+◌, ◌-◌, ◌*◌, ◌/◌, ◌%◌, ◌<◌, ◌≤◌, ◌^◌, ◌==◌, Bool, ◌||◌, nat_lt, List, length, map, Option, Some, None, Result, Ok, Err, if◌then◌else◌}
use Rattle.std.specs.List.{flat_map, range_with_len}
use Rattle.std.specs.List.Sorted.{IsStrictlyIncreasing}
use Rattle.goldilocks.specs.declared.Pair.{Pair}
use Rattle.goldilocks.specs.Felts.{felt}
use Rattle.goldilocks.specs.Cells.{cell, addresses}
use Rattle.file_records.specs.Numbers.{numbers_bytes, number_at, AreNumbersBefore, IsFirstNotField, first_failing_place, first_not_field}
use Rattle.file_records.specs.Records.{pair_values}
use Rattle.trace_files.specs.declared.fault.FileFault.{FileFault}
use Rattle.trace_files.specs.declared.fault.FileFault.TheVariants.{TooMany, Length, NotField, Order, Memory}

-- The most cells that a memory file may have. Own.
abbrev pub memory_cell_limit : ℕ
memory_cell_limit = 2 ^ 21

-- The most bytes that a memory file may have. Own.
abbrev pub memory_limit : ℕ
memory_limit = 16 * memory_cell_limit

-- A cell as it stands in a memory file: its address, then its value. Own.
abbrev pub cell_bytes : Pair → List ℕ
cell_bytes c = numbers_bytes (pair_values c)

-- The bytes of the memory file of these cells. Own.
abbrev pub memory_bytes : List Pair → List ℕ
memory_bytes cells = flat_map cell_bytes cells

-- The bytes of a memory file spell these cells, one after another and nothing else. Each address is above the one
-- before, and there are no more cells than a memory file may have. Own.
pub record SpellsMemory (bytes : List ℕ) (cells : List Pair) : Type 0 where
  pub parts : bytes ≡ memory_bytes cells
  pub most : length cells ≤ memory_cell_limit
  pub ascending : IsStrictlyIncreasing (addresses cells)

-- Each entry that begins before a place has an address above that of the entry before it, which begins 16 bytes
-- earlier. Own.
abbrev pub AscendsBefore : List ℕ → ℕ → Type 0
AscendsBefore bytes end = (place : ℕ) → 16 ≤ place → place < end → place % 16 ≡ 0 → number_at bytes (place - 16) < number_at bytes place

-- The entry at this place is the first whose address isn't above that of the entry before it. Own.
pub record IsFirstDisorder (bytes : List ℕ) (place : ℕ) : Type 0 where
  pub entry : place % 16 ≡ 0
  pub second : 16 ≤ place
  pub within : place < length bytes
  pub not_above : number_at bytes place ≤ number_at bytes (place - 16)
  pub before : AscendsBefore bytes place

-- Where the entry begins that has the byte at this place. Own.
abbrev pub entry_of : ℕ → ℕ
entry_of place = place - place % 16

-- So many bytes may be a memory file: whole entries, and no more than it may have. Own.
pub record HasMemoryLength (bytes : List ℕ) : Type 0 where
  pub most : length bytes ≤ memory_limit
  pub whole : length bytes % 16 ≡ 0

-- The fault of bytes that spell no memory. `TooMany`: they are more than a memory file may have. `Length`: else, they
-- are no whole entries. `NotField`: else, the first number that is none of the field begins at this place, and the
-- entries before its own ascend. `Order`: else, the first address out of order begins at this place, and all numbers
-- up to the end of its entry are of the field. Own.
abbrev pub IsMemoryFault : List ℕ → FileFault → Type 0
IsMemoryFault bytes TooMany = memory_limit < length bytes
IsMemoryFault bytes Length = (length bytes ≤ memory_limit) × (length bytes % 16 ≢ 0)
IsMemoryFault bytes (NotField place) = HasMemoryLength bytes × IsFirstNotField bytes place × AscendsBefore bytes (entry_of place)
IsMemoryFault bytes (Order place) = HasMemoryLength bytes × IsFirstDisorder bytes place × AreNumbersBefore bytes (place + 16)
IsMemoryFault bytes Memory = ⊥

-- The cell with a number, counted from 0, where the bytes are cells one after another. Own.
unfoldable pub cell_at : List ℕ → ℕ → Pair
cell_at bytes i = cell (felt (number_at bytes (16 * i))) (felt (number_at bytes (16 * i + 8)))

-- The cells at their places in the bytes, as many as fit: the only ones that the bytes can spell. Own.
unfoldable pub cells_in : List ℕ → List Pair
cells_in bytes = map (cell_at bytes) (range_with_len 0 (length bytes / 16))

-- Whether the address at a place is above the one 16 bytes earlier, if there is one, as a test. Own.
unfoldable pub ascends_at : List ℕ → ℕ → Bool
ascends_at bytes place = nat_lt place 16 || nat_lt (number_at bytes (place - 16)) (number_at bytes place)

-- The place of the first entry whose address isn't above that of the entry before it. Own.
abbrev pub first_disorder : List ℕ → Option ℕ
first_disorder bytes = first_failing_place 16 (ascends_at bytes) bytes

-- The cells, unless a number is none of the field or an address is out of order; of both the one that is met first
-- entry by entry. Own.
abbrev pub cells_unless : Option ℕ → Option ℕ → List Pair → Result (List Pair) FileFault
cells_unless None None cells = Ok cells
cells_unless (Some place) None cells = Err (NotField place)
cells_unless None (Some entry) cells = Err (Order entry)
cells_unless (Some place) (Some entry) cells = if nat_lt place (entry + 16) then Err (NotField place) else Err (Order entry)

-- What the bytes of a memory file are read as: the cells that they spell, or else their fault. Own.
unfoldable pub memory_reading : List ℕ → Result (List Pair) FileFault
memory_reading bytes =
    if nat_lt memory_limit (length bytes) then Err TooMany
    else (if length bytes % 16 == 0 then cells_unless (first_not_field bytes) (first_disorder bytes) (cells_in bytes) else Err Length)
