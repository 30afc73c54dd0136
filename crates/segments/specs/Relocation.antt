-- Where the segments of a run come to lie: one after another, the first at address 1. Relocation takes each place to
-- its address, and each value to a number.
use Rattle.std.specs.Prelude.{ℕ, ◌+◌, List, length, map, sum, take}
use Rattle.std.specs.List.{range_with_len}
use Rattle.segments.specs.declared.Place.{Place}
use Rattle.segments.specs.declared.Value.{Value}
use Rattle.segments.specs.declared.Value.TheVariants.{Num, Ptr}

-- The base of a segment, which is the address of its first cell: 1 plus the sizes of the segments before it. Own.
unfoldable pub base : List ℕ → ℕ → ℕ
base sizes seg = 1 + sum (take seg sizes)

-- The address of a place. Own.
unfoldable pub address : List ℕ → Place → ℕ
address sizes p = base sizes p.seg + p.off

-- The relocated value: a number is itself, and a pointer is the address of its place. Own.
unfoldable pub relocated : List ℕ → Value → ℕ
relocated sizes (Num x) = x.number
relocated sizes (Ptr p) = address sizes p

-- The bases of all segments, in their order. Own.
unfoldable pub segment_bases : List ℕ → List ℕ
segment_bases sizes = map (base sizes) (range_with_len 0 (length sizes))
