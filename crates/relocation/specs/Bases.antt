-- Values at given bases of the segments.
use Rattle.std.specs.Prelude.{ℕ, ◌+◌, ◌<◌, List, length, slice_index}
use Rattle.segments.specs.declared.Place.{Place}
use Rattle.segments.specs.declared.Value.{Value}
use Rattle.segments.specs.declared.Value.TheVariants.{Num, Ptr}

-- The address of a place, where the segments lie at these bases. Own.
unfoldable pub address_by : List ℕ → Place → ℕ
address_by bases p = slice_index bases p.seg + p.off

-- The number that a value is there: a number is itself, and a pointer is the address of its place. Own.
unfoldable pub relocated_by : List ℕ → Value → ℕ
relocated_by bases (Num x) = x.number
relocated_by bases (Ptr p) = address_by bases p

-- A pointer's segment has a base; a number needs none. Own.
abbrev pub HasBase : List ℕ → Value → Type 0
HasBase bases (Num x) = Unit {0}
HasBase bases (Ptr p) = p.seg < length bases
