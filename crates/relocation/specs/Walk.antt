-- What the parts of `relocate` say to one another. No public contract cites it.
use Rattle.std.specs.Prelude.{Bool, ◌&&◌, ◌||◌, ◌==◌, nat_lt, List, map}
use Rattle.std.specs.List.{filter}
use Rattle.std.specs.FinMap.{entries}
use Rattle.goldilocks.specs.declared.Pair.{Pair}
use Rattle.segments.specs.declared.Place.{Place}
use Rattle.segments.specs.declared.Value.{Value}
use Rattle.segments.specs.Memory.{RunMemory}
use Rattle.relocation.specs.Relocated.{relocated_cell}

-- Whether a place comes before another: its segment is an earlier one, or it lies earlier in the same segment. Own.
abbrev pub comes_before : Place → Place → Bool
comes_before q p = nat_lt q.seg p.seg || ((q.seg == p.seg) && nat_lt q.off p.off)

-- Those of some cells that lie before a place. Own.
abbrev pub held_before : Place → List (Place × Value) → List (Place × Value)
held_before p held = filter (λ c. comes_before c.0 p) held

-- The relocated cells of those that lie before a place. Own.
unfoldable pub cells_before : RunMemory → Place → List Pair
cells_before m p = map (relocated_cell m.sizes) (held_before p (entries m.cells))
