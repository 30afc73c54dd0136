-- The order of the memory's cells.
use Rattle.std.specs.Prelude.{◌≡◌, ◌<◌, ◌⊎◌}
use Rattle.goldilocks.specs.declared.Pair.{Pair}

-- The cell comes before the other: its address is lower, or the addresses are the same and its value is lower. Own.
unfoldable pub IsBefore : Pair → Pair → Type 0
IsBefore x y =
    (x.addr.number < y.addr.number) ⊎ ((x.addr.number ≡ y.addr.number) × (x.value.number < y.value.number))
