-- How proofs tell the memories apart: a memory is its sizes and its map, and a place is its two numbers. A formality that
-- the language asks of each type that stands for a struct.
use Rattle.std.specs.Prelude.{ℕ, List, refl}
use Rattle.std.specs.Coded.{Coded, code_by, coded×, coded_list, coded_ℕ}
use Rattle.std.specs.FinMap as map
use Rattle.segments.specs.contracts.Value as value
use Rattle.segments.specs.declared.Place.{Place}
use Rattle.segments.specs.declared.Value.{Value}
use Rattle.segments.specs.Values.{place_cmp}
use Rattle.segments.specs.Memory.{RunMemory}

-- A place as its two numbers. Own.
abbrev pub place_code : Coded Place
place_code = code_by (ℕ × ℕ) (coded× coded_ℕ coded_ℕ) (λ p. (p.seg, p.off)) (λ n. record { seg = n.0; off = n.1 }) (λ _. refl)

-- A memory as its sizes and its map. Own.
abbrev pub memory_code : Coded RunMemory
memory_code =
    code_by (List ℕ × map.FinMap place_cmp Value) (coded× (coded_list coded_ℕ) (map.code place_code value.the_row.coded))
    (λ m. (m.sizes, m.cells)) (λ n. record { sizes = n.0; cells = n.1 }) (λ _. refl)
