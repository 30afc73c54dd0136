-- Lists of cells, and the memory that they make. "The whitepaper" is Cairo's, ePrint 2021/1063.
use Rattle.std.specs.Prelude.{ℕ, ◌==◌, List, map, Option, option_map, find}
use Rattle.std.specs.List.{enumerate_from}
use Rattle.goldilocks.specs.declared.Felt.{Felt}
use Rattle.goldilocks.specs.declared.Pair.{Pair}
use Rattle.goldilocks.specs.Felts.{felt}

-- The cell of an address and a value. Own.
abbrev pub cell : Felt → Felt → Pair
cell addr value = record { addr = addr; value = value }

-- The cells of values that lie one after another, the first one at this address. Addresses are counted modulo p. Own.
unfoldable pub cells_from : ℕ → List Felt → List Pair
cells_from address values = map (λ at. cell (felt at.0) at.1) (enumerate_from address values)

-- The addresses of cells, in the order of the cells. Own.
abbrev pub addresses : List Pair → List ℕ
addresses cells = map (λ c. c.addr.number) cells

-- The memory of cells: at each address the value of the first cell that lies there, and none elsewhere. The whitepaper
-- proves of its nondeterministic continuous read-only memory that there is one; here it is read off.
unfoldable pub memory_of : List Pair → ℕ → Option ℕ
memory_of cells address = option_map (λ c. c.value.number) (find (λ c. c.addr.number == address) cells)
