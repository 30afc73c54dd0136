-- The cells of a memory, as the code keeps them. Own.
use Rattle.std.specs.Prelude.{◌≤◌, List, length}
use Rattle.std.specs.List.Sorted.{IsStrictlyIncreasing}
use Rattle.goldilocks.specs.declared.Pair.{Pair}
use Rattle.trace_files.specs.declared.cell_list.CellList.{CellList}
use Rattle.goldilocks.specs.Cells.{addresses}
use Rattle.trace_files.specs.MemoryFile.{memory_cell_limit}

-- The cells of a list, in their order. Own.
abbrev pub listed : CellList → List Pair
listed list = list.cells.items

-- These cells may be a list of cells: each address is above the one before, and there are no more than a memory
-- file may have. Own.
pub record CanBeListed (cells : List Pair) : Type 0 where
  pub ascending : IsStrictlyIncreasing (addresses cells)
  pub most : length cells ≤ memory_cell_limit
