-- Every access to the memory that rows, range cells, words, public cells and fillers make. "The whitepaper" is Cairo's,
-- ePrint 2021/1063.
use Rattle.std.specs.Prelude.{ℕ, List, [], ◌∷◌, ◌++◌, map}
use Rattle.std.specs.List.{flat_map}
use Rattle.goldilocks.specs.declared.Felt.{Felt}
use Rattle.goldilocks.specs.declared.Pair.{Pair}
use Rattle.goldilocks.specs.Cells.{cell, cells_from}
use Rattle.cpu_rows.specs.declared.Row.{Row}
use Rattle.range_columns.specs.declared.RangeRow.{RangeRow}
use Rattle.access_lists.specs.declared.cells.Accesses.{Accesses}

-- The four cells that a row reads: its instruction, dst, op0 and op1. The whitepaper's memory accesses of a step.
unfoldable pub row_cells : Row → List Pair
row_cells r = cell r.pc r.inst ∷ cell r.dst_addr r.dst ∷ cell r.op0_addr r.op0 ∷ cell r.op1_addr r.op1 ∷ []

-- The program's words, at the addresses 1, 2 and on. The whitepaper's program as a part of the public memory.
unfoldable pub program_cells : List Felt → List Pair
program_cells words = cells_from 1 words

-- The range cells, one after another, the first one at this address. The whitepaper's builtin for range checks.
unfoldable pub range_cells : ℕ → List RangeRow → List Pair
range_cells begin rows = cells_from begin (map (λ r. r.value) rows)

-- What makes accesses: rows, range cells with the address of the first one, the words of a program, public cells, and
-- fillers. The whitepaper's memory accesses, with its public memory.
pub record AccessParts : Type 0 where
  pub rows : List Row
  pub range_begin : ℕ
  pub range_rows : List RangeRow
  pub words : List Felt
  pub public_cells : List Pair
  pub fillers : List Pair

-- Every access to the memory: the cells of each row, the range cells, the program's words, the public cells, and the
-- fillers. The whitepaper's memory accesses, with its public memory.
unfoldable pub accesses : AccessParts → List Pair
accesses parts =
    flat_map row_cells parts.rows
    ++ range_cells parts.range_begin parts.range_rows
    ++ program_cells parts.words
    ++ parts.public_cells
    ++ parts.fillers

-- The parts that a value of the code's type has. Own.
abbrev pub access_parts : Accesses → AccessParts
access_parts a = record {
  rows = a.rows.now;
  range_begin = a.range_begin.number;
  range_rows = a.range_rows.now;
  words = a.words.now;
  public_cells = a.public_cells.now;
  fillers = a.fillers.now;
}
