-- The two lists that tables are checked by: every access to the memory, and every small value. "The whitepaper" is
-- Cairo's, ePrint 2021/1063.
use Rattle.std.specs.Prelude.{List}
use Rattle.goldilocks.specs.declared.Felt.{Felt}
use Rattle.goldilocks.specs.declared.Pair.{Pair}
use Rattle.cpu_rows.specs.declared.Row.{Row}
use Rattle.range_columns.specs.declared.RangeRow.{RangeRow}
use Rattle.access_lists.specs.Accesses.{AccessParts, accesses as accesses_of}
use Rattle.access_lists.specs.SmallValues.{small_values}
use Rattle.program_file.specs.Listing.{Listing}
use Rattle.public_input.specs.Statement.{Statement}
use Rattle.table_file.specs.Tables.{Contents}

-- What accesses the memory: these rows, range rows and fillers, with the program's words and the public cells. The
-- whitepaper's memory accesses, with its public memory.
abbrev pub accessing_with : Listing → Statement → List Row → List RangeRow → List Pair → AccessParts
accessing_with program public rows range fillers = record {
  rows = rows;
  range_begin = public.range_begin.number;
  range_rows = range;
  words = program.words;
  public_cells = public.cells;
  fillers = fillers;
}

-- What accesses the memory, where these are the tables. The whitepaper's memory accesses, with its public memory.
abbrev pub accessing : Listing → Statement → Contents → AccessParts
accessing program public tables = accessing_with program public tables.rows tables.range tables.fillers

-- Every access to the memory: the cells of each row, the range cells, the program's words, the public cells, and the
-- fillers. The whitepaper's memory accesses, with its public memory.
abbrev pub accesses : Listing → Statement → Contents → List Pair
accesses program public tables = accesses_of (accessing program public tables)

-- Every value of the range check: the offsets of each row, the limbs of each range cell, and the fillers. The
-- whitepaper's permutation range-checks.
abbrev pub table_small_values : Contents → List Felt
table_small_values tables = small_values (record { rows = tables.rows; range_rows = tables.range; fillers = tables.range_fillers })
