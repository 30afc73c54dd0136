-- What the private parts of the checker speak of. No public contract cites it.
use Rattle.std.specs.Prelude.{◌<◌, map, length, All}
use Rattle.casm_word.specs.Transition.{Memory}
use Rattle.casm_word.specs.Run.{LegalRun}
use Rattle.cpu_rows.specs.Columns.{columns}
use Rattle.cpu_rows.specs.Steps.{HasSmallOffsets, HasCells, row_accesses}
use Rattle.table_file.specs.Tables.{Contents}
use Rattle.constraint_checker.specs.Constraints.{states}

-- The rows are a legal run in each memory that has their cells, where their offsets have sixteen bits. Own.
abbrev pub RunsAnywhere : Contents → Type 0
RunsAnywhere tables =
    0 < length tables.rows →
    All HasSmallOffsets (map columns tables.rows) →
    (m : Memory) → All (λ r. HasCells m (row_accesses r)) (map columns tables.rows) →
    LegalRun m (states tables)
