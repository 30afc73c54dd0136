-- What is built of a run.
use Rattle.std.specs.Prelude.{List, Option, Some, None, Result, Ok, Err}
use Rattle.casm_word.specs.Transition.{Memory, Registers}
use Rattle.program_file.specs.Listing.{Listing}
use Rattle.public_input.specs.Statement.{Statement}
use Rattle.table_file.specs.Tables.{Contents}
use Rattle.table_builder.specs.Columns.{tables_of}
use Rattle.table_builder.specs.Findings.{Finding, first_found, findings}

-- The tables, unless something stands in their way. Own.
abbrev pub unless_found : Option Finding → Contents → Result Contents Finding
unless_found None tables = Ok tables
unless_found (Some found) tables = Err found

-- What is built of a run: its tables, or the first thing that stands in their way. Own.
unfoldable pub building : Listing → Statement → Memory → List Registers → Result Contents Finding
building program public m states = unless_found (first_found (findings program public m states)) (tables_of program public m states)
