use Rattle.std.proofs.Common.{map, refl, ap}
use Rattle.casm_word.specs.Transition.{registers}
use Rattle.trace_files.specs.CellList.{listed}
use Rattle.public_input.specs.Statement.{statement}
use Rattle.table_file.specs.Tables.{contents}
use Rattle.program_file.specs.Listing.{listing}
use Rattle.relocation.specs.Relocated.{field_run}
use Rattle.cairo_commands.proofs.CompletedRuns.{tables_told, nothing_found}
use Rattle.cairo_commands.proofs.commands.run.tables_of.Goals as goal

pub unreachable-requires : goal.unreachable-requires
unreachable-requires c =
    nothing_found (listing c.args.program.now) (statement c.args.public.now) (field_run c.args.run.now) (listed c.args.run.now.cells) (map registers c.deref.result.now)
    c.requires.program c.requires.of_program c.requires.public refl (ap (map registers) c.deref.ensures.value) c.in-Err.fault c.in_default.not-Memory c.in-Err.ensures.fault

pub returns-in-Ok-clause-tables : goal.returns-in-Ok-clause-tables
returns-in-Ok-clause-tables c =
    tables_told (listing c.args.program.now) (statement c.args.public.now) (field_run c.args.run.now) (listed c.args.run.now.cells) (map registers c.deref.result.now)
    c.requires.program c.requires.of_program c.requires.public refl (ap (map registers) c.deref.ensures.value) (contents c.in-Ok.tables) c.in-Ok.ensures.tables
