use Rattle.std.proofs.Common.{Ok, arith}
use Rattle.table_file.specs.Tables.{contents}
use Rattle.cairo_commands.proofs.TableReadings.{test_of_bytes, tables_read-bytes, tables_refused}
use Rattle.cairo_commands.proofs.table_inputs.TablesFileFileFormat.read.Goals as goal

pub returns-in-Ok-clause-reads : goal.returns-in-Ok-clause-reads
returns-in-Ok-clause-reads c =
    tables_read-bytes c.args.bytes.now (Ok (contents c.in-Ok.tables)) (test_of_bytes c.args.bytes.now (λ i. omega (arith, c.type_inv.bytes i))) c.in-Ok.ensures.reading

pub returns-in-Err-clause-reads : goal.returns-in-Err-clause-reads
returns-in-Err-clause-reads c =
    tables_refused contents c.args.bytes.now c.in-Err.fault c.unread_tables.result (test_of_bytes c.args.bytes.now (λ i. omega (arith, c.type_inv.bytes i))) c.in-Err.ensures.reading c.unread_tables.ensures.says c.unread_tables.ensures.memory
