use Rattle.table_file.specs.Tables.{contents}
use Rattle.table_file.specs.Parts.{counts_of}
use Rattle.table_file.proofs.Writings.{file_written}
use Rattle.table_file.proofs.writing.write.Goals as goal

pub returns-clause-bytes : goal.returns-clause-bytes
returns-clause-bytes c =
    file_written (contents c.args.tables.now) c.in_ok-out.out.items c.extend_from_slice.new.self.items c.write.new.out.items c.write_lists.new.out.items (counts_of c.of-counts.result)
    c.in_ok-out.ensures.items c.in_ok-extend_from_slice.ensures.items c.in_ok-write.ensures c.of-counts.ensures c.in_ok-write_lists.ensures.bytes

pub returns-clause-spells : goal.returns-clause-spells
returns-clause-spells c =
    record { parts = returns-clause-bytes c; valid = c.requires; sixteen = c.in_ok-write_lists.ensures.sixteen }
