use Rattle.table_file.specs.Tables.{contents}
use Rattle.table_file.proofs.Writings.{lists_written}
use Rattle.table_file.proofs.writing.write_lists.Goals as goal

pub returns-clause-bytes : goal.returns-clause-bytes
returns-clause-bytes c =
    lists_written (contents c.args.tables.now) c.args.out.now.items
    c.write_records.new.out.items c.write.new.out.items c.write_records-2.new.out.items c.write_records-3.new.out.items
    c.write_records-4.new.out.items c.write_records-5.new.out.items c.write_records-6.new.out.items
    c.deref.result.now c.deref-2.result.now c.deref-3.result.now c.deref-4.result.now c.deref-5.result.now c.deref-6.result.now
    c.in_ok-write_records.ensures.bytes c.deref.ensures.value
    c.in_ok-write.ensures.bytes
    c.in_ok-write_records-2.ensures.bytes c.deref-2.ensures.value
    c.in_ok-write_records-3.ensures.bytes c.deref-3.ensures.value
    c.in_ok-write_records-4.ensures.bytes c.deref-4.ensures.value
    c.in_ok-write_records-5.ensures.bytes c.deref-5.ensures.value
    c.in_ok-write_records-6.ensures.bytes c.deref-6.ensures.value
