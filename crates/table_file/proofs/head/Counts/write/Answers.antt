use Rattle.std.proofs.Common.{refl, arith, rules, ◌∙◌}
use Rattle.file_records.specs.Numbers.{number_bytes}
use Rattle.table_file.specs.Parts.{counts_of}
use Rattle.file_records.proofs.RecordLists.{numbers_more}
use Rattle.table_file.proofs.head.Counts.write.Goals as goal

pub loop-count-preserved : goal.loop-count-preserved
loop-count-preserved c =
    record {
      counts = refl;
      bytes =
          c.in_ok-write_number.ensures
          ∙ numbers_more number_bytes c.args.out.now.items c.loop-count.out.items (counts_of c.args.self.now) c.loop-count.count-index _ (omega arith) (search rules) c.loop-count.invariant.bytes;
    }
