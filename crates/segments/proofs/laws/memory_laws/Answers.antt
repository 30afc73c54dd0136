use Rattle.segments.proofs.Places.{cell-written, cell-other, same_memory}
use Rattle.segments.proofs.Columns.{cell-with_segment}
use Rattle.segments.proofs.Memories.{program_word, program_only, Grows-trans}
use Rattle.segments.proofs.laws.memory_laws.Goals as goal

pub returns : goal.returns
returns c = record {
  written = cell-written;
  others = cell-other;
  added = cell-with_segment;
  words = program_word;
  only_words = program_only;
  whole = same_memory;
  grows = Grows-trans;
}
