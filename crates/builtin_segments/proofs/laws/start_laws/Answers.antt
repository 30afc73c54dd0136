use Rattle.builtin_segments.proofs.StartMemory.{start-memory, start-count, start-size0, start-size1, start-empty, start-words, start-stack, first-inside}
use Rattle.builtin_segments.proofs.laws.start_laws.Goals as goal

pub returns : goal.returns
returns c = record {
  memory = start-memory;
  count = start-count;
  program_size = start-size0;
  stack_size = start-size1;
  empty = start-empty;
  words = start-words;
  stack = start-stack;
  first_pc = λ p extra is few. (first-inside p extra is few).0;
  first_ap = λ p extra is few. (first-inside p extra is few).1.0;
  first_fp = λ p extra is few. (first-inside p extra is few).1.1;
}
