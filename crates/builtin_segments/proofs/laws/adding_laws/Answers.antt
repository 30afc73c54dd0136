use Rattle.builtin_segments.proofs.Adding.{adding-memory, adding-grows, adding-holds, adding-others, adding-size0}
use Rattle.builtin_segments.proofs.laws.adding_laws.Goals as goal

pub returns : goal.returns
returns c = record {
  memory = adding-memory;
  grows = adding-grows;
  holds = adding-holds;
  others = adding-others;
  program_size = adding-size0;
}
