use Rattle.relocation.proofs.RunLaws.{legal_in_cells, shown-count, shown_ascend, shown_held, run_in_field}
use Rattle.relocation.proofs.laws.run_laws.Goals as goal

pub returns : goal.returns
returns c = record {
  legal = legal_in_cells;
  shown_count = shown-count;
  shown_ascend = shown_ascend;
  shown_held = shown_held;
  in_field = run_in_field;
}
