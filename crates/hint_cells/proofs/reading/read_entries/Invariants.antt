use Rattle.std.proofs.Common.{◌≡◌, [], length, drop, map}
use Rattle.serde_json.specs.View.{view}
use Rattle.json_fields.specs.Faults.{in_turn}
use Rattle.hint_cells.specs.Reading.{next_cell}
use Rattle.hint_cells.proofs.reading.read_entries.Given as goal

abbrev pub invariant-loop-index : goal.invariant-loop-index
invariant-loop-index l = record {
  rest : in_turn next_cell l.found.items (map view (drop l.index l.entries)) ≡ in_turn next_cell [] (map view l.entries);
  count : length l.found.items ≡ l.index;
}
