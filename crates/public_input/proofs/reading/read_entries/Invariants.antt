use Rattle.std.proofs.Common.{◌≡◌, [], length, drop, map}
use Rattle.serde_json.specs.View.{view}
use Rattle.json_fields.specs.Faults.{in_turn}
use Rattle.public_input.specs.Reading.{next_cell}
use Rattle.public_input.proofs.reading.read_entries.Given as goal

-- the steps on what is left, after what was read, give the steps on all
abbrev pub invariant-loop-entry : goal.invariant-loop-entry
invariant-loop-entry l = record {
  count : length l.cells.items ≡ l.entry-index;
  rest : in_turn next_cell l.cells.items (map view (drop l.entry-index l.entries)) ≡ in_turn next_cell [] (map view l.entries);
}
