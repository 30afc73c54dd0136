use Rattle.std.proofs.Common.{◌≡◌, [], length, drop, map}
use Rattle.serde_json.specs.View.{view}
use Rattle.json_fields.specs.Faults.{in_turn}
use Rattle.program_file.specs.Reading.{word_in}
use Rattle.program_file.proofs.reading.read_entries.Given as goal

abbrev pub invariant-loop-index : goal.invariant-loop-index
invariant-loop-index l = record {
  rest : in_turn word_in l.words.items (map view (drop l.index l.texts)) ≡ in_turn word_in [] (map view l.texts);
  count : length l.words.items ≡ l.index;
}
