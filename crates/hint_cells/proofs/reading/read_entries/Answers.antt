use Rattle.std.proofs.Common.{◌≡◌, ◌+◌, ◌∙◌, [], ◌∷◌, ◌++◌, length, map, drop, sym, ap, arith, rules, length-append}
use Rattle.serde_json.specs.View.{view}
use Rattle.json_fields.specs.Faults.{in_turn}
use Rattle.hint_cells.specs.Reading.{next_cell}
use Rattle.hint_cells.proofs.Entries.{one_more, refused, all_read}
use Rattle.hint_cells.proofs.reading.read_entries.Goals as goal

pub returns-in_default-clause-fault : goal.returns-in_default-clause-fault
returns-in_default-clause-fault c = λ _.
    sym c.loop-index.invariant.rest
    ∙ refused c.args.entries.now c.loop-index.found.items c.loop-index.index c.index-entries-index.result (omega arith) (sym c.index-entries-index.is) c.loop-index.invariant.count c.in_default.ensures

pub loop-index-preserved : goal.loop-index-preserved
loop-index-preserved c =
    let items : c.push.new.self.items ≡ c.loop-index.found.items ++ c.in-Some.cell ∷ [] = search rules in
    record {
      rest =
          ap (λ cs. in_turn next_cell cs (map view (drop (c.loop-index.index + 1) c.args.entries.now))) items
          ∙ sym (one_more c.args.entries.now c.loop-index.found.items c.loop-index.index c.index-entries-index.result (omega arith) (sym c.index-entries-index.is) c.in-Some.cell c.in-Some.ensures)
          ∙ c.loop-index.invariant.rest;
      count = ap length items ∙ omega (arith, c.loop-index.invariant.count, length-append c.loop-index.found.items (c.in-Some.cell ∷ []));
    }

pub returns-clause-cells : goal.returns-clause-cells
returns-clause-cells c = sym c.loop-index.invariant.rest ∙ all_read c.args.entries.now c.loop-index.found.items c.loop-index.index (omega arith)
