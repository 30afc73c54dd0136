use Rattle.std.proofs.Common.{◌≡◌, ◌+◌, ◌∙◌, [], ◌∷◌, ◌++◌, length, map, drop, sym, ap, arith, rules, length-append}
use Rattle.serde_json.specs.View.{view}
use Rattle.json_fields.specs.Faults.{in_turn}
use Rattle.program_file.specs.Reading.{word_in}
use Rattle.program_file.proofs.Entries.{one_more, refused, all_read}
use Rattle.program_file.proofs.reading.read_entries.Goals as goal

pub returns-in_default-clause-fault : goal.returns-in_default-clause-fault
returns-in_default-clause-fault c = λ _.
    sym c.loop-index.invariant.rest
    ∙ refused c.args.texts.now c.loop-index.words.items c.loop-index.index c.index-texts-index.result (omega arith) (sym c.index-texts-index.is) c.loop-index.invariant.count c.in_default.ensures

pub loop-index-preserved : goal.loop-index-preserved
loop-index-preserved c =
    let items : c.push.new.self.items ≡ c.loop-index.words.items ++ c.in-Some.word ∷ [] = search rules in
    record {
      rest =
          ap (λ ws. in_turn word_in ws (map view (drop (c.loop-index.index + 1) c.args.texts.now))) items
          ∙ sym (one_more c.args.texts.now c.loop-index.words.items c.loop-index.index c.index-texts-index.result (omega arith) (sym c.index-texts-index.is) c.in-Some.word c.in-Some.ensures)
          ∙ c.loop-index.invariant.rest;
      count = ap length items ∙ omega (arith, c.loop-index.invariant.count, length-append c.loop-index.words.items (c.in-Some.word ∷ []));
    }

pub returns-clause-words : goal.returns-clause-words
returns-clause-words c = sym c.loop-index.invariant.rest ∙ all_read c.args.texts.now c.loop-index.words.items c.loop-index.index (omega arith)
