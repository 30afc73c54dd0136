use Rattle.casm_text.proofs.TextReading.{text_reading-meant, Reads-from_text_reading, text_reading-faulty, IsTextFault-from_text_reading}
use Rattle.casm_text.proofs.reading.reading_laws.Goals as goal

pub returns : goal.returns
returns c = record {
  items = λ text items. (text_reading-meant text items, Reads-from_text_reading text items);
  fault = λ text f. (text_reading-faulty text f, IsTextFault-from_text_reading text f);
}
