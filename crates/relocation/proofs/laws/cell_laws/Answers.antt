use Rattle.relocation.proofs.CellMemory.{holds_relocated, ascending, can_be_listed, in_bounds, has_words, address_of_word}
use Rattle.relocation.proofs.RunLaws.{held_cells, low_cells}
use Rattle.relocation.proofs.laws.cell_laws.Goals as goal

pub returns : goal.returns
returns c = record {
  holds = holds_relocated;
  held = held_cells;
  ascending = ascending;
  listed = can_be_listed;
  bounds = in_bounds;
  low = low_cells;
  words = has_words;
  word_address = address_of_word;
}
