use Rattle.casm_statements.specs.Label.{is_word_byte}
use Rattle.casm_tokens.proofs.LineLemmas.{list_all-run}
use Rattle.casm_tokens.proofs.pieces.piece_at.Goals as goal

-- the bytes of the run are those of a word
pub run_piece-requires : goal.run_piece-requires
run_piece-requires c = rw c.run_len.ensures.value (list_all-run is_word_byte c.args.bytes.now)
