use Rattle.std.proofs.Common.{refl}
use Rattle.casm_statements.specs.Label.{is_label}
use Rattle.casm_tokens.proofs.pieces.word_piece.Goals as goal

-- a word that isn't reserved is a label
pub invariant_of-result : goal.invariant_of-result
unfolding is_label
invariant_of-result c = record { is_label = rw (c.requires, ← c.reserved_word.ensures, c.in-None.is) refl }
