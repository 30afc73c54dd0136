-- The canonical text of items. Those of their parts stand in casm_statements.
use Rattle.std.specs.Prelude.{ℕ, List, [], ◌∷◌, ◌++◌}
use Rattle.casm_statements.specs.declared.Item.{Item}
pub use Rattle.casm_statements.specs.Canonical.{reg_text, offset_text, cell_text, half, number_text, term_text, operand_text, inc_text, way_text, stmt_text, target_text, word_text, body_text}

-- Each item on a line of its own. Own.
unfoldable pub printed : List Item → List ℕ
printed [] = []
printed (i ∷ is) = body_text i.body ++ (10 ∷ printed is)
