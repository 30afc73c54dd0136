-- The words of statements, and the statement that a list of words begins with. "The whitepaper" is Cairo's, ePrint
-- 2021/1063.
use Rattle.std.specs.Prelude.{◌≡◌, List, ◌∷◌, ◌++◌, FitsSigned}
use Rattle.std.specs.Int.{w16}
use Rattle.std.specs.Option.{option_to_list}
use Rattle.goldilocks.specs.declared.Felt.{Felt}
use Rattle.goldilocks.specs.Felts.{felt}
use Rattle.casm_word.specs.Word.{word_number}
use Rattle.casm_statements.specs.declared.Stmt.{Stmt}
use Rattle.casm_statements.specs.Words.{encoding}

-- The words of a statement: the number of its instruction word, and after it the immediate, where it has one. The
-- whitepaper's instruction structure.
unfoldable pub statement_words : Stmt → List Felt
statement_words s = felt (word_number (encoding s).0) ∷ option_to_list (encoding s).1

-- The offsets of the statement's word fit into sixteen bits, as those of all values of the type `Stmt` do. The
-- whitepaper's instruction structure.
pub record HasOffsets (s : Stmt) : Type 0 where
  pub dst : FitsSigned w16 (encoding s).0.off_dst
  pub op0 : FitsSigned w16 (encoding s).0.off_op0
  pub op1 : FitsSigned w16 (encoding s).0.off_op1

-- The words begin with those of the statement, and the others come after them. Own.
pub record BeginsWith (words : List Felt) (s : Stmt) (others : List Felt) : Type 0 where
  pub offsets : HasOffsets s
  pub parts : words ≡ statement_words s ++ others

-- The words begin with those of no statement. Own.
abbrev pub BeginsWithNone : List Felt → Type 0
BeginsWithNone words = (s : Stmt) (others : List Felt) → BeginsWith words s others → ⊥
