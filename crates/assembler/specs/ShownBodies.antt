-- What words are shown as, as a function: from left to right, an immediate taken where a statement needs one and it is
-- there. That it says the same as `Shown` is a law (`shown_laws`), so that relation is what need be believed.
use Rattle.std.specs.Prelude.{Bool, true, false, ◌==◌, List, [], ◌∷◌, Option, Some, None, is_some}
use Rattle.std.specs.Bool.{then_some}
use Rattle.std.specs.List.{starts_with}
use Rattle.goldilocks.specs.declared.Felt.{Felt}
use Rattle.casm_word.specs.declared.Word.{Word}
use Rattle.casm_word.specs.Word.{word_of}
use Rattle.casm_statements.specs.declared.Stmt.{Stmt}
use Rattle.casm_statements.specs.declared.Body.{Body}
use Rattle.casm_statements.specs.declared.Body.TheVariants as body
use Rattle.casm_statements.specs.Words.{encoding}
use Rattle.casm_statements.specs.Guesses.{stmt_in}
use Rattle.assembler.specs.StatementWords.{statement_words}

-- The numbers are the same. Own.
abbrev pub same_number : Felt → Felt → Bool
same_number a b = a.number == b.number

-- The immediate of a word, where its flag asks for one and a number stands after it. Own.
abbrev pub immediate_in : Word → List Felt → Option Felt
immediate_in w [] = None
immediate_in w (v ∷ vs) = then_some w.flags.op1_imm v

-- The only statement that a number and those after it may begin with. Own.
abbrev pub guessed : Felt → List Felt → Stmt
guessed v vs = stmt_in (word_of v.number) (immediate_in (word_of v.number) vs)

-- The statement that words begin with, if they begin with the words of one. Own.
unfoldable pub first_statement : List Felt → Option Stmt
first_statement [] = None
first_statement (v ∷ vs) = then_some (starts_with same_number (v ∷ vs) (statement_words (guessed v vs))) (guessed v vs)

-- The statement that words begin with, or else their first word as a number. Own.
abbrev pub first_body : Felt → Option Stmt → Body
first_body v None = body.Dw v
first_body v (Some s) = body.Stmt s

-- The statement has an immediate. Own.
abbrev pub takes_immediate : Option Stmt → Bool
takes_immediate None = false
takes_immediate (Some s) = is_some (encoding s).1

-- What words are shown as, where the first of them may be the immediate of a statement before it. Own.
unfoldable pub shown_from : Bool → List Felt → List Body
shown_from taken [] = []
shown_from true (v ∷ vs) = shown_from false vs
shown_from false (v ∷ vs) =
    first_body v (first_statement (v ∷ vs)) ∷ shown_from (takes_immediate (first_statement (v ∷ vs))) vs

-- What words are shown as. Own.
abbrev pub shown_bodies : List Felt → List Body
shown_bodies words = shown_from false words
