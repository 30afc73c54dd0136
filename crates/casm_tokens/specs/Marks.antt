-- Tokens as the grammar sees them: what each says, and where it stands in its line.
use Rattle.std.specs.Prelude.{ℕ, List, map}
use Rattle.goldilocks.specs.declared.Felt.{Felt}
use Rattle.casm_statements.specs.declared.name.Reserved.{Reserved}
use Rattle.casm_tokens.specs.declared.marks.Symbol.{Symbol}
use Rattle.casm_tokens.specs.declared.marks.Mark as rust
use Rattle.casm_tokens.specs.declared.marks.Mark.TheVariants as variant
use Rattle.casm_tokens.specs.declared.marks.Lexeme.{Lexeme}

-- What a token says: a sign, a reserved word, another word with its bytes, or a number. Own.
pub data Mark : Type 0 where
  Sign : Symbol → Mark
  Keyword : Reserved → Mark
  Label : List ℕ → Mark
  Number : Felt → Mark

-- A token of a line, with the places in the line that it begins and ends at. Own.
pub record Placed : Type 0 where
  pub start : ℕ
  pub end : ℕ
  pub mark : Mark

-- What a borrowed token says. Own.
unfoldable pub mark_of : rust.Mark → Mark
mark_of (variant.Sign s) = Sign s
mark_of (variant.Keyword r) = Keyword r
mark_of (variant.Label l) = Label l.text.now
mark_of (variant.Number v) = Number v

-- A borrowed token as it is seen. Own.
unfoldable pub placed_of : Lexeme → Placed
placed_of l = record { start = l.start; end = l.end; mark = mark_of l.mark }

-- What the tokens of a line say. Own.
abbrev pub marks : List Placed → List Mark
marks = map (λ t. t.mark)
