-- What a text means, and the first fault of one that means nothing.
use Rattle.std.specs.Prelude.{◌≡◌, ◌⊎◌, ℕ, zero, suc, ◌+◌, List, [], ◌∷◌, ◌++◌, map}
use Rattle.casm_statements.specs.declared.Body.{Body}
use Rattle.casm_statements.specs.declared.Item.{Item}
use Rattle.casm_tokens.specs.declared.spans.Token.{Token}
use Rattle.casm_tokens.specs.declared.fault.ParseFault.{ParseFault}
use Rattle.casm_tokens.specs.declared.fault.ParseFault.TheVariants.{Syntax, Memory}
use Rattle.casm_tokens.specs.Marks.{Placed, marks}
use Rattle.casm_tokens.specs.Tokens.{CutsInto}
use Rattle.casm_tokens.specs.Lines.{AreLines, Fault, HasTokens, HasStop}
use Rattle.casm_grammar.specs.Language.{Derives, Kept, HasFault}
use Rattle.casm_grammar.specs.Grammar.{whole_line}

-- A meaning on a line. Own.
abbrev pub item_on : ℕ → Body → Item
item_on line body = record { line = line; body = body }

-- The items are those that the lines mean, of which the first has this number: each line's tokens are a line of the
-- grammar, and give its items. Own.
abbrev pub AreItems : ℕ → List (List ℕ) → List Item → Type 0
AreItems n [] items = items ≡ []
AreItems n (bytes ∷ others) items =
    (tokens : List Placed) × (v : List Body) × (rest : List Item) × (items ≡ map (item_on n) v ++ rest) × CutsInto bytes tokens × Derives Kept whole_line v (marks tokens) × AreItems (n + 1) others rest

-- The text means these items: they are those of its lines. Own.
pub record Reads (text : List ℕ) (items : List Item) : Type 0 where
  pub lines : List (List ℕ)
  pub are_lines : AreLines text lines
  pub mean : AreItems 1 lines items

-- The meanings of items, without their lines. Own.
abbrev pub bodies : List Item → List Body
bodies = map (λ i. i.body)

-- The text means these bodies: they are those of the items that it reads as. Own.
pub record MeansBodies (text : List ℕ) (meant : List Body) : Type 0 where
  pub items : List Item
  pub reads : Reads text items
  pub same : bodies items ≡ meant

-- The column of a token of a line, by how many stand before it, or the one after the last token. The first number is
-- where the token before these ends. Own.
abbrev pub column_at : ℕ → List Placed → ℕ → ℕ
column_at end [] n = end + 1
column_at end (t ∷ ts) zero = t.start + 1
column_at end (t ∷ ts) (suc n) = column_at t.end ts n

-- The line with this number is none of the grammar, and this is its first fault. Own.
pub record IsWrong (n : ℕ) (bytes : List ℕ) (f : Fault) : Type 0 where
  pub tokens : List Placed
  pub cut : CutsInto bytes tokens
  pub at : ℕ
  pub fault : HasFault whole_line (marks tokens) at f.kind
  pub line : f.line ≡ n
  pub column : f.column ≡ column_at 0 tokens at

-- The line is one of the grammar. Own.
pub record IsRight (bytes : List ℕ) : Type 0 where
  pub tokens : List Placed
  pub cut : CutsInto bytes tokens
  pub meant : List Body
  pub derives : Derives Kept whole_line meant (marks tokens)

-- The first line that is none of the grammar has this fault; the first line has this number. Own.
abbrev pub IsFirstWrong : ℕ → List (List ℕ) → Fault → Type 0
IsFirstWrong n [] f = ⊥
IsFirstWrong n (bytes ∷ others) f = IsWrong n bytes f ⊎ (IsRight bytes × IsFirstWrong (n + 1) others f)

-- The text has tokens, and this is the first fault of its first line that is none of the grammar. Own.
pub record HasWrongLine (text : List ℕ) (f : Fault) : Type 0 where
  pub tokens : List Token
  pub cut : HasTokens text tokens
  pub lines : List (List ℕ)
  pub are_lines : AreLines text lines
  pub first : IsFirstWrong 1 lines f

-- The fault of a text: the least place where no token stands, or, where there is none, the first fault of the first
-- line that is none of the grammar. Own.
abbrev pub IsTextFault : List ℕ → Fault → Type 0
IsTextFault text f = HasStop text f ⊎ HasWrongLine text f

-- A refusal is the text's fault, unless there was no memory. Own.
abbrev pub TellsText : ParseFault → List ℕ → Type 0
TellsText Memory text = Unit {0}
TellsText (Syntax line column kind) text = IsTextFault text (record { line = line; column = column; kind = kind })

-- A refusal that is not for want of memory is of a text that means nothing. Own.
abbrev pub Excludes : ParseFault → List ℕ → Type 0
Excludes Memory text = Unit {0}
Excludes (Syntax line column kind) text = (meant : List Body) → MeansBodies text meant → ⊥
