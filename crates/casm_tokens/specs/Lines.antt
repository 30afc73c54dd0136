-- The lines of a text, its tokens with their spans, and the first place where no token stands.
use Rattle.std.specs.Prelude.{◌≡◌, ◌<◌, ◌≤◌, ◌⊎◌, ℕ, ◌+◌, Bool, not, ◌==◌, List, [], ◌∷◌, ◌++◌, length, map, take, count_by, IsTrue}
use Rattle.std.specs.List.{list_all, slice_range}
use Rattle.goldilocks.specs.Text.{Writes}
use Rattle.casm_statements.specs.Label.{is_word}
use Rattle.casm_tokens.specs.declared.fault.SyntaxKind.{SyntaxKind}
use Rattle.casm_tokens.specs.declared.fault.ParseFault.{ParseFault}
use Rattle.casm_tokens.specs.declared.fault.ParseFault.TheVariants.{Syntax, Memory}
use Rattle.casm_tokens.specs.declared.marks.Symbol.{Symbol}
use Rattle.casm_tokens.specs.declared.spans.Token.{Token}
use Rattle.casm_tokens.specs.declared.spans.TokenKind.{TokenKind}
use Rattle.casm_tokens.specs.declared.spans.TokenKind.TheVariants as token
use Rattle.casm_tokens.specs.Marks.{Mark, Sign, Keyword, Label, Number, Placed}
use Rattle.casm_tokens.specs.Tokens.{sign_text, CutsInto, StopsAt}

-- A byte that is no line feed. Own.
abbrev pub is_in_line : ℕ → Bool
is_in_line b = not (b == 10)

-- The bytes have no line feed. Own.
abbrev pub IsLine : List ℕ → Type 0
IsLine bytes = IsTrue (list_all is_in_line bytes)

-- The text is these lines, at least one, with a line feed between each two. Own.
abbrev pub AreLines : List ℕ → List (List ℕ) → Type 0
AreLines text [] = ⊥
AreLines text (line ∷ []) = (text ≡ line) × IsLine line
AreLines text (line ∷ next ∷ others) = (rest : List ℕ) × (text ≡ line ++ 10 ∷ rest) × IsLine line × AreLines rest (next ∷ others)

-- A place of a text, and what is wrong there. Own.
pub record Fault : Type 0 where
  pub line : ℕ
  pub column : ℕ
  pub kind : SyntaxKind

-- The kind of a token. Own.
unfoldable pub kind_of : Mark → TokenKind
kind_of (Sign s) = token.Symbol
kind_of (Keyword r) = token.Word
kind_of (Label text) = token.Word
kind_of (Number v) = token.Number v

-- A token of the line with this number that begins at this place of the text. Own.
unfoldable pub token_at : ℕ → ℕ → Placed → Token
token_at line start t = record { line = line; start = start + t.start; end = start + t.end; kind = kind_of t.mark }

-- These are the tokens of the lines, of which the first has this number and begins at this place of the text. Own.
abbrev pub AreTokens : ℕ → ℕ → List (List ℕ) → List Token → Type 0
AreTokens n start [] found = found ≡ []
AreTokens n start (bytes ∷ others) found =
    (tokens : List Placed) × (more : List Token) × (found ≡ map (token_at n start) tokens ++ more) × CutsInto bytes tokens × AreTokens (n + 1) (start + length bytes + 1) others more

-- These are the tokens of the text. Own.
pub record HasTokens (text : List ℕ) (found : List Token) : Type 0 where
  pub lines : List (List ℕ)
  pub are_lines : AreLines text lines
  pub are_tokens : AreTokens 1 0 lines found

-- This is the first place of the lines where no token stands; the first line has this number. Own.
abbrev pub IsFirstStop : ℕ → List (List ℕ) → Fault → Type 0
IsFirstStop n [] f = ⊥
IsFirstStop n (bytes ∷ others) f =
    ((at : ℕ) × StopsAt bytes at f.kind × (f.line ≡ n) × (f.column ≡ at + 1))
    ⊎ ((tokens : List Placed) × CutsInto bytes tokens × IsFirstStop (n + 1) others f)

-- This is the least place of the text, outside comments, where no token stands, and what is wrong there. Own.
pub record HasStop (text : List ℕ) (f : Fault) : Type 0 where
  pub lines : List (List ℕ)
  pub are_lines : AreLines text lines
  pub first : IsFirstStop 1 lines f

-- A refusal is of the least such place, unless there was no memory. Own.
abbrev pub TellsStop : ParseFault → List ℕ → Type 0
TellsStop Memory text = Unit {0}
TellsStop (Syntax line column kind) text = HasStop text (record { line = line; column = column; kind = kind })

-- The tokens stand one after another, and each has at least one byte. The first begins at the first number or after
-- it. Each next one begins where the one before ends, or after that. The last ends at the second number at most. Own.
abbrev pub AreInOrder : ℕ → ℕ → List Token → Type 0
AreInOrder from most [] = from ≤ most
AreInOrder from most (t ∷ ts) = (from ≤ t.start) × (t.start < t.end) × AreInOrder t.end most ts

-- Bytes of a token of this kind. Own.
abbrev pub IsOfKind : List ℕ → TokenKind → Type 0
IsOfKind bytes token.Symbol = (s : Symbol) × (bytes ≡ sign_text s)
IsOfKind bytes token.Word = IsTrue (is_word bytes)
IsOfKind bytes (token.Number v) = Writes bytes v.number

-- The token's slice of the text is of its kind, and its line is one more than the line feeds before it. Own.
pub record IsSliceOf (text : List ℕ) (t : Token) : Type 0 where
  pub slice : IsOfKind (slice_range text t.start t.end) t.kind
  pub line : t.line ≡ 1 + count_by (λ b. b == 10) (take t.start text)
