-- Which bytes of a line are its tokens: the line is parts one after another, and each is right where it stands.
use Rattle.std.specs.Prelude.{◌≡◌, ◌⊎◌, ℕ, ◌+◌, Bool, false, ◌&&◌, ◌||◌, ◌==◌, nat_eq, List, [], ◌∷◌, ◌++◌, length, Some, IsTrue, codes}
use Rattle.std.specs.List.{list_all, starts_with}
use Rattle.std.specs.Char.{is_ascii_digit}
use Rattle.goldilocks.specs.Text.{IsNumberText, Writes, IsTooLarge}
use Rattle.casm_statements.specs.Label.{is_word_byte, is_word, is_label, reserved_word}
use Rattle.casm_tokens.specs.declared.fault.SyntaxKind.{SyntaxKind}
use Rattle.casm_tokens.specs.declared.fault.SyntaxKind.TheVariants as kind
use Rattle.casm_tokens.specs.declared.marks.Symbol.{Symbol}
use Rattle.casm_tokens.specs.declared.marks.Symbol.TheVariants.{Increment, AddTo, NotEqual, Open, Close, Plus, Minus, Times, Equal, Semicolon, Comma, Colon, Percent}
use Rattle.casm_tokens.specs.Marks.{Mark, Sign, Keyword, Label, Number, Placed}

-- A space, a tab or a carriage return. Own.
abbrev pub is_blank : ℕ → Bool
is_blank b = (b == 32) || (b == 9) || (b == 13)

-- A comment begins here: `//` or `#`. Own.
abbrev pub begins_comment : List ℕ → Bool
begins_comment bs = starts_with nat_eq bs (codes "//") || starts_with nat_eq bs (codes "#")

-- How a sign is written. Own.
abbrev pub sign_text : Symbol → List ℕ
sign_text Increment = codes "++"
sign_text AddTo = codes "+="
sign_text NotEqual = codes "!="
sign_text Open = codes "["
sign_text Close = codes "]"
sign_text Plus = codes "+"
sign_text Minus = codes "-"
sign_text Times = codes "*"
sign_text Equal = codes "="
sign_text Semicolon = codes ";"
sign_text Comma = codes ","
sign_text Colon = codes ":"
sign_text Percent = codes "%"

-- A digit, and then letters, digits or `_`: the shape of a number. Own.
abbrev pub is_numeral : List ℕ → Bool
is_numeral [] = false
is_numeral (b ∷ bs) = is_ascii_digit b && list_all is_word_byte bs

-- Bytes of the shape of a token: a sign, a word, or a number. Own.
abbrev pub HasShape : List ℕ → Type 0
HasShape bytes = ((s : Symbol) × (bytes ≡ sign_text s)) ⊎ (IsTrue (is_word bytes) ⊎ IsTrue (is_numeral bytes))

-- Of the beginnings of the shape of a token that the line has from here on, these bytes are the longest; after them
-- stands the rest. Own.
pub record IsLongest (bytes rest : List ℕ) : Type 0 where
  pub shape : HasShape bytes
  pub longest : (more others : List ℕ) → rest ≡ more ++ others → HasShape (bytes ++ more) → more ≡ []

-- What bytes say as a token: a sign, a reserved word, a label, or a number below p. Own.
abbrev pub Says : List ℕ → Mark → Type 0
Says bytes (Sign s) = bytes ≡ sign_text s
Says bytes (Keyword r) = IsTrue (is_word bytes) × (reserved_word bytes ≡ Some r)
Says bytes (Label text) = IsTrue (is_label bytes) × (bytes ≡ text)
Says bytes (Number v) = IsTrue (is_numeral bytes) × Writes bytes v.number

-- A part of a line. Own.
pub data Part : Type 0 where
  -- a blank, which is this byte
  Blank : ℕ → Part
  -- a token, with its bytes and what it says
  Lexed : List ℕ → Mark → Part
  -- a comment, with its bytes
  Comment : List ℕ → Part

-- The bytes of a part. Own.
abbrev pub bytes_of : Part → List ℕ
bytes_of (Blank b) = b ∷ []
bytes_of (Lexed bytes m) = bytes
bytes_of (Comment bytes) = bytes

-- The part is right before the rest of its line: a token is the longest that begins there, and a comment goes to the
-- line's end. Own.
abbrev pub IsPart : Part → List ℕ → Type 0
IsPart (Blank b) rest = IsTrue (is_blank b)
IsPart (Lexed bytes m) rest = IsLongest bytes rest × Says bytes m
IsPart (Comment bytes) rest = IsTrue (begins_comment bytes) × (rest ≡ [])

-- The line is these parts one after another, each right where it stands, and then the rest. Own.
abbrev pub Parted : List ℕ → List Part → List ℕ → Type 0
Parted line [] rest = line ≡ rest
Parted line (p ∷ ps) rest = (others : List ℕ) × (line ≡ bytes_of p ++ others) × IsPart p others × Parted others ps rest

-- The tokens among parts, with their places; the first part begins at this place. Own.
abbrev pub placed_from : ℕ → List Part → List Placed
placed_from at [] = []
placed_from at (Blank b ∷ ps) = placed_from (at + 1) ps
placed_from at (Lexed bytes m ∷ ps) = record { start = at; end = at + length bytes; mark = m } ∷ placed_from (at + length bytes) ps
placed_from at (Comment bytes ∷ ps) = placed_from (at + length bytes) ps

-- These are the tokens of the line: it is parts one after another, and they are the tokens among them. Own.
pub record CutsInto (line : List ℕ) (tokens : List Placed) : Type 0 where
  pub parts : List Part
  pub parted : Parted line parts []
  pub same : tokens ≡ placed_from 0 parts

-- With the first of these bytes no part of a line begins. Own.
pub record BeginsNothing (bytes : List ℕ) : Type 0 where
  pub first : ℕ
  pub rest : List ℕ
  pub some : bytes ≡ first ∷ rest
  pub no_blank : is_blank first ≡ false
  pub no_comment : begins_comment bytes ≡ false
  pub no_token : (front others : List ℕ) → bytes ≡ front ++ others → HasShape front → ⊥

-- The longest token that these bytes begin with has the shape of a number, and its text is as stated. Own.
pub record BeginsNumber (bytes : List ℕ) (IsStated : List ℕ → Type 0) : Type 0 where
  pub text : List ℕ
  pub rest : List ℕ
  pub parts : bytes ≡ text ++ rest
  pub longest : IsLongest text rest
  pub numeral : IsTrue (is_numeral text)
  pub stated : IsStated text

-- No token stands where these bytes begin, for this reason: the first byte begins none, a number has a bad or missing
-- digit, or a number is p or more. Own.
abbrev pub IsBad : SyntaxKind → List ℕ → Type 0
IsBad kind.Char bytes = BeginsNothing bytes
IsBad kind.Number bytes = BeginsNumber bytes (λ text. IsNumberText text → ⊥)
IsBad kind.Range bytes = BeginsNumber bytes IsTooLarge
IsBad kind.Token bytes = ⊥

-- At this place of the line no token stands, for this reason, and all before it are parts: so it is the least such
-- place. Own.
pub record StopsAt (line : List ℕ) (at : ℕ) (k : SyntaxKind) : Type 0 where
  pub parts : List Part
  pub rest : List ℕ
  pub parted : Parted line parts rest
  pub place : at + length rest ≡ length line
  pub bad : IsBad k rest
