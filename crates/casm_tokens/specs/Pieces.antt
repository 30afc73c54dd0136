-- How a line is cut into tokens from the left on. An auditor needn't read this file: it says what Tokens says as a
-- relation, which public contracts cite, and `token_laws` ties the two.
use Rattle.std.specs.Prelude.{ℕ, suc, zero, ◌+◌, ◌-◌, not, nat_lt, nat_eq, if◌then◌else◌, List, [], ◌∷◌, ◌++◌, length, take, Option, Some, None, codes}
use Rattle.std.specs.List.{prefix_len, starts_with}
use Rattle.std.specs.Char.{is_ascii_digit}
use Rattle.goldilocks.specs.Field.{prime}
use Rattle.goldilocks.specs.Text.{is_number_text, text_number}
use Rattle.goldilocks.specs.Felts.{felt}
use Rattle.casm_statements.specs.declared.name.Reserved.{Reserved}
use Rattle.casm_statements.specs.Label.{is_word_byte, reserved_word}
use Rattle.casm_tokens.specs.declared.fault.SyntaxKind.{SyntaxKind}
use Rattle.casm_tokens.specs.declared.fault.SyntaxKind.TheVariants as kind
use Rattle.casm_tokens.specs.declared.marks.Symbol.{Symbol}
use Rattle.casm_tokens.specs.declared.marks.Symbol.TheVariants.{Increment, AddTo, NotEqual, Open, Close, Plus, Minus, Times, Equal, Semicolon, Comma, Colon, Percent}
use Rattle.casm_tokens.specs.Marks.{Mark, Sign, Keyword, Label, Number, Placed}
use Rattle.casm_tokens.specs.Tokens.{is_blank, begins_comment}

-- What stands at a place of a line. Own.
pub data Piece : Type 0 where
  -- nothing more: the line ends, or a comment begins
  Over : Piece
  -- a blank
  Gap : Piece
  -- a token of so many bytes
  Cut : ℕ → Mark → Piece
  -- what is no token
  Bad : SyntaxKind → Piece

-- The sign that the bytes begin with, the longest one. Own.
unfoldable pub sign_at : List ℕ → Option Symbol
sign_at bs =
    if starts_with nat_eq bs (codes "++") then Some Increment
    else (if starts_with nat_eq bs (codes "+=") then Some AddTo
    else (if starts_with nat_eq bs (codes "!=") then Some NotEqual
    else (if starts_with nat_eq bs (codes "[") then Some Open
    else (if starts_with nat_eq bs (codes "]") then Some Close
    else (if starts_with nat_eq bs (codes "+") then Some Plus
    else (if starts_with nat_eq bs (codes "-") then Some Minus
    else (if starts_with nat_eq bs (codes "*") then Some Times
    else (if starts_with nat_eq bs (codes "=") then Some Equal
    else (if starts_with nat_eq bs (codes ";") then Some Semicolon
    else (if starts_with nat_eq bs (codes ",") then Some Comma
    else (if starts_with nat_eq bs (codes ":") then Some Colon
    else (if starts_with nat_eq bs (codes "%") then Some Percent
    else None))))))))))))

-- How many bytes a sign has. Own.
unfoldable pub sign_len : Symbol → ℕ
sign_len Increment = 2
sign_len AddTo = 2
sign_len NotEqual = 2
sign_len _ = 1

-- A word is a reserved one, or a label. Own.
unfoldable pub word_mark : Option Reserved → List ℕ → Mark
word_mark (Some r) text = Keyword r
word_mark None text = Label text

-- The token of a number: it has only digits after its mark, and is below p. Own.
unfoldable pub number_piece : List ℕ → Piece
number_piece text =
    if not (is_number_text text) then Bad kind.Number
    else (if not (nat_lt (text_number text) prime) then Bad kind.Range
    else Cut (length text) (Number (felt (text_number text))))

-- The token of a run of letters, digits and `_`: a number where it begins with a digit, else a word. Own.
unfoldable pub run_piece : List ℕ → Piece
run_piece [] = Over
run_piece (b ∷ bs) =
    if is_ascii_digit b then number_piece (b ∷ bs)
    else Cut (length (b ∷ bs)) (word_mark (reserved_word (b ∷ bs)) (b ∷ bs))

-- A sign, or a byte that begins no token. Own.
unfoldable pub sign_piece : Option Symbol → Piece
sign_piece (Some s) = Cut (sign_len s) (Sign s)
sign_piece None = Bad kind.Char

-- What the bytes begin with. Own.
unfoldable pub piece_at : List ℕ → Piece
piece_at [] = Over
piece_at (b ∷ bs) =
    if is_blank b then Gap
    else (if begins_comment (b ∷ bs) then Over
    else (if is_word_byte b then run_piece (take (prefix_len is_word_byte (b ∷ bs)) (b ∷ bs))
    else sign_piece (sign_at (b ∷ bs))))

-- The tokens of a line up to the first place where none stands, and that place with what is wrong there. Own.
pub record Scanned : Type 0 where
  pub placed : List Placed
  pub stop : Option (ℕ × SyntaxKind)

-- Tokens with others after them. Own.
abbrev pub after : List Placed → Scanned → Scanned
after front s = record { placed = front ++ s.placed; stop = s.stop }

-- What follows from what stands at a place. Own.
abbrev pub scan_on : ℕ → Piece → (ℕ → Scanned) → Scanned
scan_on at Over rest = record { placed = []; stop = None }
scan_on at Gap rest = rest 0
scan_on at (Cut n m) rest = after (record { start = at; end = at + n; mark = m } ∷ []) (rest (n - 1))
scan_on at (Bad k) rest = record { placed = []; stop = Some (at, k) }

-- The tokens of the bytes from a place of a line on, of which the first so many belong to the token before. Own.
unfoldable pub scan_from : ℕ → ℕ → List ℕ → Scanned
scan_from inside at [] = record { placed = []; stop = None }
scan_from (suc inside) at (b ∷ bs) = scan_from inside (at + 1) bs
scan_from zero at (b ∷ bs) = scan_on at (piece_at (b ∷ bs)) (λ inside. scan_from inside (at + 1) bs)

-- The tokens of a line. Own.
abbrev pub scan : List ℕ → Scanned
scan line = scan_from 0 0 line
