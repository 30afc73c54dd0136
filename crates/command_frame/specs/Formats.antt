-- Formats of files, and how a file of a format is read as an input: what an answer says of it where it is missing, too
-- long or spells nothing. Own.
use Rattle.std.specs.Prelude.{◌≡◌, ◌≤◌, ℕ, Bool, nat_lt, List, length, Option, Some, None, Result, Ok, Err, if◌then◌else◌}
use Rattle.file_port.specs.Files.{Name, Files, file_at}
use Rattle.command_frame.specs.Answer.{Answer, Input, missing, over_limit, unspelled}

-- Why bytes are read as no value: they spell too much, or have a fault, which is reported by its text. Own.
pub data Unread : Type 0 where
  TooMuch : Unread
  Faulty : (text : List ℕ) → Unread

-- A format of files: the most bytes that a file of it may have, whether it may have too many entries within that
-- limit, and what bytes are read as. Own.
pub record Format (V : Type 0) : Type 0 where
  pub limit : ℕ
  pub may_have_too_many : Bool
  pub reading : List ℕ → Result V Unread

-- The files have a file of this name, within the limit of its format, and its bytes spell a value. Own.
pub record Holds {V : Type 0} (format : Format V) (Spells : List ℕ → V → Type 0) (name : Name) (files : Files) : Type 0 where
  pub bytes : List ℕ
  pub held : file_at files name ≡ Some bytes
  pub short : length bytes ≤ format.limit
  pub value : V
  pub spelled : Spells bytes value

-- ---- a file of a format as an input

-- The file of this format that is named at this position among the words. Own.
abbrev pub input_at : {V : Type 0} → Format V → ℕ → Name → Input
input_at format position name = record {
  position = position;
  name = name;
  limit = format.limit;
  may_have_too_many = format.may_have_too_many;
}

-- A step of a command gives a value, or the answer that ends the command there; `do` goes on with the value. So does a
-- step of reading, with the reason in place of the answer. Own.
infixl 10 ◌>>=◌
abbrev pub ◌>>=◌ : {A B E : Type 0} → Result A E → (A → Result B E) → Result B E
(Ok x) >>= f = f x
(Err why) >>= f = Err why

-- The answer that a command ended with, there or at its end. Own.
abbrev pub answered : Result Answer Answer → Answer
answered (Ok answer) = answer
answered (Err answer) = answer

-- The bytes of an input, which has to be there and to keep within its limit. Own.
abbrev pub within : Input → Option (List ℕ) → Result (List ℕ) Answer
within input None = Err (missing input.position)
within input (Some bytes) = if nat_lt input.limit (length bytes) then Err (over_limit input.position) else Ok bytes

-- What is answered of an input that is read as no value. Own.
abbrev pub unread : Input → Unread → Answer
unread input TooMuch = over_limit input.position
unread input (Faulty text) = unspelled input.position text

-- What a format reads, with its fault as it is answered. Own.
abbrev pub told : {A F : Type 0} → (F → Unread) → Result A F → Result A Unread
told why (Ok value) = Ok value
told why (Err fault) = Err (why fault)

-- The value that the bytes of an input are read as. Own.
abbrev pub spelled : {A : Type 0} → Input → Result A Unread → Result A Answer
spelled input (Err why) = Err (unread input why)
spelled input (Ok value) = Ok value

-- The value that the file of this format is read as which is named at this position. Own.
abbrev pub read_as : {V : Type 0} → Format V → ℕ → Name → Files → Result V Answer
read_as format position name files = within (input_at format position name) (file_at files name)
    >>= λ bytes. spelled (input_at format position name) (format.reading bytes)
