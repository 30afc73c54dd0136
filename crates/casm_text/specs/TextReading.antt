-- What is read of a text, as a function: its items, or its fault. That it says the same as `Reads` and `IsTextFault` is a
-- law (`reading_laws`), so these two are what need be believed.
use Rattle.std.specs.Prelude.{ℕ, ◌+◌, ◌-◌, ◌==◌, if◌then◌else◌, List, [], ◌∷◌, ◌++◌, length, map, Option, Some, None, Result, Ok, Err}
use Rattle.casm_statements.specs.declared.Body.{Body}
use Rattle.casm_statements.specs.declared.Item.{Item}
use Rattle.casm_tokens.specs.declared.fault.SyntaxKind.{SyntaxKind}
use Rattle.casm_tokens.specs.Marks.{Placed, marks}
use Rattle.casm_tokens.specs.Lines.{Fault}
use Rattle.casm_tokens.specs.Pieces.{scan}
use Rattle.casm_grammar.specs.Readers.{Refusal, line_in}
use Rattle.casm_text.specs.Meaning.{item_on, column_at}

-- A byte before the first of lines. Own.
abbrev pub with_byte : ℕ → List (List ℕ) → List (List ℕ)
with_byte b [] = (b ∷ []) ∷ []
with_byte b (line ∷ others) = (b ∷ line) ∷ others

-- The lines of a text: what stands between its line feeds. Own.
unfoldable pub lines_of : List ℕ → List (List ℕ)
lines_of [] = [] ∷ []
lines_of (b ∷ bs) = if b == 10 then [] ∷ lines_of bs else with_byte b (lines_of bs)

-- A line's first place where no token stands, as a fault; where it has none, what another gives. Own.
abbrev pub stop_or : ℕ → Option (ℕ × SyntaxKind) → Option Fault → Option Fault
stop_or n None others = others
stop_or n (Some stop) others = Some (record { line = n; column = stop.0 + 1; kind = stop.1 })

-- The first place of lines where no token stands; the first line has this number. Own.
unfoldable pub first_stop : ℕ → List (List ℕ) → Option Fault
first_stop n [] = None
first_stop n (bytes ∷ others) = stop_or n (scan bytes).stop (first_stop (n + 1) others)

-- A reading of the line with this number and these tokens, as items on it. Where it is refused, the fault stands at the
-- first of the tokens that are left, or after the last token where none is left. Own.
abbrev pub on_line : ℕ → List Placed → Result (List Body) Refusal → Result (List Item) Fault
on_line n tokens (Ok v) = Ok (map (item_on n) v)
on_line n tokens (Err stop) = Err (record { line = n; column = column_at 0 tokens (length tokens - stop.0); kind = stop.1 })

-- What is read first, and then what is read of the others; the first fault, if there is one. Own.
abbrev pub then_read : Result (List Item) Fault → Result (List Item) Fault → Result (List Item) Fault
then_read (Err f) others = Err f
then_read (Ok items) (Ok more) = Ok (items ++ more)
then_read (Ok items) (Err f) = Err f

-- What is read of lines, of which the first has this number. Own.
unfoldable pub lines_reading : ℕ → List (List ℕ) → Result (List Item) Fault
lines_reading n [] = Ok []
lines_reading n (bytes ∷ others) =
    then_read (on_line n (scan bytes).placed (line_in (marks (scan bytes).placed))) (lines_reading (n + 1) others)

-- The fault, if there is one, or else what is read. Own.
abbrev pub unless_fault : Option Fault → Result (List Item) Fault → Result (List Item) Fault
unless_fault None reading = reading
unless_fault (Some f) reading = Err f

-- What is read of a text: its items, or its fault. Own.
unfoldable pub text_reading : List ℕ → Result (List Item) Fault
text_reading text = unless_fault (first_stop 1 (lines_of text)) (lines_reading 1 (lines_of text))
