-- What private functions of the parser answer. An auditor needn't read this file: no public contract rests on it.
use Rattle.std.specs.Prelude.{◌≡◌, ℕ, List, ◌++◌, map, Option, Some, None}
use Rattle.casm_statements.specs.declared.Body.{Body}
use Rattle.casm_statements.specs.declared.Item.{Item}
use Rattle.casm_tokens.specs.Marks.{Placed, marks}
use Rattle.casm_grammar.specs.Language.{Derives, Kept, HasFault}
use Rattle.casm_grammar.specs.Grammar.{whole_line}
use Rattle.casm_text.specs.declared.parser.Wrong.{Wrong}
use Rattle.casm_text.specs.Meaning.{item_on, column_at}

-- The items after a line's tokens, where they are a line; or where they are none. Own.
abbrev pub AddsLine : ℕ → List Placed → List Item → List Item → Option Wrong → Type 0
AddsLine n tokens old new None = (v : List Body) × (new ≡ old ++ map (item_on n) v) × Derives Kept whole_line v (marks tokens)
AddsLine n tokens old new (Some w) = (at : ℕ) × HasFault whole_line (marks tokens) at w.kind × (w.line ≡ n) × (w.column ≡ column_at 0 tokens at)

-- The same, where a line before may be none already. Own.
abbrev pub GoesOn : Option Wrong → ℕ → List Placed → List Item → List Item → Option Wrong → Type 0
GoesOn None n tokens old new next = AddsLine n tokens old new next
GoesOn (Some w) n tokens old new next = next ≡ Some w
