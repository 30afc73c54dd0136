-- Tokens and what is read of them, seen without their borrows.
use Rattle.std.specs.Prelude.{List, [], ◌∷◌, ◌++◌, map, Option, Some, None}
use Rattle.casm_statements.specs.declared.label.Label.{Label as LabelBytes}
use Rattle.casm_statements.specs.declared.Target.{Target}
use Rattle.casm_statements.specs.declared.Target.TheVariants as target_is
use Rattle.casm_statements.specs.declared.Body.{Body}
use Rattle.casm_statements.specs.declared.Body.TheVariants as body
use Rattle.casm_tokens.specs.declared.marks.Lexeme.{Lexeme}
use Rattle.casm_tokens.specs.Marks.{Mark, mark_of}
use Rattle.casm_grammar.specs.declared.phrase.TargetRef.{TargetRef}
use Rattle.casm_grammar.specs.declared.phrase.TargetRef.TheVariants as target_ref
use Rattle.casm_grammar.specs.declared.phrase.Phrase.{Phrase}
use Rattle.casm_grammar.specs.declared.phrase.Phrase.TheVariants as phrase
use Rattle.casm_grammar.specs.declared.phrase.Line.{Line}

-- What tokens say. Own.
abbrev pub seen : List Lexeme → List Mark
seen = map (λ t. mark_of t.mark)

-- The target of a directive, with the label's bytes. Own.
abbrev pub target_of : TargetRef → Target
target_of (target_ref.Number n) = target_is.Number n
target_of (target_ref.Name l) = target_is.Name l.text.now

-- What a phrase means. Own.
abbrev pub body_of : Phrase → Body
body_of (phrase.Builtins o r) = body.Builtins o r
body_of (phrase.Start p) = body.Start (target_of p)
body_of (phrase.End p) = body.End (target_of p)
body_of (phrase.Stmt s) = body.Stmt s
body_of (phrase.JumpTo l i) = body.JumpTo l.text.now i
body_of (phrase.BranchTo c l i) = body.BranchTo c l.text.now i
body_of (phrase.CallTo l) = body.CallTo l.text.now
body_of (phrase.Dw x) = body.Dw x

-- The label of a line, as an item. Own.
abbrev pub label_of : Option LabelBytes → List Body
label_of None = []
label_of (Some l) = body.Label l.text.now ∷ []

-- What it says besides, as an item. Own.
abbrev pub phrase_of : Option Phrase → List Body
phrase_of None = []
phrase_of (Some p) = body_of p ∷ []

-- What a line means. Own.
abbrev pub bodies_of : Line → List Body
bodies_of l = label_of l.label ++ phrase_of l.phrase
