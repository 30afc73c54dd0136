-- What private functions of the parser answer, seen without their borrows. An auditor needn't read this file: no public
-- contract rests on it.
use Rattle.std.specs.Prelude.{ℕ, List, Option, option_map, Result, Ok, Err}
use Rattle.std.specs.Borrow.{Bor}
use Rattle.casm_tokens.specs.declared.marks.Lexeme.{Lexeme}
use Rattle.casm_tokens.specs.declared.fault.SyntaxKind.{SyntaxKind}
use Rattle.casm_tokens.specs.Marks.{Mark}
use Rattle.casm_grammar.specs.declared.refusal.Refusal.{Refusal}
use Rattle.casm_grammar.specs.Seen.{seen}

-- The tokens that are left, seen. Own.
abbrev pub seen_rest : Option (Bor (List Lexeme)) → Option (List Mark)
seen_rest = option_map (λ rest. seen rest.now)

-- A refusal, seen: how many tokens are left, and why. Own.
abbrev pub seen_refusal : Refusal → ℕ × SyntaxKind
seen_refusal s = (s.left, s.kind)

-- The tokens that are left after others, or a refusal. Own.
abbrev pub seen_after : Result (Bor (List Lexeme)) Refusal → Result (List Mark) (ℕ × SyntaxKind)
seen_after (Ok rest) = Ok (seen rest.now)
seen_after (Err s) = Err (seen_refusal s)

-- A value that is all, or a refusal. Own.
abbrev pub seen_all : {A B : Type 0} → (A → B) → Result A Refusal → Result B (ℕ × SyntaxKind)
seen_all view (Ok x) = Ok (view x)
seen_all view (Err s) = Err (seen_refusal s)

-- A value and the tokens after it, or a refusal. Own.
abbrev pub seen_reading : {A B : Type 0} → (A → B) → Result (A × Bor (List Lexeme)) Refusal → Result (B × List Mark) (ℕ × SyntaxKind)
seen_reading view (Ok p) = Ok (view p.0, seen p.1.now)
seen_reading view (Err s) = Err (seen_refusal s)
