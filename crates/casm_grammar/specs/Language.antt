-- Languages of lines: what tokens may stand to the end of a line, and what the line means then. A grammar is a language
-- that goes on with what follows.
use Rattle.std.specs.Prelude.{◌≡◌, ◌≤◌, ◌⊎◌, ℕ, List, [], ◌∷◌, ◌++◌, length, Some}
use Rattle.goldilocks.specs.declared.Felt.{Felt}
use Rattle.casm_statements.specs.declared.name.Reserved.{Reserved}
use Rattle.casm_statements.specs.declared.Body.{Body}
use Rattle.casm_tokens.specs.declared.marks.Symbol.{Symbol}
use Rattle.casm_tokens.specs.declared.fault.SyntaxKind.{SyntaxKind}
use Rattle.casm_tokens.specs.declared.fault.SyntaxKind.TheVariants as kind
use Rattle.casm_tokens.specs.Marks.{Mark, Sign, Keyword, Label, Number}
use Rattle.casm_grammar.specs.declared.directive.Directive.{Directive}
use Rattle.casm_grammar.specs.Directives.{directive_word}

-- What may stand up to the end of a line. Own.
pub data Language : Type 0 where
  -- nothing: the line means this
  ended : List Body → Language
  -- this sign, and then
  sign : Symbol → Language → Language
  -- this reserved word, and then
  word : Reserved → Language → Language
  -- this word of a directive, and then
  directive : Directive → Language → Language
  -- a label, and then what depends on it
  label : (List ℕ → Language) → Language
  -- a number, and then what depends on it
  number : (Felt → Language) → Language
  -- a number of at most so much, and then what depends on it
  up_to : ℕ → (Felt → Language) → Language
  -- the number 0, and then
  zero : Language → Language
  -- one or the other
  either : Language → Language → Language

-- Whether bounds of numbers are kept, or lifted to tell a number out of bounds from a wrong token. Own.
pub data Bounds : Type 0 where
  Kept : Bounds
  Lifted : Bounds

-- A number is within a bound, where bounds are kept. Own.
abbrev pub Within : Bounds → ℕ → ℕ → Type 0
Within Kept most n = n ≤ most
Within Lifted most n = Unit {0}

-- The tokens are a line of the language with this meaning. Own.
abbrev pub Derives : Bounds → Language → List Body → List Mark → Type 0
Derives b (ended w) v ts = (ts ≡ []) × (v ≡ w)
Derives b (sign s l) v ts = (rest : List Mark) × (ts ≡ Sign s ∷ rest) × Derives b l v rest
Derives b (word r l) v ts = (rest : List Mark) × (ts ≡ Keyword r ∷ rest) × Derives b l v rest
Derives b (directive d l) v ts = (text : List ℕ) × (rest : List Mark) × (ts ≡ Label text ∷ rest) × (directive_word text ≡ Some d) × Derives b l v rest
Derives b (label f) v ts = (text : List ℕ) × (rest : List Mark) × (ts ≡ Label text ∷ rest) × Derives b (f text) v rest
Derives b (number f) v ts = (x : Felt) × (rest : List Mark) × (ts ≡ Number x ∷ rest) × Derives b (f x) v rest
Derives b (up_to most f) v ts = (x : Felt) × (rest : List Mark) × (ts ≡ Number x ∷ rest) × Within b most x.number × Derives b (f x) v rest
Derives b (zero l) v ts = (x : Felt) × (rest : List Mark) × (ts ≡ Number x ∷ rest) × (x.number ≡ 0) × Derives b l v rest
Derives b (either l r) v ts = Derives b l v ts ⊎ Derives b r v ts

-- The tokens begin a line of the language: with further ones they are one. Own.
pub record Begins (b : Bounds) (l : Language) (ts : List Mark) : Type 0 where
  pub value : List Body
  pub more : List Mark
  pub derives : Derives b l value (ts ++ more)

-- Tokens stop to begin a line of the language after the first list, and the second list is the rest of them. The first
-- token of the rest is wrong, or out of its bounds. Where there is no rest, more is missing. Own.
abbrev pub IsFault : Language → List Mark → List Mark → SyntaxKind → Type 0
IsFault l front [] k = (k ≡ kind.Token) × Begins Kept l front × ((v : List Body) → Derives Kept l v front → ⊥)
IsFault l front (t ∷ rest) kind.Token = Begins Kept l front × (Begins Lifted l (front ++ t ∷ []) → ⊥)
IsFault l front (t ∷ rest) kind.Range = Begins Kept l front × Begins Lifted l (front ++ t ∷ []) × (Begins Kept l (front ++ t ∷ []) → ⊥)
IsFault l front (t ∷ rest) _ = ⊥

-- The first fault of tokens that are no line of the language: before it stand so many of them. Own.
pub record HasFault (l : Language) (ts : List Mark) (at : ℕ) (k : SyntaxKind) : Type 0 where
  pub front : List Mark
  pub rest : List Mark
  pub parts : ts ≡ front ++ rest
  pub place : length front ≡ at
  pub fault : IsFault l front rest k
