-- Tokens taken one after another by a set of languages: which of them go on, and where none does.
use Rattle.std.proofs.Common.{ℕ, suc, Bool, true, false, not, ◌||◌, eqb, leb, List, [], ◌∷◌, ◌++◌, length}
use Rattle.casm_statements.specs.declared.Body.{Body}
use Rattle.casm_tokens.specs.declared.fault.SyntaxKind.{SyntaxKind}
use Rattle.casm_tokens.specs.declared.fault.SyntaxKind.TheVariants as kind
use Rattle.casm_tokens.specs.Marks.{Mark, Sign, Keyword, Label, Number}
use Rattle.casm_grammar.specs.Directives.{directive_word}
use Rattle.casm_grammar.specs.Readers.{sign_code, word_code, same_directive}
use Rattle.casm_grammar.specs.Language.{Language, ended, sign, word, directive, label, number, up_to, zero, either, Bounds, Kept, Lifted}

-- the language, where a test holds
abbrev pub when : Bool → Language → List Language
when true l = l ∷ []
when false l = []

-- within a bound
abbrev pub within : Bounds → ℕ → ℕ → Bool
within Kept most n = leb n most
within Lifted most n = true

-- what may stand after a token
abbrev pub next : Bounds → Mark → Language → List Language
next b m (ended v) = []
next b (Sign t) (sign s l) = when (eqb (sign_code t) (sign_code s)) l
next b _ (sign s l) = []
next b (Keyword t) (word r l) = when (eqb (word_code t) (word_code r)) l
next b _ (word r l) = []
next b (Label text) (directive d l) = when (same_directive (directive_word text) d) l
next b _ (directive d l) = []
next b (Label text) (label f) = f text ∷ []
next b _ (label f) = []
next b (Number x) (number f) = f x ∷ []
next b _ (number f) = []
next b (Number x) (up_to most f) = when (within b most x.number) (f x)
next b _ (up_to most f) = []
next b (Number x) (zero l) = when (eqb x.number 0) l
next b _ (zero l) = []
next b m (either l r) = next b m l ++ next b m r

-- a number that is out of the bound of some
abbrev pub past : Mark → ℕ → Bool
past (Number x) most = not (leb x.number most)
past _ most = false

abbrev pub beyond : Mark → Language → Bool
beyond m (up_to most f) = past m most
beyond m (either l r) = beyond m l || beyond m r
beyond m _ = false

-- what a line may mean that ends here
abbrev pub ends : Language → List (List Body)
ends (ended v) = v ∷ []
ends (either l r) = ends l ++ ends r
ends _ = []

-- the same of a list of languages
abbrev pub nexts : Bounds → Mark → List Language → List Language
nexts b m [] = []
nexts b m (l ∷ ls) = next b m l ++ nexts b m ls

abbrev pub beyonds : Mark → List Language → Bool
beyonds m [] = false
beyonds m (l ∷ ls) = beyond m l || beyonds m ls

abbrev pub endings : List Language → List (List Body)
endings [] = []
endings (l ∷ ls) = ends l ++ endings ls

-- what comes of tokens: one meaning, a fault with how many tokens are left, or more than one reading
pub data Outcome : Type 0 where
  Done : List Body → Outcome
  Stopped : ℕ → SyntaxKind → Outcome
  Twice : Outcome

abbrev pub finish : List (List Body) → Outcome
finish [] = Stopped 0 kind.Token
finish (v ∷ []) = Done v
finish (v ∷ w ∷ _) = Twice

abbrev pub go_on : Bool → Outcome → Outcome
go_on true o = Twice
go_on false o = o

abbrev pub advance : Bool → List Language → List Language → ℕ → Outcome → Outcome
advance out kept [] left o = Stopped left kind.Token
advance out [] (l ∷ ls) left o = Stopped left kind.Range
advance out (k ∷ ks) (l ∷ ls) left o = go_on out o

-- the tokens taken by the languages
abbrev pub run : List Mark → List Language → Outcome
run [] s = finish (endings s)
run (m ∷ ms) s = advance (beyonds m s) (nexts Kept m s) (nexts Lifted m s) (suc (length ms)) (run ms (nexts Kept m s))
