-- What a program is disassembled into, and that it is assembled again from it.
use Rattle.std.specs.Prelude.{◌≡◌, ℕ, ◌+◌, Bool, ◌||◌, if◌then◌else◌, List, [], ◌∷◌, ◌++◌}
use Rattle.goldilocks.specs.declared.Felt.{Felt}
use Rattle.casm_statements.specs.declared.Target.TheVariants.{Number}
use Rattle.casm_statements.specs.declared.Body.{Body}
use Rattle.casm_statements.specs.declared.Body.TheVariants.{Builtins, Start, End}
use Rattle.casm_statements.specs.declared.Item.{Item}
use Rattle.casm_text.specs.Meaning.{item_on, bodies}
use Rattle.assembler.specs.Shown.{Shown}
use Rattle.assembler.specs.Assembly.{labels_of, words_of, start_place, end_place, builtins_of}
use Rattle.assembler.specs.Faults.{HasNoFault}

-- The directive `%builtins`, where one is set. Own.
abbrev pub builtins_directive : Bool → Bool → List Body
builtins_directive output range = if output || range then Builtins output range ∷ [] else []

-- The directives of a program. Own.
abbrev pub directives : ℕ → ℕ → Bool → Bool → List Body
directives start end output range =
    builtins_directive output range ++ Start (Number start) ∷ End (Number end) ∷ []

-- The bodies on lines of their own, of which the first has this number. Own.
abbrev pub on_lines : ℕ → List Body → List Item
on_lines n [] = []
on_lines n (b ∷ bs) = item_on n b ∷ on_lines (n + 1) bs

-- The items are the directives of a program and then what its words are shown as, on the lines 1, 2 and on. Own.
pub record Disassembles (words : List Felt) (start end : ℕ) (output range : Bool) (items : List Item) : Type 0 where
  pub statements : List Body
  pub shown : Shown words statements
  pub lines_are : items ≡ on_lines 1 (directives start end output range ++ statements)

-- The items can be assembled, to exactly these words, places and builtins, and to no labels. Own.
pub record AssemblesTo (words : List Felt) (start end : ℕ) (output range : Bool) (items : List Item) : Type 0 where
  pub accepted : HasNoFault items
  pub words_are : words_of (bodies items) ≡ words
  pub labels_are : labels_of (bodies items) ≡ []
  pub start_is : start_place (bodies items) ≡ start
  pub end_is : end_place (bodies items) ≡ end
  pub builtins_are : builtins_of (bodies items) ≡ (output, range)
