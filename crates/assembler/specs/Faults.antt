-- Why items can't be assembled: each fault by itself, and the order in which they are reported.
use Rattle.std.specs.Prelude.{◌≡◌, ℕ, ◌<◌, ◌≤◌, Bool, false, List, take, find, slice_get, Option, Some, None, is_some, IsTrue, if◌then◌else◌}
use Rattle.casm_word.specs.Length.{program_word_limit}
use Rattle.casm_statements.specs.declared.Body.{Body}
use Rattle.casm_statements.specs.declared.Body.TheVariants as body
use Rattle.casm_statements.specs.declared.Item.{Item}
use Rattle.casm_text.specs.Meaning.{bodies}
use Rattle.assembler.specs.Assembly.{word_count, labels_of, value_in, label_named, first_given, start_in, end_in, builtins_in, start_place, end_place}
use Rattle.assembler.specs.declared.fault.AsmFault.{AsmFault}
use Rattle.assembler.specs.declared.fault.AsmFault.TheVariants.{Duplicate, TooLong, Unknown, NoEnd, StartOutside, EndOutside, Memory}

-- The body is a label that is given among those before it, or a directive of a kind that is. Own.
abbrev pub is_given_again : List Body → Body → Bool
is_given_again before (body.Builtins o r) = is_some (first_given builtins_in before)
is_given_again before (body.Start t) = is_some (first_given start_in before)
is_given_again before (body.End t) = is_some (first_given end_in before)
is_given_again before (body.Label n) = is_some (value_in (labels_of before) n)
is_given_again before (body.Stmt s) = false
is_given_again before (body.JumpTo n inc) = false
is_given_again before (body.BranchTo c n inc) = false
is_given_again before (body.CallTo n) = false
is_given_again before (body.Dw v) = false

-- Item k is a label or a directive that was given before. Own.
pub record RepeatsAt (items : List Item) (k : ℕ) (i : Item) : Type 0 where
  pub there : slice_get items k ≡ Some i
  pub again : IsTrue (is_given_again (take k (bodies items)) i.body)

-- This is the line of the first item that is a label or a directive that was given before. Own.
pub record IsFirstRepeat (items : List Item) (number : ℕ) : Type 0 where
  pub at : ℕ
  pub item : Item
  pub repeats : RepeatsAt items at item
  pub line_is : item.line ≡ number
  pub first : (k : ℕ) (i : Item) → k < at → RepeatsAt items k i → ⊥

-- The name, where it isn't one of these labels. Own.
abbrev pub unless_known : List (List ℕ × ℕ) → Option (List ℕ) → Option (List ℕ)
unless_known labels None = None
unless_known labels (Some n) = if is_some (value_in labels n) then None else Some n

-- The label that the body names, where it isn't one of these. Own.
abbrev pub unknown_in : List (List ℕ × ℕ) → Body → Option (List ℕ)
unknown_in labels b = unless_known labels (label_named b)

-- This is the name, and the line, of the first item that names a label which isn't there among them. Own.
pub record IsFirstUnknown (items : List Item) (missing : List ℕ) (number : ℕ) : Type 0 where
  pub item : Item
  pub found : find (λ i. is_some (unknown_in (labels_of (bodies items)) i.body)) items ≡ Some item
  pub name_is : unknown_in (labels_of (bodies items)) item.body ≡ Some missing
  pub line_is : item.line ≡ number

-- The fault is there. A label or a directive is given twice. There are more than 2^18 words. An item names a label that
-- isn't there. There is no end. The start isn't below the number of words, or the end isn't. Own.
abbrev pub HasAsmFault : List Item → AsmFault → Type 0
HasAsmFault items (Duplicate line) = IsFirstRepeat items line
HasAsmFault items TooLong = program_word_limit < word_count (bodies items)
HasAsmFault items (Unknown name line) = IsFirstUnknown items name line
HasAsmFault items NoEnd = first_given end_in (bodies items) ≡ None
HasAsmFault items StartOutside = word_count (bodies items) ≤ start_place (bodies items)
HasAsmFault items EndOutside = word_count (bodies items) ≤ end_place (bodies items)
HasAsmFault items Memory = ⊥

-- The order in which faults are reported. Own.
abbrev pub rank : AsmFault → ℕ
rank (Duplicate line) = 0
rank TooLong = 1
rank (Unknown name line) = 2
rank NoEnd = 3
rank StartOutside = 4
rank EndOutside = 5
rank Memory = 6

-- Items that can be assembled: none of the faults is there. Own.
abbrev pub HasNoFault : List Item → Type 0
HasNoFault items = (f : AsmFault) → HasAsmFault items f → ⊥

-- The fault is there, and none that is reported before it is. Own.
pub record IsFirstFault (items : List Item) (f : AsmFault) : Type 0 where
  pub holds : HasAsmFault items f
  pub first : (g : AsmFault) → rank g < rank f → HasAsmFault items g → ⊥

-- A refusal is the first fault, unless there was no memory. Own.
abbrev pub TellsFault : List Item → AsmFault → Type 0
TellsFault items (Duplicate line) = IsFirstFault items (Duplicate line)
TellsFault items TooLong = IsFirstFault items TooLong
TellsFault items (Unknown name line) = IsFirstFault items (Unknown name line)
TellsFault items NoEnd = IsFirstFault items NoEnd
TellsFault items StartOutside = IsFirstFault items StartOutside
TellsFault items EndOutside = IsFirstFault items EndOutside
TellsFault items Memory = Unit {0}
