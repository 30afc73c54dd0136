-- What private parts of the assembler answer. No public contract rests on it.
use Rattle.std.specs.Prelude.{◌≡◌, ℕ, ◌+◌, ◌<◌, ◌≤◌, min, Bool, true, false, ◌||◌, List, ◌++◌, map, length, find, Some, None, is_some}
use Rattle.goldilocks.specs.declared.Felt.{Felt}
use Rattle.casm_statements.specs.declared.Body.{Body}
use Rattle.casm_statements.specs.declared.Body.TheVariants as body
use Rattle.casm_statements.specs.declared.Item.{Item}
use Rattle.casm_text.specs.Meaning.{bodies}
use Rattle.assembler.specs.declared.survey.Survey.{Survey}
use Rattle.assembler.specs.declared.fault.AsmFault.{AsmFault}
use Rattle.assembler.specs.declared.fault.AsmFault.TheVariants.{Duplicate, TooLong, Unknown, NoEnd, StartOutside, EndOutside, Memory}
use Rattle.assembler.specs.StatementWords.{HasOffsets}
use Rattle.assembler.specs.Shown.{Shown}
use Rattle.assembler.specs.Assembly.{body_size, word_count, label_in, label_at, labels_of, value_in, first_given, start_in, end_in, builtins_in, target_place}
use Rattle.assembler.specs.Faults.{unknown_in, IsFirstRepeat}
use Rattle.assembler.specs.Disassembly.{on_lines}

-- A number as `u32` holds it: its last value stands for all above. Own.
abbrev pub capped : ℕ → ℕ
capped n = min n 4294967295

-- A label with its value as `u32` holds it. Own.
abbrev pub capped_label : List ℕ × ℕ → List ℕ × ℕ
capped_label l = (l.0, capped l.1)

-- What is known of the bodies before an item. Own.
pub record Surveys (before : List Body) (s : Survey) : Type 0 where
  pub labels_are : s.labels.entries ≡ map capped_label (labels_of before)
  pub words_are : s.words ≡ capped (word_count before)
  pub builtins_are : s.builtins ≡ is_some (first_given builtins_in before)
  pub start_is : s.start ≡ is_some (first_given start_in before)
  pub end_is : s.end ≡ is_some (first_given end_in before)

-- The body is a label or a directive that was given before. Own.
abbrev pub has_given : Survey → Body → Bool
has_given s (body.Builtins o r) = s.builtins
has_given s (body.Start t) = s.start
has_given s (body.End t) = s.end
has_given s (body.Label n) = is_some (value_in s.labels.entries n)
has_given s (body.Stmt t) = false
has_given s (body.JumpTo n inc) = false
has_given s (body.BranchTo c n inc) = false
has_given s (body.CallTo n) = false
has_given s (body.Dw v) = false

-- One body is taken up. Own.
pub record TakesUp (s : Survey) (b : Body) (t : Survey) : Type 0 where
  pub new : has_given s b ≡ false
  pub labels_are : t.labels.entries ≡ s.labels.entries ++ label_at s.words (label_in b)
  pub words_are : t.words ≡ capped (s.words + body_size b)
  pub builtins_are : t.builtins ≡ (s.builtins || is_some (builtins_in b))
  pub start_is : t.start ≡ (s.start || is_some (start_in b))
  pub end_is : t.end ≡ (s.end || is_some (end_in b))

-- Why a body isn't taken up: it was given before, or there is no memory. Own.
abbrev pub TellsRepeat : Survey → Item → AsmFault → Type 0
TellsRepeat s i (Duplicate line) = (has_given s i.body ≡ true) × (i.line ≡ line)
TellsRepeat s i TooLong = ⊥
TellsRepeat s i (Unknown name line) = ⊥
TellsRepeat s i NoEnd = ⊥
TellsRepeat s i StartOutside = ⊥
TellsRepeat s i EndOutside = ⊥
TellsRepeat s i Memory = Unit {0}

-- Why items aren't surveyed: one repeats, and this is the first one's line; or there is no memory. Own.
abbrev pub TellsFirstRepeat : List Item → AsmFault → Type 0
TellsFirstRepeat items (Duplicate line) = IsFirstRepeat items line
TellsFirstRepeat items TooLong = ⊥
TellsFirstRepeat items (Unknown name line) = ⊥
TellsFirstRepeat items NoEnd = ⊥
TellsFirstRepeat items StartOutside = ⊥
TellsFirstRepeat items EndOutside = ⊥
TellsFirstRepeat items Memory = Unit {0}

-- The offsets of a statement fit, where the body is one. Own.
abbrev pub KeepsOffsets : Body → Type 0
KeepsOffsets (body.Builtins o r) = Unit {0}
KeepsOffsets (body.Start t) = Unit {0}
KeepsOffsets (body.End t) = Unit {0}
KeepsOffsets (body.Label n) = Unit {0}
KeepsOffsets (body.Stmt s) = HasOffsets s
KeepsOffsets (body.JumpTo n inc) = Unit {0}
KeepsOffsets (body.BranchTo c n inc) = Unit {0}
KeepsOffsets (body.CallTo n) = Unit {0}
KeepsOffsets (body.Dw v) = Unit {0}

-- Why an item has no words over these labels: it names a label that isn't one of them, or there is no memory. Own.
abbrev pub TellsUnknown : List (List ℕ × ℕ) → Item → AsmFault → Type 0
TellsUnknown labels i (Duplicate line) = ⊥
TellsUnknown labels i TooLong = ⊥
TellsUnknown labels i (Unknown name line) = (unknown_in labels i.body ≡ Some name) × (i.line ≡ line)
TellsUnknown labels i NoEnd = ⊥
TellsUnknown labels i StartOutside = ⊥
TellsUnknown labels i EndOutside = ⊥
TellsUnknown labels i Memory = Unit {0}

-- Why items have no words over these labels: this is the first that names one which isn't one of them; or there is no
-- memory. Own.
abbrev pub TellsFirstUnknown : List (List ℕ × ℕ) → List Item → AsmFault → Type 0
TellsFirstUnknown labels items (Duplicate line) = ⊥
TellsFirstUnknown labels items TooLong = ⊥
TellsFirstUnknown labels items (Unknown name line) =
    (i : Item) × (find (λ j. is_some (unknown_in labels j.body)) items ≡ Some i) × (unknown_in labels i.body ≡ Some name) × (i.line ≡ line)
TellsFirstUnknown labels items NoEnd = ⊥
TellsFirstUnknown labels items StartOutside = ⊥
TellsFirstUnknown labels items EndOutside = ⊥
TellsFirstUnknown labels items Memory = Unit {0}

-- Why the places aren't inside a program of this many words: no end is given; the start is outside; or the end is. Own.
abbrev pub TellsPlace : List (List ℕ × ℕ) → List Item → ℕ → AsmFault → Type 0
TellsPlace labels items count (Duplicate line) = ⊥
TellsPlace labels items count TooLong = ⊥
TellsPlace labels items count (Unknown name line) = ⊥
TellsPlace labels items count NoEnd = first_given end_in (bodies items) ≡ None
TellsPlace labels items count StartOutside =
    (first_given end_in (bodies items) ≡ None → ⊥) × (count ≤ target_place labels (first_given start_in (bodies items)))
TellsPlace labels items count EndOutside =
    (first_given end_in (bodies items) ≡ None → ⊥) × (target_place labels (first_given start_in (bodies items)) < count) × (count ≤ target_place labels (first_given end_in (bodies items)))
TellsPlace labels items count Memory = ⊥

-- The items are those before and then what the words are shown as, on the lines that follow. Own.
pub record ShownBehind (before : List Item) (words : List Felt) (items : List Item) : Type 0 where
  pub statements : List Body
  pub shown : Shown words statements
  pub parts : items ≡ before ++ on_lines (length before + 1) statements
