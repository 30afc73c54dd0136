-- The forms of the commands. Own.
use Rattle.std.specs.Prelude.{ℕ, Bool, false, List, [], ◌∷◌, ◌++◌, map, codes, if◌then◌else◌}
use Rattle.std.specs.List.{flat_map}
use Rattle.command_words.specs.declared.table.Command.{Command}
use Rattle.command_words.specs.declared.table.Command.TheVariants.{Walk, Asm, Dis, Run, Tables, Check}
use Rattle.command_words.specs.declared.table.Part.{Part as CodePart}
use Rattle.command_words.specs.declared.table.Part.TheVariants as code
use Rattle.command_words.specs.declared.table.CommandForm.{CommandForm as CodeForm}

-- What stands in one place after a command, with its name in a usage text. It is the name of a file that is read or
-- written, or a number from the least to the most. Own.
pub data Part : Type 0 where
  Input : (shown : List ℕ) → Part
  Output : (shown : List ℕ) → Part
  Number : (shown : List ℕ) (least most : ℕ) → Part

-- The form of a command: its word, what each further word is, and whether the two words `--workers N` may follow. Own.
pub record CommandForm : Type 0 where
  pub command : Command
  pub word : List ℕ
  pub parts : List Part
  pub takes_workers : Bool

-- The form of a command on one worker. Own.
abbrev pub on_one_worker : Command → List ℕ → List Part → CommandForm
on_one_worker command word parts = record { command = command; word = word; parts = parts; takes_workers = false }

-- The forms of all commands. Own.
unfoldable pub forms : List CommandForm
forms =
    on_one_worker Walk (codes "walk") (Input (codes "TRACE") ∷ Input (codes "MEMORY") ∷ [])
    ∷ on_one_worker Asm (codes "asm") (Input (codes "TEXT") ∷ Output (codes "PROGRAM") ∷ [])
    ∷ on_one_worker Dis (codes "dis") (Input (codes "PROGRAM") ∷ Output (codes "TEXT") ∷ [])
    ∷ on_one_worker Run (codes "run") (Input (codes "PROGRAM") ∷ Input (codes "HINTS") ∷ Output (codes "TRACE") ∷ Output (codes "MEMORY") ∷ Output (codes "PUBLIC") ∷ Output (codes "TABLES") ∷ [])
    ∷ on_one_worker Tables (codes "tables") (Input (codes "PROGRAM") ∷ Input (codes "PUBLIC") ∷ Input (codes "TRACE") ∷ Input (codes "MEMORY") ∷ Output (codes "TABLES") ∷ [])
    ∷ on_one_worker Check (codes "check") (Input (codes "PROGRAM") ∷ Input (codes "PUBLIC") ∷ Input (codes "TABLES") ∷ [])
    ∷ []

-- The name of a part in a usage text. Own.
abbrev pub shown : Part → List ℕ
shown (Input name) = name
shown (Output name) = name
shown (Number name least most) = name

-- A blank and the name of a part. Own.
abbrev pub after_blank : Part → List ℕ
after_blank part = 32 ∷ shown part

-- How a usage text says that workers may be named. Own.
abbrev pub workers_shown : Bool → List ℕ
workers_shown takes_workers = if takes_workers then codes " [--workers N]" else []

-- How a call of a command is written: its word, and a blank and a name for each part, and then that workers may be
-- named. Own.
unfoldable pub usage_text : CommandForm → List ℕ
usage_text form =
    (form.word ++ flat_map after_blank form.parts) ++ workers_shown form.takes_workers

-- A part of the code's table. Own.
abbrev pub part_of : CodePart → Part
part_of (code.Input shown) = Input shown.now
part_of (code.Output shown) = Output shown.now
part_of (code.Number shown least most) = Number shown.now least most

-- A row of the code's table. Own.
abbrev pub form_of : CodeForm → CommandForm
form_of form = record {
  command = form.command;
  word = form.word.now;
  parts = map part_of form.parts.now;
  takes_workers = form.takes_workers;
}
