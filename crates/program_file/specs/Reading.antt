-- A program file as the list of its faults, key by key, in the order in which they are looked at.
use Rattle.std.specs.Prelude.{ℕ, ◌&&◌, Bool, true, false, List, [], ◌∷◌, length, nat_lt, nat_le, find, Option, Some, None, Result, Ok, ⊤}
use Rattle.std.specs.Str.{bytes_eq}
use Rattle.serde_json.specs.Data.{Data}
use Rattle.serde_json.specs.Find.{as_str}
use Rattle.goldilocks.specs.declared.Felt.{Felt}
use Rattle.casm_word.specs.Length.{program_word_limit}
use Rattle.json_fields.specs.Values.{json_of, text_at, list_at, whole_at, felt_in}
use Rattle.json_fields.specs.Faults.{◌>>=◌, needed, demand, in_turn}
use Rattle.program_file.specs.declared.Builtins.{Builtins}
use Rattle.program_file.specs.declared.faults.ProgramKey.{ProgramKey}
use Rattle.program_file.specs.declared.faults.ProgramKey.TheVariants as key
use Rattle.program_file.specs.declared.faults.ProgramFault.{ProgramFault}
use Rattle.program_file.specs.declared.faults.ProgramFault.TheVariants as fault
use Rattle.program_file.specs.Shown.{key_name}
use Rattle.program_file.specs.Listing.{Listing}
use Rattle.program_file.specs.Format.{prime_text, builtin_names}

-- Whether there is a text and it is this one. Own.
abbrev pub is_same_text : List ℕ → Option (List ℕ) → Bool
is_same_text name None = false
is_same_text name (Some text) = bytes_eq text name

-- Whether the entries of a list are these texts. Own.
abbrev pub are_texts : List (List ℕ) → List Data → Bool
are_texts [] [] = true
are_texts [] (d ∷ ds) = false
are_texts (name ∷ names) [] = false
are_texts (name ∷ names) (d ∷ ds) = is_same_text name (as_str d) && are_texts names ds

-- The four choices of builtins. Own.
abbrev pub all_builtins : List Builtins
all_builtins =
    record { output = false; range = false }
    ∷ record { output = true; range = false }
    ∷ record { output = false; range = true }
    ∷ record { output = true; range = true }
    ∷ []

-- The builtins whose names a list has, in their order. Own.
unfoldable pub builtins_in : List Data → Option Builtins
builtins_in names = find (λ uses. are_texts (builtin_names uses) names) all_builtins

-- The word at an entry; a fault names the entry by its index. Own.
unfoldable pub word_in : List Felt → Data → Result Felt ProgramFault
word_in before d = needed (fault.Felt (length before)) (felt_in d)

-- The whole number under a key. Own.
unfoldable pub whole_under : ProgramKey → Data → Result ℕ ProgramFault
whole_under key top = needed (fault.Key key) (whole_at (key_name key) top)

-- The order of the field. Own.
unfoldable pub prime_in : Data → Result ⊤ ProgramFault
prime_in top = do
  prime ← needed (fault.Key key.Prime) (text_at (key_name key.Prime) top)
  demand fault.Prime (bytes_eq prime prime_text)

-- The words, one entry after another. Own.
unfoldable pub words_in : Data → Result (List Felt) ProgramFault
words_in top = do
  texts ← needed (fault.Key key.Words) (list_at (key_name key.Words) top)
  _ ← demand fault.TooLong (nat_le (length texts) program_word_limit)
  in_turn word_in [] texts

-- The builtins. Own.
unfoldable pub builtins_under : Data → Result Builtins ProgramFault
builtins_under top = do
  names ← needed (fault.Key key.Builtins) (list_at (key_name key.Builtins) top)
  needed fault.Builtin (builtins_in names)

-- The program of these words, where it starts and ends at one of them. Own.
unfoldable pub bounded : List Felt → ℕ → ℕ → Builtins → Result Listing ProgramFault
bounded words start end builtins = do
  _ ← demand (fault.Label key.Start) (nat_lt start (length words))
  _ ← demand (fault.Label key.End) (nat_lt end (length words))
  Ok (record { words = words; start = start; end = end; builtins = builtins })

-- What the value of a JSON text is: a program, or the first fault. Own.
unfoldable pub program_in : Data → Result Listing ProgramFault
program_in top = do
  _ ← prime_in top
  words ← words_in top
  start ← whole_under key.Start top
  end ← whole_under key.End top
  builtins ← builtins_under top
  bounded words start end builtins

-- What bytes are: a program, or the first fault. Own.
unfoldable pub reading : List ℕ → Result Listing ProgramFault
reading bytes = do
  top ← needed fault.Json (json_of bytes)
  program_in top
