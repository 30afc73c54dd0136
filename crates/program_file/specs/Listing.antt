-- What a program file says: the words of a program, the places where it starts and ends, and its builtins.
use Rattle.std.specs.Prelude.{ℕ, ◌<◌, ◌≤◌, List, length}
use Rattle.goldilocks.specs.declared.Felt.{Felt}
use Rattle.casm_word.specs.Length.{program_word_limit}
use Rattle.program_file.specs.declared.Builtins.{Builtins}
use Rattle.program_file.specs.declared.Program.{Program}

-- A program as a list of words, two places in it, and the builtins that it uses. Own.
pub record Listing : Type 0 where
  pub words : List Felt
  pub start : ℕ
  pub end : ℕ
  pub builtins : Builtins

-- The listing is a program: it has at most 2^18 words, and it starts and ends at a word of its own. So it has a word.
-- Own.
pub record IsProgram (listed : Listing) : Type 0 where
  pub few_words : length listed.words ≤ program_word_limit
  pub start_inside : listed.start < length listed.words
  pub end_inside : listed.end < length listed.words

-- What a program lists: its words, its places and its builtins. Own.
abbrev pub listing : Program → Listing
listing p = record { words = p.words.items; start = p.start; end = p.end; builtins = p.builtins }
