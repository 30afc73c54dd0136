-- How long a program may be.
use Rattle.std.specs.Prelude.{ℕ, ◌^◌}

-- The most words that a program has. Own.
abbrev pub program_word_limit : ℕ
program_word_limit = 2 ^ 18
