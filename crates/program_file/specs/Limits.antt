-- How long a program file may be.
use Rattle.std.specs.Prelude.{ℕ, ◌^◌}

-- The most bytes of a program file. Own.
abbrev pub program_limit : ℕ
program_limit = 2 ^ 24
