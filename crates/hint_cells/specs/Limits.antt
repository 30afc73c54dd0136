-- How long a hint file may be, and how much it may say.
use Rattle.std.specs.Prelude.{ℕ, ◌^◌}

-- The most bytes of a hint file. Own.
abbrev pub hints_limit : ℕ
hints_limit = 2 ^ 27

-- The most extra segments. Own.
abbrev pub extra_limit : ℕ
extra_limit = 2 ^ 16

-- The most hint cells. Own.
abbrev pub hint_cell_limit : ℕ
hint_cell_limit = 2 ^ 20

-- Segments and offsets are below this number. Own.
abbrev pub index_limit : ℕ
index_limit = 2 ^ 32
