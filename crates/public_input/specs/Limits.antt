-- How long a public file may be, and the limits of what it says.
use Rattle.std.specs.Prelude.{ℕ, ◌^◌}

-- The most bytes of a public file. Own.
abbrev pub public_limit : ℕ
public_limit = 2 ^ 25

-- The most steps. Own.
abbrev pub step_limit : ℕ
step_limit = 2 ^ 20

-- The most range cells. Own.
abbrev pub range_cell_limit : ℕ
range_cell_limit = 2 ^ 18

-- The most public cells. Own.
abbrev pub public_cell_limit : ℕ
public_cell_limit = 2 ^ 18

-- The small values are below this number. Own.
abbrev pub small_limit : ℕ
small_limit = 2 ^ 16
