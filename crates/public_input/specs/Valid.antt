-- Which public inputs are valid.
use Rattle.std.specs.Prelude.{◌<◌, ◌≤◌, length}
use Rattle.std.specs.List.Sorted.{IsStrictlyIncreasing}
use Rattle.goldilocks.specs.Cells.{addresses}
use Rattle.public_input.specs.declared.Public.{Public}
use Rattle.public_input.specs.Limits.{step_limit, range_cell_limit, public_cell_limit, small_limit}
use Rattle.public_input.specs.Statement.{Statement, statement}

-- What is said lies within the limits. There is a step. The small values have 16 bits, and the least isn't above the
-- greatest. The address of each public cell is above the one before. The whitepaper's public input of a run; the
-- limits are own.
pub record KeepsLimits (s : Statement) : Type 0 where
  pub some_step : 1 ≤ s.steps
  pub most_steps : s.steps ≤ step_limit
  pub in_order : s.rc_min ≤ s.rc_max
  pub narrow : s.rc_max < small_limit
  pub most_range_cells : s.range_count ≤ range_cell_limit
  pub most_cells : length s.cells ≤ public_cell_limit
  pub ascending : IsStrictlyIncreasing (addresses s.cells)

-- The public input of the code is valid. Own.
abbrev pub IsValid : Public → Type 0
IsValid u = KeepsLimits (statement u)
