-- How much of the builtins' segments a run has used.
use Rattle.std.specs.Prelude.{ℕ, ◌≤◌, Option, Some, None}
use Rattle.segments.specs.Memory.{RunMemory, size}
use Rattle.program_file.specs.declared.Builtins.{Builtins}
use Rattle.builtin_segments.specs.declared.layout.Stops.{Stops}
use Rattle.builtin_segments.specs.Layout.{layout_of}

-- So many cells of a segment are used, and it has as many; or there is neither the segment nor a number. Own.
abbrev pub IsUsed : RunMemory → Option ℕ → Option ℕ → Type 0
IsUsed m None None = Unit {0}
IsUsed m None (Some used) = ⊥
IsUsed m (Some seg) None = ⊥
IsUsed m (Some seg) (Some used) = used ≤ size m seg

-- There is a number for exactly these builtins, and none is above the size of its builtin's segment. Own.
pub record AreUsed (m : RunMemory) (b : Builtins) (stops : Stops) : Type 0 where
  pub output : IsUsed m (layout_of b).output stops.output
  pub range : IsUsed m (layout_of b).range stops.range
