-- Which segment of a run is which: the program, the execution segment, one for each builtin, and the extra ones.
use Rattle.std.specs.Prelude.{ℕ, ◌+◌, List, Some, None, if◌then◌else◌}
use Rattle.std.specs.List.{range_with_len}
use Rattle.program_file.specs.declared.Builtins.{Builtins}
use Rattle.builtin_segments.specs.declared.layout.Layout.{Layout}
use Rattle.builtin_segments.specs.declared.layout.Stops.{Stops}

-- The execution segment, in which ap and fp begin. Own.
abbrev pub execution : ℕ
execution = 1

-- The offset in the execution segment at which ap and fp begin: before it lie the two cells that a call leaves. Own.
abbrev pub frame_offset : ℕ
frame_offset = 2

-- The segment of the first builtin; the program and the execution segment come before it. Own.
abbrev pub first_builtin : ℕ
first_builtin = 2

-- How many builtins are named. Own.
unfoldable pub builtin_count : Builtins → ℕ
builtin_count b = (if b.output then 1 else 0) + (if b.range then 1 else 0)

-- The segments of the builtins, in the order of the builtins. Own.
unfoldable pub builtin_segments : Builtins → List ℕ
builtin_segments b = range_with_len first_builtin (builtin_count b)

-- Where the segments of these builtins lie: output first, then the range checks, then the extra segments. Own.
unfoldable pub layout_of : Builtins → Layout
layout_of b = record {
  output = if b.output then Some first_builtin else None;
  range = if b.range then Some (if b.output then first_builtin + 1 else first_builtin) else None;
  first_extra = first_builtin + builtin_count b;
}

-- How much of each builtin's segment is used where there are no builtins. Own.
abbrev pub no_stops : Stops
no_stops = record { output = None; range = None }
