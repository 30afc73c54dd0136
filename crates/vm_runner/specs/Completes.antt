-- What a run that came to its end keeps, of what it began with and of what it leaves.
use Rattle.std.specs.Prelude.{◌≡◌, ◌+◌, ◌-◌, ◌≤◌, List, length, slice_get, option_map, All, Option, Some}
use Rattle.segments.specs.declared.Place.{Place}
use Rattle.segments.specs.declared.RelState.{RelState}
use Rattle.segments.specs.Values.{place}
use Rattle.segments.specs.Memory.{IsMemory, Grows, cell, size}
use Rattle.program_file.specs.Listing.{Listing}
use Rattle.public_input.specs.Limits.{step_limit}
use Rattle.hint_cells.specs.HintList.{HintList}
use Rattle.builtin_segments.specs.Layout.{builtin_count, no_stops}
use Rattle.builtin_segments.specs.Start.{start_memory, first_state}
use Rattle.run_steps.specs.ValueRun.{ValueRun, InSegments}
use Rattle.vm_runner.specs.declared.Completed.{Completed}
use Rattle.vm_runner.specs.Run.{Ran}

-- What the code's run leaves. Own.
abbrev pub ran : Completed → Ran
ran c = record { memory = c.memory; states = c.states.items; stops = c.stops }

-- The pc of the last state. Own.
unfoldable pub last_pc : List RelState → Option Place
last_pc states = option_map (λ s. s.pc) (slice_get states (length states - 1))

-- The run of a program with these hints, as it is at its end. The program names no builtin. The states are a run in the
-- memory, from the first state to one in which the program ends, and no longer than the limit. The memory has grown from
-- the one at the start: the program kept its size, and each hint is held. The places of all states lie in segments that
-- are there. Own.
pub record Completes (p : Listing) (h : HintList) (r : Ran) : Type 0 where
  pub no_builtins : builtin_count p.builtins ≡ 0
  pub memory : IsMemory r.memory
  pub run : ValueRun r.memory r.states
  pub few_states : length r.states ≤ step_limit + 1
  pub first : slice_get r.states 0 ≡ Some (first_state p)
  pub last : last_pc r.states ≡ Some (place 0 p.end)
  pub started : Grows (start_memory p h.extra) r.memory
  pub program_size : size r.memory 0 ≡ length p.words
  pub hints : All (λ c. cell r.memory c.place ≡ Some c.value) h.cells
  pub inside : All (InSegments (length r.memory.sizes)) r.states
  pub stops : r.stops ≡ no_stops
