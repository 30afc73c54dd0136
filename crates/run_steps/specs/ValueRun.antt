-- Runs over values, and what they are once the segments are laid out.
use Rattle.std.specs.Prelude.{◌≡◌, ◌<◌, ◌≤◌, ℕ, List, length, drop, zip, All, Some, Ok}
use Rattle.casm_word.specs.Transition.{Memory, Registers}
use Rattle.segments.specs.declared.Place.{Place}
use Rattle.segments.specs.declared.RelState.{RelState}
use Rattle.segments.specs.declared.Value.{Value}
use Rattle.segments.specs.Memory.{RunMemory, cell}
use Rattle.segments.specs.Relocation.{address, relocated}
use Rattle.run_steps.specs.Next.{next_in}

-- The states are a run of at least one step in the memory of values, and each step is the transition function's. The
-- whitepaper's machine with a read-only memory, over values.
pub record ValueRun (m : RunMemory) (states : List RelState) : Type 0 where
  pub has_step : 2 ≤ length states
  pub each_next : All (λ step. next_in m step.0 ≡ Ok step.1) (zip states (drop 1 states))

-- The registers of a state, where the segments have these sizes: each is the address of its place. Own.
unfoldable pub registers_at : List ℕ → RelState → Registers
registers_at sizes s = record { pc = address sizes s.pc; ap = address sizes s.ap; fp = address sizes s.fp }

-- A memory of numbers holds each relocated cell of a memory of values. Own.
pub record HoldsRelocated (m : RunMemory) (c : Memory) : Type 0 where
  pub holds : (p : Place) (v : Value) → cell m p ≡ Some v → c (address m.sizes p) ≡ Some (relocated m.sizes v)

-- The segments of a state's three registers are there. Own.
pub record InSegments (count : ℕ) (s : RelState) : Type 0 where
  pub pc : s.pc.seg < count
  pub ap : s.ap.seg < count
  pub fp : s.fp.seg < count
