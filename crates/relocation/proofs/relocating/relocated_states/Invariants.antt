use Rattle.std.proofs.Common.{◌≡◌, ℕ, List, map, take}
use Rattle.casm_word.specs.Transition.{registers}
use Rattle.segments.specs.Relocation.{segment_bases}
use Rattle.run_steps.specs.ValueRun.{registers_at}
use Rattle.relocation.proofs.relocating.relocated_states.Given as goal

abbrev pub invariant-loop-state : goal.invariant-loop-state
invariant-loop-state l =
    (sizes : List ℕ) → l.bases ≡ segment_bases sizes → map registers l.list.items ≡ map (registers_at sizes) (take l.state-index l.states)
