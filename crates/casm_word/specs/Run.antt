-- A legal run: states each of which is the next of the one before it. "The whitepaper" is Cairo's, ePrint 2021/1063.
use Rattle.std.specs.Prelude.{◌≡◌, ◌≤◌, ℕ, ◌+◌, ◌==◌, ◌&&◌, Bool, false, List, [], ◌∷◌, length, drop, zip, All, Option, Some, None, if◌then◌else◌}
use Rattle.casm_word.specs.Transition.{Memory, Registers, next, Outcome, Next, NoCell, BadWord, CallPc, CallFp, NotEqual, outcome}

-- Each state with the one after it. Own.
abbrev pub steps : List Registers → List (Registers × Registers)
steps states = zip states (drop 1 states)

-- The states are a run of at least one step in the memory, and each step is the transition function's. The
-- whitepaper's machine with a read-only memory.
pub record LegalRun (m : Memory) (states : List Registers) : Type 0 where
  pub has_step : 2 ≤ length states
  pub each_next : All (λ step. next m step.0 ≡ Some step.1) (steps states)

-- ---- the first step that isn't the transition

-- Whether two states have the same registers. Own.
abbrev pub same_registers : Registers → Registers → Bool
same_registers s t = (s.pc == t.pc) && (s.ap == t.ap) && (s.fp == t.fp)

-- Whether what a step came to is this state. Own.
abbrev pub is_next : Outcome → Registers → Bool
is_next (Next s) t = same_registers s t
is_next (NoCell address) t = false
is_next (BadWord fault) t = false
is_next CallPc t = false
is_next CallFp t = false
is_next NotEqual t = false

-- The first of these steps, numbered from i on, that isn't the transition, with its number and what the
-- transition comes to in its place. Own.
abbrev pub refused_from : Memory → ℕ → List (Registers × Registers) → Option (ℕ × Outcome)
refused_from m i [] = None
refused_from m i (step ∷ rest) = if is_next (outcome m step.0) step.1 then refused_from m (i + 1) rest else Some (i, outcome m step.0)

-- The first step between the states that isn't the transition. Own.
unfoldable pub first_refused : Memory → List Registers → Option (ℕ × Outcome)
first_refused m states = refused_from m 0 (steps states)
