-- The first step that is refused, found from the front.
use Rattle.std.proofs.Common.{◌≡◌, ℕ, suc, ◌+◌, ◌<◌, ◌≤◌, true, false, cond, List, ◌∷◌, length, drop, get_or, map, Some, None, refl, sym, ap, ◌∙◌, arith, add-one, drop-cons}
use Rattle.std.proofs.Math.ListN.{get_or-map, drop_of_length-le}
use Rattle.std.proofs.lemmas.List.{length-map, get_or_read}
use Rattle.casm_word.specs.declared.State.{State}
use Rattle.casm_word.specs.Transition.{Memory, registers, Outcome, outcome}
use Rattle.casm_word.specs.Run.{steps, is_next, refused_from, first_refused}
use Rattle.casm_word.proofs.Runs.{length-steps, get_or-steps}

module _ (m : Memory) (states : List State) (i : ℕ) (d : State) (within : i + 1 < length states) (so_far : refused_from m i (drop i (steps (map registers states))) ≡ refused_from m 0 (steps (map registers states))) where
  -- the step at the index stands first in the rest
  step_here : drop i (steps (map registers states)) ≡ (registers (get_or states i d), registers (get_or states (i + 1) d)) ∷ drop (i + 1) (steps (map registers states))
  step_here =
      let all = map registers states in
      let count : length all ≡ length states = length-map states registers in
      let at : get_or (steps all) i (registers d, registers d) ≡ (registers (get_or states i d), registers (get_or states (i + 1) d)) =
      get_or-steps all i (registers d) (omega arith) ∙ rw (get_or-map registers states i d, get_or-map registers states (i + 1) d) refl in
      drop-cons (steps all) i (registers d, registers d) (omega (arith, length-steps all))
      ∙ ap (λ x. x ∷ drop (suc i) (steps all)) at
      ∙ ap (λ k. (registers (get_or states i d), registers (get_or states (i + 1) d)) ∷ drop k (steps all)) (sym (add-one i))

  step_now : refused_from m 0 (steps (map registers states)) ≡ cond (is_next (outcome m (registers (get_or states i d))) (registers (get_or states (i + 1) d))) (refused_from m (i + 1) (drop (i + 1) (steps (map registers states)))) (Some (i, outcome m (registers (get_or states i d))))
  step_now = sym so_far ∙ ap (refused_from m i) step_here

  pub first_refused-here : is_next (outcome m (registers (get_or states i d))) (registers (get_or states (i + 1) d)) ≡ false → first_refused m (map registers states) ≡ Some (i, outcome m (registers (get_or states i d)))
  unfolding first_refused
  first_refused-here other = step_now ∙ rw other refl

  pub first_refused-on : is_next (outcome m (registers (get_or states i d))) (registers (get_or states (i + 1) d)) ≡ true → refused_from m (i + 1) (drop (i + 1) (steps (map registers states))) ≡ refused_from m 0 (steps (map registers states))
  first_refused-on same = sym (step_now ∙ rw same refl)

-- no step is left
pub first_refused-end : (m : Memory) (states : List State) (i : ℕ) → length states ≤ i + 1 → refused_from m i (drop i (steps (map registers states))) ≡ refused_from m 0 (steps (map registers states)) → first_refused m (map registers states) ≡ None
unfolding first_refused
first_refused-end m states i past so_far =
    let count : length (map registers states) ≡ length states = length-map states registers in
    sym so_far ∙ ap (refused_from m i) (drop_of_length-le (steps (map registers states)) (omega (arith, length-steps (map registers states))))

-- the same of the two states that the code read, and of what the step between them came to
module _ (m : Memory) (states : List State) (i : ℕ) (before at : State) (found : Outcome) (within : i + 1 < length states) (before_is : before ≡ get_or states i before) (at_is : at ≡ get_or states (i + 1) at) (found_is : found ≡ outcome m (registers before)) (so_far : refused_from m i (drop i (steps (map registers states))) ≡ refused_from m 0 (steps (map registers states))) where
  read_to : get_or states (i + 1) before ≡ at
  read_to = sym (get_or_read states (i + 1) at within at_is before)

  read_step : is_next (outcome m (registers (get_or states i before))) (registers (get_or states (i + 1) before)) ≡ is_next found (registers at)
  read_step =
      ap (λ s. is_next (outcome m (registers s)) (registers (get_or states (i + 1) before))) (sym before_is)
      ∙ ap (λ s. is_next (outcome m (registers before)) (registers s)) read_to
      ∙ ap (λ o. is_next o (registers at)) (sym found_is)

  pub refused_here : is_next found (registers at) ≡ false → Some (i, found) ≡ first_refused m (map registers states)
  refused_here other =
      ap (λ o. Some (i, o)) (found_is ∙ ap (λ s. outcome m (registers s)) before_is)
      ∙ sym (first_refused-here m states i before within so_far (read_step ∙ other))

  pub refused_later : is_next found (registers at) ≡ true → refused_from m (i + 1) (drop (i + 1) (steps (map registers states))) ≡ refused_from m 0 (steps (map registers states))
  refused_later same = first_refused-on m states i before within so_far (read_step ∙ same)
