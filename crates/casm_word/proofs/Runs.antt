-- Laws of legal runs: the steps by their index, and that a run is determined by where it begins and how long it is.
use Rattle.std.proofs.Common.{◌≡◌, ℕ, ◌+◌, ◌-◌, ◌<◌, ◌≤◌, List, [], ◌∷◌, map, length, drop, get_or, Some, refl, sym, ◌∙◌, ap, arith, subst, length-drop, add_comm}
use Rattle.std.specs.Prelude.{slice_get}
use Rattle.std.specs.List.{AllByRecursion}
use Rattle.std.proofs.lemmas.List.Elements.{recursion_from_All, All-from_get_or, All-get_or}
use Rattle.std.proofs.lemmas.Grind.{get_or_after_one}
use Rattle.std.proofs.lemmas.Slice.Zip.{get_or-zip, length-zip}
use Rattle.std.proofs.Math.ListN.{get_or-map}
use Rattle.std.proofs.lemmas.List.{length-map}
use Rattle.casm_word.specs.declared.State.{State}
use Rattle.casm_word.specs.Transition.{Memory, Registers, registers, next}
use Rattle.casm_word.specs.Run.{steps, LegalRun}

-- the steps are one fewer than the states
pub length-steps : (states : List Registers) → length (steps states) ≡ length states - 1
length-steps states = omega (arith, length-zip states (drop 1 states), length-drop 1 states)

-- the step at an index is the state there with the one after it
pub get_or-steps : (states : List Registers) (k : ℕ) (d : Registers) → k + 1 < length states → get_or (steps states) k (d, d) ≡ (get_or states k d, get_or states (k + 1) d)
get_or-steps states k d h =
    get_or-zip states (drop 1 states) k (d, d) (omega arith) (omega (arith, length-drop 1 states))
    ∙ ap (λ t. (get_or states k d, t)) (get_or_after_one states k d ∙ ap (λ i. get_or states i d) (add_comm 1 k))

-- a run from its steps by their index
pub legal_run-from_steps : (m : Memory) (states : List Registers) (d : Registers) → 2 ≤ length states → ((k : ℕ) → k + 1 < length states → next m (get_or states k d) ≡ Some (get_or states (k + 1) d)) → LegalRun m states
legal_run-from_steps m states d two each = record {
  has_step = two;
  each_next =
      let P : Registers × Registers → Type 0 = λ step. next m step.0 ≡ Some step.1 in
      All-from_get_or P (steps states) (d, d) (λ k h.
      let inside : k + 1 < length states = omega (arith, length-steps states) in
      subst P (sym (get_or-steps states k d inside)) (each k inside));
}

-- the step of a run at an index
pub legal_run-step : (m : Memory) (states : List Registers) (d : Registers) (k : ℕ) → LegalRun m states → k + 1 < length states → next m (get_or states k d) ≡ Some (get_or states (k + 1) d)
legal_run-step m states d k run inside =
    let P : Registers × Registers → Type 0 = λ step. next m step.0 ≡ Some step.1 in
    subst P (get_or-steps states k d inside)
    (All-get_or P (steps states) k (d, d) (omega (arith, length-steps states)) run.each_next)

-- each pair is a step
abbrev AreSteps : Memory → List (Registers × Registers) → Type 0
AreSteps m pairs = AllByRecursion (λ step. next m step.0 ≡ Some step.1) pairs

-- two lists of states that follow from the same one
same_rest : (m : Memory) (x : Registers) (xs ys : List Registers) → AreSteps m (steps (x ∷ xs)) → AreSteps m (steps (x ∷ ys)) → length xs ≡ length ys → xs ≡ ys
same_rest m x [] [] h k e = refl
same_rest m x [] (b ∷ vs) h k e = absurd (omega arith)
same_rest m x (a ∷ us) [] h k e = absurd (omega arith)
same_rest m x (a ∷ us) (b ∷ vs) h k e =
    let first : Some b ≡ Some a = sym k.0 ∙ h.0 in
    let same : b ≡ a = cc in
    let k' : AreSteps m (steps (a ∷ vs)) = subst (λ (s : Registers). AreSteps m (steps (s ∷ vs))) same k.1 in
    let rest : us ≡ vs = same_rest m a us vs h.1 k' (omega arith) in
    cc

-- two runs of one length that begin in the same state are the same
pub legal_run-determined : (m : Memory) (xs ys : List Registers) → LegalRun m xs → LegalRun m ys → length xs ≡ length ys → slice_get xs 0 ≡ slice_get ys 0 → xs ≡ ys
legal_run-determined m [] ys h k e f = absurd (omega (arith, h.has_step))
legal_run-determined m (x ∷ xs) [] h k e f = absurd (omega (arith, k.has_step))
legal_run-determined m (x ∷ xs) (y ∷ ys) h k e f =
    let P : Registers × Registers → Type 0 = λ step. next m step.0 ≡ Some step.1 in
    let same : y ≡ x = cc in
    let left : AreSteps m (steps (x ∷ xs)) = recursion_from_All P (steps (x ∷ xs)) h.each_next in
    let right : AreSteps m (steps (y ∷ ys)) = recursion_from_All P (steps (y ∷ ys)) k.each_next in
    let moved : AreSteps m (steps (x ∷ ys)) = subst (λ (s : Registers). AreSteps m (steps (s ∷ ys))) same right in
    let rest : xs ≡ ys = same_rest m x xs ys left moved (omega arith) in
    cc

-- ---- the same of a list of states as the code has them
pub legal_run-from_states : (m : Memory) (states : List State) (d : State) → 2 ≤ length states → ((k : ℕ) → k + 1 < length states → next m (registers (get_or states k d)) ≡ Some (registers (get_or states (k + 1) d))) → LegalRun m (map registers states)
legal_run-from_states m states d two each =
    legal_run-from_steps m (map registers states) (registers d) (omega (arith, length-map states registers)) (λ k h.
    rw (get_or-map registers states k d, get_or-map registers states (k + 1) d) (each k (omega (arith, length-map states registers))))

pub legal_run-state : (m : Memory) (states : List State) (d : State) (k : ℕ) → LegalRun m (map registers states) → k + 1 < length states → next m (registers (get_or states k d)) ≡ Some (registers (get_or states (k + 1) d))
legal_run-state m states d k run inside =
    rw (get_or-map registers states k d, get_or-map registers states (k + 1) d) at
    (legal_run-step m (map registers states) (registers d) k run (omega (arith, length-map states registers)))
