-- What a run from a state on leaves.
use Rattle.std.proofs.Common.{◌≡◌, ℕ, zero, suc, ◌+◌, ◌-◌, ◌≤◌, true, false, nat_eq, ◌&&◌, List, [], ◌∷◌, ◌++◌, length, zip, Some, Ok, Err, inl, inr, refl, ap, ◌∙◌, subst, arith}
use Rattle.std.specs.Prelude.{option_map, slice_get}
use Rattle.std.specs.List.{AllByRecursion}
use Rattle.std.proofs.lemmas.Bool.Decides.{nat_tests}
use Rattle.segments.specs.declared.Place.{Place}
use Rattle.segments.specs.declared.RelState.{RelState}
use Rattle.segments.specs.Values.{place}
use Rattle.segments.specs.Memory.{RunMemory, IsMemory, Grows, size}
use Rattle.segments.proofs.Memories.{Grows-refl, Grows-trans}
use Rattle.program_file.specs.Listing.{Listing}
use Rattle.builtin_segments.specs.Layout.{no_stops}
use Rattle.builtin_segments.specs.Rules.{Rules}
use Rattle.run_steps.specs.Causes.{◌>>=◌}
use Rattle.run_steps.specs.Next.{next_in}
use Rattle.run_steps.specs.Step.{step}
use Rattle.vm_runner.specs.declared.fault.RunFault.TheVariants.{StepLimit}
use Rattle.vm_runner.specs.Run.{Ran, same_place, is_end, as_step, after, ended, run_from}
use Rattle.vm_runner.specs.Completes.{last_pc}
use Rattle.run_steps.proofs.Shapes.{bound, same_ok}
use Rattle.run_steps.proofs.StepParts.{Made, made, next_later}
use Rattle.run_steps.proofs.StepStands.{Stands, step-stands}
use Rattle.vm_runner.proofs.Inversions.{by_test, as_step-ok, after-ok}

-- each state is followed by the next one of the transition
abbrev pub AreNext : RunMemory → RelState → List RelState → Type 0
AreNext m s rest = AllByRecursion (λ pair. next_in m pair.0 ≡ Ok pair.1) (zip (s ∷ rest) rest)

-- a run from a state on, of so many steps at most: the state is its first, and its last one is at the program's end
pub record Leaves (p : Listing) (more : ℕ) (m : RunMemory) (s : RelState) (r : Ran) : Type 0 where
  pub rest : List RelState
  pub states : r.states ≡ s ∷ rest
  pub few : length rest ≤ more
  pub moves : is_end p s ≡ false → 1 ≤ length rest
  pub grows : Grows m r.memory
  pub program_size : size r.memory 0 ≡ size m 0
  pub each_next : AreNext r.memory s rest
  pub early : AllByRecursion (λ pair. is_end p pair.0 ≡ false) (zip (s ∷ rest) rest)
  pub last : last_pc (s ∷ rest) ≡ Some (place 0 p.end)
  pub stops : r.stops ≡ no_stops
  pub memory : IsMemory m → Stands (length m.sizes) s → IsMemory r.memory

same_place-is : (a b : Place) → same_place a b ≡ true → a ≡ b
unfolding same_place
same_place-is a b e =
    let same : (nat_eq a.seg b.seg && nat_eq a.off b.off) ≡ true = e in
    let same_seg : a.seg ≡ b.seg = grind (arith, nat_tests) in
    let same_off : a.off ≡ b.off = grind (arith, nat_tests) in
    λ i. place (same_seg i) (same_off i)

last-one : (p : Listing) (s : RelState) → is_end p s ≡ true → last_pc (s ∷ []) ≡ Some (place 0 p.end)
unfolding last_pc is_end
last-one p s e = ap (λ a. Some a) (same_place-is s.pc (place 0 p.end) e)

last-more : (s t : RelState) (rest : List RelState) → last_pc (s ∷ t ∷ rest) ≡ last_pc (t ∷ rest)
unfolding last_pc
last-more s t rest =
    let one_on : length (s ∷ t ∷ rest) - 1 ≡ suc (length (t ∷ rest) - 1) = omega arith in
    ap (λ k. option_map (λ state. state.pc) (slice_get (s ∷ t ∷ rest) k)) one_on

leaves-end : (p : Listing) (more : ℕ) (m : RunMemory) (s : RelState) (r : Ran) → is_end p s ≡ true → ended m s ≡ r → Leaves p more m s r
unfolding ended
leaves-end p more m s r is e =
    subst (λ (q : Ran). Leaves p more m s q) e (record {
      rest = [];
      states = refl;
      few = omega arith;
      moves = λ no. absurd (cc);
      grows = Grows-refl m;
      program_size = refl;
      each_next = tt;
      early = tt;
      last = last-one p s is;
      stops = refl;
      memory = λ is _. is;
    })

module _ (rules : Rules) (p : Listing) where
  leaves-step : (more : ℕ) (m : RunMemory) (s : RelState) (n : RunMemory) (t : RelState) (q r : Ran) → is_end p s ≡ false → step rules m s ≡ Ok (n, t) → Leaves p more n t q → ◌≡◌ {A = Ran} (record { memory = q.memory; states = s ∷ [] ++ q.states; stops = q.stops }) r → Leaves p (suc more) m s r
  leaves-step more m s n t q r not_end step_made l e =
      let parts : Made m s n t = made rules m s n t step_made in
      subst (λ (k : Ran). Leaves p (suc more) m s k) e (record {
        rest = t ∷ l.rest;
        states = ap (λ states. s ∷ states) l.states;
        few = omega (arith, l.few);
        moves = λ _. omega arith;
        grows = Grows-trans m n q.memory parts.grows l.grows;
        program_size = l.program_size ∙ parts.program_size;
        each_next = (next_later n q.memory s t l.grows parts.next, l.each_next);
        early = (not_end, l.early);
        last = last-more s t l.rest ∙ l.last;
        stops = l.stops;
        memory = λ is stands. let kept = step-stands rules m s n t is stands step_made in l.memory kept.0 kept.1;
      })

  pub leaves : (more i : ℕ) (m : RunMemory) (s : RelState) (r : Ran) → run_from rules p more i m s ≡ Ok r → Leaves p more m s r
  unfolding run_from
  leaves zero i m s r e =
      elim (by_test (is_end p s) (Ok (ended m s)) (Err StepLimit) (Ok r) e) [
        | inl at ↦ leaves-end p zero m s r at.0 (same_ok (ended m s) r at.1)
        | inr over ↦ absurd (let refused = over.1 in cc)
      ]
  leaves (suc more) i m s r e =
      let go_on : RunMemory × RelState → _ = λ made. run_from rules p more (i + 1) made.0 made.1 in
      let rest = as_step i (step rules m s) >>= go_on in
      elim (by_test (is_end p s) (Ok (ended m s)) (after (s ∷ []) rest) (Ok r) e) [
        | inl at ↦ leaves-end p (suc more) m s r at.0 (same_ok (ended m s) r at.1)
        | inr on ↦
            let later = after-ok (s ∷ []) rest r on.1 in
            let one = bound (as_step i (step rules m s)) go_on later.0 later.1 in
            leaves-step more m s one.0.0 one.0.1 later.0 r on.0 (as_step-ok i (step rules m s) one.0 one.1)
            (leaves more (i + 1) one.0.0 one.0.1 later.0 one.2) later.2
      ]
