-- What a run that came to its end keeps.
use Rattle.std.proofs.Common.{◌≡◌, ◌≢◌, ℕ, ◌<◌, ◌≤◌, false, nat_eq, not, List, [], ◌∷◌, length, drop, zip, Some, Ok, Err, inl, inr, sym, ap, ◌∙◌, subst, arith}
use Rattle.std.specs.Prelude.{All, slice_get}
use Rattle.std.specs.List.{AllByRecursion}
use Rattle.std.proofs.lemmas.Bool.Decides.{nat_tests}
use Rattle.std.proofs.lemmas.List.Elements.{All-from_recursion, recursion_from_All}
use Rattle.segments.specs.declared.Place.{Place}
use Rattle.segments.specs.declared.RelState.{RelState}
use Rattle.segments.specs.Values.{place}
use Rattle.segments.specs.Memory.{RunMemory, IsMemory, Grows, cell}
use Rattle.segments.proofs.Memories.{Grows-trans}
use Rattle.program_file.specs.Listing.{Listing, IsProgram}
use Rattle.public_input.specs.Limits.{step_limit}
use Rattle.hint_cells.specs.declared.HintCell.{HintCell}
use Rattle.hint_cells.specs.Limits.{extra_limit}
use Rattle.hint_cells.specs.Fits.{FitsPlaces}
use Rattle.hint_cells.specs.HintList.{HintList, AreHints}
use Rattle.builtin_segments.specs.Layout.{builtin_count}
use Rattle.builtin_segments.specs.Rules.{Rules, rules_of}
use Rattle.builtin_segments.specs.Start.{start_memory, first_state}
use Rattle.builtin_segments.proofs.StartMemory.{start-memory, start-count, start-size0}
use Rattle.run_steps.specs.Causes.{◌>>=◌}
use Rattle.run_steps.specs.Next.{next_in}
use Rattle.run_steps.specs.ValueRun.{ValueRun, InSegments}
use Rattle.vm_runner.specs.declared.fault.RunFault.TheVariants.{Builtins, NoSteps}
use Rattle.vm_runner.specs.Run.{Ran, same_place, is_end, hinted, run_from, run_in, run_of}
use Rattle.vm_runner.specs.Completes.{last_pc, Completes}
use Rattle.run_steps.proofs.Shapes.{bound}
use Rattle.run_steps.proofs.StepStands.{Stands, run_inside}
use Rattle.vm_runner.proofs.Inversions.{by_test}
use Rattle.vm_runner.proofs.Placing.{AddsHints, hinted-adds}
use Rattle.vm_runner.proofs.Leaving.{Leaves, leaves}

-- the parts of a run that came to its end
record Parts (rules : Rules) (p : Listing) (h : HintList) (r : Ran) : Type 0 where
  pub no_builtins : builtin_count p.builtins ≡ 0
  pub hinted_memory : RunMemory
  pub hints_placed : hinted rules 0 h.cells (start_memory p h.extra) ≡ Ok hinted_memory
  pub apart : nat_eq p.start p.end ≡ false
  pub steps_made : run_from rules p step_limit 0 hinted_memory (first_state p) ≡ Ok r

no_count : (n : ℕ) → not (nat_eq n 0) ≡ false → n ≡ 0
no_count n e = grind (arith, nat_tests)

in_parts : (rules : Rules) (p : Listing) (h : HintList) (r : Ran) → run_of rules p h ≡ Ok r → Parts rules p h r
unfolding run_of run_in
in_parts rules p h r e =
    let go_on : RunMemory → _ = λ m. run_in rules p m in
    let run = hinted rules 0 h.cells (start_memory p h.extra) >>= go_on in
    elim (by_test (not (nat_eq (builtin_count p.builtins) 0)) (Err Builtins) run (Ok r) e) [
      | inl builtins ↦ absurd (let refused = builtins.1 in cc)
      | inr none ↦
          let placed = bound (hinted rules 0 h.cells (start_memory p h.extra)) go_on r none.1 in
          elim (by_test (nat_eq p.start p.end) (Err NoSteps) (run_from rules p step_limit 0 placed.0 (first_state p)) (Ok r) placed.2) [
            | inl same ↦ absurd (let refused = same.1 in cc)
            | inr apart ↦ record {
              no_builtins = no_count (builtin_count p.builtins) none.0;
              hinted_memory = placed.0;
              hints_placed = placed.1;
              apart = apart.0;
              steps_made = apart.1;
            }
          ]
    ]

-- a program that starts elsewhere isn't at its end in its first state
not_at_end : (p : Listing) → nat_eq p.start p.end ≡ false → is_end p (first_state p) ≡ false
unfolding is_end same_place first_state
not_at_end p apart = grind (arith, nat_tests)

first-stands : (p : Listing) (count : ℕ) → 1 < count → Stands count (first_state p)
unfolding first_state
first-stands p count more = record { pc = omega arith; ap = omega arith; fp = (omega arith, omega arith) }

-- what is held stays held
held_later : (hints : List HintCell) (m n : RunMemory) → Grows m n → AllByRecursion (λ c. cell m c.place ≡ Some c.value) hints → AllByRecursion (λ c. cell n c.place ≡ Some c.value) hints
held_later [] m n grows held = tt
held_later (hint ∷ hints) m n grows held = (grows.cells hint.place hint.value held.0, held_later hints m n grows held.1)

value_run : (m : RunMemory) (s : RelState) (rest : List RelState) → 1 ≤ length rest → AllByRecursion (λ pair. next_in m pair.0 ≡ Ok pair.1) (zip (s ∷ rest) rest) → ValueRun m (s ∷ rest)
value_run m s rest some each = record {
  has_step = omega arith;
  each_next = All-from_recursion (λ (pair : RelState × RelState). next_in m pair.0 ≡ Ok pair.1) (zip (s ∷ rest) rest) each;
}

module _ (rules : Rules) (p : Listing) (h : HintList) (r : Ran) (program : IsProgram p) (few : h.extra ≤ extra_limit) (e : run_of rules p h ≡ Ok r) where
  -- with a last memory that is one
  pub completes_in : IsMemory r.memory → Completes p h r
  completes_in is =
      let parts : Parts rules p h r = in_parts rules p h r e in
      let m : RunMemory = parts.hinted_memory in
      let s : RelState = first_state p in
      let adds : AddsHints (start_memory p h.extra) h.cells m = hinted-adds rules 0 h.cells (start_memory p h.extra) m parts.hints_placed in
      let l : Leaves p step_limit m s r = leaves rules p step_limit 0 m s r parts.steps_made in
      let run : ValueRun r.memory (s ∷ l.rest) = value_run r.memory s l.rest (l.moves (not_at_end p parts.apart)) l.each_next in
      let started : Grows (start_memory p h.extra) r.memory = Grows-trans (start_memory p h.extra) m r.memory adds.grows l.grows in
      let stands : Stands (length r.memory.sizes) s = first-stands p (length r.memory.sizes) (omega (arith, start-count p h.extra program few, started.segments)) in
      let held = held_later h.cells m r.memory l.grows adds.held in
      let same : s ∷ l.rest ≡ r.states = sym l.states in
      record {
        no_builtins = parts.no_builtins;
        memory = is;
        run = subst (λ (states : List RelState). ValueRun r.memory states) same run;
        few_states = omega (arith, ap length l.states, l.few);
        first = ap (λ states. slice_get states 0) l.states;
        last = ap last_pc l.states ∙ l.last;
        started = started;
        program_size = l.program_size ∙ (adds.program_size ∙ start-size0 p h.extra program few);
        hints = All-from_recursion (λ (c : HintCell). cell r.memory c.place ≡ Some c.value) h.cells held;
        inside = subst (λ (states : List RelState). All (InSegments (length r.memory.sizes)) states) same (run_inside r.memory s l.rest is run stands);
        stops = l.stops;
      }

  kept_memory : AllByRecursion FitsPlaces h.cells → IsMemory r.memory
  kept_memory fit =
      let parts : Parts rules p h r = in_parts rules p h r e in
      let m : RunMemory = parts.hinted_memory in
      let adds : AddsHints (start_memory p h.extra) h.cells m = hinted-adds rules 0 h.cells (start_memory p h.extra) m parts.hints_placed in
      let is : IsMemory m = adds.memory (start-memory p h.extra program few) fit in
      let l : Leaves p step_limit m (first_state p) r = leaves rules p step_limit 0 m (first_state p) r parts.steps_made in
      l.memory is (first-stands p (length m.sizes) (omega (arith, start-count p h.extra program few, adds.grows.segments)))

pub completes : (p : Listing) (h : HintList) (r : Ran) → IsProgram p → AreHints h → run_of (rules_of p.builtins) p h ≡ Ok r → Completes p h r
completes p h r program hints e =
    completes_in (rules_of p.builtins) p h r program hints.few_extra e
    (kept_memory (rules_of p.builtins) p h r program hints.few_extra e (recursion_from_All FitsPlaces h.cells hints.fit))

-- ---- the end

elsewhere : (p : Listing) (s : RelState) → is_end p s ≡ false → s.pc ≢ place 0 p.end
unfolding is_end same_place
elsewhere p s not_end at =
    let same_seg : s.pc.seg ≡ 0 = ap (λ (a : Place). a.seg) at in
    let same_off : s.pc.off ≡ p.end = ap (λ (a : Place). a.off) at in
    absurd (grind (arith, nat_tests))

all_elsewhere : (p : Listing) (pairs : List (RelState × RelState)) → AllByRecursion (λ pair. is_end p pair.0 ≡ false) pairs → AllByRecursion (λ pair. pair.0.pc ≢ place 0 p.end) pairs
all_elsewhere p [] h = tt
all_elsewhere p (pair ∷ pairs) h = (elsewhere p pair.0 h.0, all_elsewhere p pairs h.1)

-- in no state before the last does the program end
pub first_end : (rules : Rules) (p : Listing) (h : HintList) (r : Ran) → run_of rules p h ≡ Ok r → All (λ pair. pair.0.pc ≢ place 0 p.end) (zip r.states (drop 1 r.states))
first_end rules p h r e =
    let parts : Parts rules p h r = in_parts rules p h r e in
    let s : RelState = first_state p in
    let l : Leaves p step_limit parts.hinted_memory s r = leaves rules p step_limit 0 parts.hinted_memory s r parts.steps_made in
    let Before : RelState × RelState → Type 0 = λ pair. pair.0.pc ≢ place 0 p.end in
    let early : All Before (zip (s ∷ l.rest) l.rest) = All-from_recursion Before (zip (s ∷ l.rest) l.rest) (all_elsewhere p (zip (s ∷ l.rest) l.rest) l.early) in
    subst (λ (states : List RelState). All Before (zip states (drop 1 states))) (sym l.states) early
