-- The first refused step, and what it says of the steps: none is refused exactly where each is the transition.
use Rattle.std.proofs.Common.{◌≡◌, ◌↔◌, ◌≢◌, ℕ, zero, suc, ◌+◌, ◌<◌, ◌≤◌, Bool, true, false, cond, List, [], ◌∷◌, length, take, get_or, Option, Some, None, refl, sym, ap, ◌∙◌, arith, inl, inr, ◌⊎◌, subst, slice_get}
use Rattle.std.specs.List.{AllByRecursion}
use Rattle.std.proofs.lemmas.Bool.{and_parts, and_from, eqb-true, eq-eqb, both_ways}
use Rattle.std.proofs.lemmas.List.Elements.{All-from_recursion, recursion_from_All}
use Rattle.casm_word.specs.Transition.{Memory, Registers, Outcome, Next, NoCell, BadWord, CallPc, CallFp, NotEqual, outcome, next}
use Rattle.casm_word.specs.Run.{steps, LegalRun, same_registers, is_next, refused_from, first_refused}
use Rattle.casm_word.proofs.Outcomes.{outcome-next}
use Rattle.casm_word.proofs.Runs.{length-steps, get_or-steps}

-- ---- no step is refused exactly where each is the transition

same_registers-true : (s t : Registers) → same_registers s t ≡ true → s ≡ t
same_registers-true s t same =
    let both = and_parts _ _ same in
    let front = and_parts _ _ both.0 in
    let pc = eqb-true s.pc t.pc front.0 in
    let ap_same = eqb-true s.ap t.ap front.1 in
    let fp = eqb-true s.fp t.fp both.1 in
    λ i. record { pc = pc i; ap = ap_same i; fp = fp i }

pub is_next-true : (o : Outcome) (t : Registers) → is_next o t ≡ true → o ≡ Next t
is_next-true (Next s) t same = ap Next (same_registers-true s t same)
is_next-true (NoCell _) t same = cc
is_next-true (BadWord _) t same = cc
is_next-true CallPc t same = cc
is_next-true CallFp t same = cc
is_next-true NotEqual t same = cc

pub is_next-same : (o : Outcome) (t : Registers) → o ≡ Next t → is_next o t ≡ true
is_next-same o t same =
    ap (λ x. is_next x t) same
    ∙ and_from _ _ (and_from _ _ (eq-eqb t.pc t.pc refl) (eq-eqb t.ap t.ap refl)) (eq-eqb t.fp t.fp refl)

abbrev pub AreNext : Memory → List (Registers × Registers) → Type 0
AreNext m pairs = AllByRecursion (λ step. next m step.0 ≡ Some step.1) pairs

kept_none : (b : Bool) (rest : Option (ℕ × Outcome)) (refused : ℕ × Outcome) → cond b rest (Some refused) ≡ None → (b ≡ true) × (rest ≡ None)
kept_none true rest refused none = (refl, none)
kept_none false rest refused none = cc

pub AreNext-from_none : (m : Memory) (i : ℕ) (pairs : List (Registers × Registers)) → refused_from m i pairs ≡ None → AreNext m pairs
AreNext-from_none m i [] none = tt
AreNext-from_none m i (step ∷ rest) none =
    let parts = kept_none (is_next (outcome m step.0) step.1) (refused_from m (i + 1) rest) (i, outcome m step.0) none in
    ((outcome-next m step.0 step.1).0 (is_next-true (outcome m step.0) step.1 parts.0), AreNext-from_none m (i + 1) rest parts.1)

pub none-from_AreNext : (m : Memory) (i : ℕ) (pairs : List (Registers × Registers)) → AreNext m pairs → refused_from m i pairs ≡ None
none-from_AreNext m i [] all = refl
none-from_AreNext m i (step ∷ rest) all =
    let here = is_next-same (outcome m step.0) step.1 ((outcome-next m step.0 step.1).1 all.0) in
    rw here (none-from_AreNext m (i + 1) rest all.1)

-- ---- the first step that isn't the transition

abbrev pub IsStep : Memory → Registers × Registers → Type 0
IsStep m step = next m step.0 ≡ Some step.1

-- a step of some, with the steps before it
pub record IsFirstRefused (m : Memory) (pairs : List (Registers × Registers)) (n : ℕ) (o : Outcome) : Type 0 where
  pub pair : Registers × Registers
  pub at : slice_get pairs n ≡ Some pair
  pub before : AllByRecursion (IsStep m) (take n pairs)
  pub refused : next m pair.0 ≢ Some pair.1
  pub cause : o ≡ outcome m pair.0

-- which way the test of one step went
chosen : (b : Bool) (rest : Option (ℕ × Outcome)) (here there : ℕ × Outcome) → cond b rest (Some here) ≡ Some there → ((b ≡ true) × (rest ≡ Some there)) ⊎ ((b ≡ false) × (here ≡ there))
chosen true rest here there e = inl (refl, e)
chosen false rest here there e = inr (refl, cc)

pub IsFirstRefused-from : (m : Memory) (i : ℕ) (pairs : List (Registers × Registers)) (k : ℕ) (o : Outcome) → refused_from m i pairs ≡ Some (k, o) → (n : ℕ) × (k ≡ i + n) × IsFirstRefused m pairs n o
IsFirstRefused-from m i [] k o e = cc
IsFirstRefused-from m i (step ∷ rest) k o e =
    elim (chosen (is_next (outcome m step.0) step.1) (refused_from m (i + 1) rest) (i, outcome m step.0) (k, o) e) [
      | inl later ↦
          let behind = IsFirstRefused-from m (i + 1) rest k o later.1 in (
            suc behind.0,
            omega (arith, behind.1),
            record {
              pair = behind.2.pair;
              at = behind.2.at;
              before = ((outcome-next m step.0 step.1).0 (is_next-true (outcome m step.0) step.1 later.0), behind.2.before);
              refused = behind.2.refused;
              cause = behind.2.cause;
            },
          )
      | inr now ↦
          let place : i ≡ k = ap (λ (p : ℕ × Outcome). p.0) now.1 in (
            zero,
            omega arith,
            record {
              pair = step;
              at = refl;
              before = tt;
              refused = λ goes. both_ways (is_next (outcome m step.0) step.1) now.0 (is_next-same (outcome m step.0) step.1 ((outcome-next m step.0 step.1).1 goes));
              cause = sym (ap (λ (p : ℕ × Outcome). p.1) now.1);
            },
          )
    ]

not_next : (b : Bool) → (b ≡ true → ⊥) → b ≡ false
not_next true never = absurd (never refl)
not_next false never = refl

pub refused_from-first : (m : Memory) (i : ℕ) (pairs : List (Registers × Registers)) (n : ℕ) (pair : Registers × Registers) → slice_get pairs n ≡ Some pair → AllByRecursion (IsStep m) (take n pairs) → next m pair.0 ≢ Some pair.1 → refused_from m i pairs ≡ Some (i + n, outcome m pair.0)
refused_from-first m i [] n pair at before refused = cc
refused_from-first m i (step ∷ rest) zero pair at before refused =
    let same : step ≡ pair = cc in
    let other : next m step.0 ≢ Some step.1 = subst (λ (p : Registers × Registers). next m p.0 ≢ Some p.1) (sym same) refused in
    let fails = not_next (is_next (outcome m step.0) step.1) (λ goes. other ((outcome-next m step.0 step.1).0 (is_next-true (outcome m step.0) step.1 goes))) in
    let place : i + zero ≡ i = omega arith in
    rw (fails, place) (ap (λ (p : Registers × Registers). Some (i, outcome m p.0)) same)
refused_from-first m i (step ∷ rest) (suc n) pair at before refused =
    let here = is_next-same (outcome m step.0) step.1 ((outcome-next m step.0 step.1).1 before.0) in
    let place : i + suc n ≡ i + 1 + n = omega arith in
    rw (here, place) (refused_from-first m (i + 1) rest n pair at before.1 refused)

-- ---- by places

pub first_refused-none : (m : Memory) (states : List Registers) → 2 ≤ length states → (first_refused m states ≡ None) ↔ LegalRun m states
unfolding first_refused
first_refused-none m states two = (
  (λ none. record {
    has_step = two;
    each_next = All-from_recursion (λ step. next m step.0 ≡ Some step.1) (steps states) (AreNext-from_none m 0 (steps states) none);
  }),
  (λ run. none-from_AreNext m 0 (steps states) (recursion_from_All (λ step. next m step.0 ≡ Some step.1) (steps states) run.each_next)),
)

-- the first of the steps that is refused, by its place among them
pub record IsRefused (m : Memory) (pairs : List (Registers × Registers)) (k : ℕ) (o : Outcome) (d : Registers × Registers) : Type 0 where
  pub within : k < length pairs
  pub is_outcome : o ≡ outcome m (get_or pairs k d).0
  pub refused : next m (get_or pairs k d).0 ≢ Some (get_or pairs k d).1
  pub before : (j : ℕ) → j < k → next m (get_or pairs j d).0 ≡ Some (get_or pairs j d).1

-- the steps before a place, with one more in front
before_more : (m : Memory) (step : Registers × Registers) (rest : List (Registers × Registers)) (n : ℕ) (d : Registers × Registers) → next m step.0 ≡ Some step.1 → ((j : ℕ) → j < n → next m (get_or rest j d).0 ≡ Some (get_or rest j d).1) → (j : ℕ) → j < suc n → next m (get_or (step ∷ rest) j d).0 ≡ Some (get_or (step ∷ rest) j d).1
before_more m step rest n d here behind zero lower = here
before_more m step rest n d here behind (suc j) lower = behind j (omega arith)

IsRefused-from : (m : Memory) (i : ℕ) (pairs : List (Registers × Registers)) (k : ℕ) (o : Outcome) (d : Registers × Registers) → refused_from m i pairs ≡ Some (k, o) → (n : ℕ) × (k ≡ i + n) × IsRefused m pairs n o d
IsRefused-from m i [] k o d e = cc
IsRefused-from m i (step ∷ rest) k o d e =
    elim (chosen (is_next (outcome m step.0) step.1) (refused_from m (i + 1) rest) (i, outcome m step.0) (k, o) e) [
      | inl later ↦
          let behind = IsRefused-from m (i + 1) rest k o d later.1 in
          let here : next m step.0 ≡ Some step.1 = (outcome-next m step.0 step.1).0 (is_next-true (outcome m step.0) step.1 later.0) in (
            suc behind.0,
            omega (arith, behind.1),
            record {
              within = omega (arith, behind.2.within);
              is_outcome = behind.2.is_outcome;
              refused = behind.2.refused;
              before = before_more m step rest behind.0 d here behind.2.before;
            },
          )
      | inr now ↦
          let place : i ≡ k = ap (λ (p : ℕ × Outcome). p.0) now.1 in (
            zero,
            omega arith,
            record {
              within = omega arith;
              is_outcome = sym (ap (λ (p : ℕ × Outcome). p.1) now.1);
              refused = λ goes. both_ways (is_next (outcome m step.0) step.1) now.0 (is_next-same (outcome m step.0) step.1 ((outcome-next m step.0 step.1).1 goes));
              before = λ j lower. absurd (omega arith);
            },
          )
    ]

module _ (m : Memory) (states : List Registers) (k : ℕ) (o : Outcome) (d : Registers) (refused : first_refused m states ≡ Some (k, o)) where
  is_refused : IsRefused m (steps states) k o (d, d)
  unfolding first_refused
  is_refused =
      let found = IsRefused-from m 0 (steps states) k o (d, d) refused in
      let place : found.0 ≡ k = omega (arith, found.1) in
      subst (λ n. IsRefused m (steps states) n o (d, d)) place found.2

  pub refused_within : k + 1 < length states
  refused_within = omega (arith, is_refused.within, length-steps states)

  pub refused_found : (o ≡ outcome m (get_or states k d)) × (next m (get_or states k d) ≢ Some (get_or states (k + 1) d))
  refused_found =
      let at = get_or-steps states k d refused_within in (
        is_refused.is_outcome ∙ ap (λ step. outcome m step.0) at,
        (λ goes. is_refused.refused (ap (λ step. next m step.0) at ∙ (goes ∙ sym (ap (λ step. Some step.1) at)))),
      )

  pub refused_first : (j : ℕ) → j < k → next m (get_or states j d) ≡ Some (get_or states (j + 1) d)
  refused_first j lower =
      let inside = refused_within in
      let at = get_or-steps states j d (omega arith) in
      sym (ap (λ step. next m step.0) at) ∙ (is_refused.before j lower ∙ ap (λ step. Some step.1) at)
