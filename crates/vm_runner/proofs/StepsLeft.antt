-- The steps that are left, as one after another is made.
use Rattle.std.proofs.Common.{◌≡◌, ℕ, zero, suc, ◌+◌, ◌-◌, ◌<◌, ◌≤◌, true, false, cond, List, [], ◌∷◌, ◌++◌, Result, Ok, Err, refl, sym, ap, ◌∙◌, arith, append_assoc}
use Rattle.segments.specs.declared.RelState.{RelState}
use Rattle.segments.specs.Memory.{RunMemory}
use Rattle.program_file.specs.Listing.{Listing}
use Rattle.builtin_segments.specs.Layout.{no_stops}
use Rattle.builtin_segments.specs.Rules.{Rules}
use Rattle.run_steps.specs.Causes.{◌>>=◌}
use Rattle.run_steps.specs.Step.{step}
use Rattle.vm_runner.specs.declared.fault.RunFault.{RunFault}
use Rattle.vm_runner.specs.declared.fault.RunFault.TheVariants.{StepLimit}
use Rattle.vm_runner.specs.Run.{Ran, as_step, is_end, after, ended, run_from}

pub after-none : (r : Result Ran RunFault) → after [] r ≡ r
unfolding after
after-none (Ok r) = refl
after-none (Err fault) = refl

after-after : (a b : List RelState) (r : Result Ran RunFault) → after a (after b r) ≡ after (a ++ b) r
unfolding after
after-after a b (Ok r) = let whole : a ++ (b ++ r.states) ≡ a ++ b ++ r.states = sym (append_assoc a b r.states) in λ i. Ok (record { memory = r.memory; states = whole i; stops = r.stops })
after-after a b (Err fault) = refl

module _ (rules : Rules) (p : Listing) (limit i : ℕ) (m : RunMemory) (s : RelState) (before : List RelState) where
  one_more : i < limit → limit - i ≡ suc (limit - (i + 1))
  one_more within = omega arith

  next_step : i < limit → is_end p s ≡ false → run_from rules p (limit - i) i m s ≡ after (s ∷ []) (as_step i (step rules m s) >>= λ made. run_from rules p (limit - (i + 1)) (i + 1) made.0 made.1)
  unfolding run_from
  next_step within not_end =
      ap (λ more. run_from rules p more i m s) (one_more within)
      ∙ ap (λ b. cond b (Ok (ended m s)) (after (s ∷ []) (as_step i (step rules m s) >>= λ made. run_from rules p (limit - (i + 1)) (i + 1) made.0 made.1))) not_end

  pub left-step : (n : RunMemory) (t : RelState) → i < limit → is_end p s ≡ false → step rules m s ≡ Ok (n, t) → after before (run_from rules p (limit - i) i m s) ≡ after (before ++ s ∷ []) (run_from rules p (limit - (i + 1)) (i + 1) n t)
  unfolding as_step
  left-step n t within not_end e =
      ap (after before) (next_step within not_end ∙ ap (λ r. after (s ∷ []) (as_step i r >>= λ made. run_from rules p (limit - (i + 1)) (i + 1) made.0 made.1)) e)
      ∙ after-after before (s ∷ []) (run_from rules p (limit - (i + 1)) (i + 1) n t)

  pub left-refused : (fault : RunFault) → i < limit → is_end p s ≡ false → as_step i (step rules m s) ≡ Err fault → after before (run_from rules p (limit - i) i m s) ≡ Err fault
  unfolding after
  left-refused fault within not_end e =
      ap (after before) (next_step within not_end ∙ ap (λ r. after (s ∷ []) (r >>= λ made. run_from rules p (limit - (i + 1)) (i + 1) made.0 made.1)) e)

  at_end : (more : ℕ) → is_end p s ≡ true → run_from rules p more i m s ≡ Ok (ended m s)
  unfolding run_from
  at_end zero is = ap (λ b. cond b (Ok (ended m s)) (Err StepLimit)) is
  at_end (suc more) is =
      ap (λ b. cond b (Ok (ended m s)) (after (s ∷ []) (as_step i (step rules m s) >>= λ made. run_from rules p more (i + 1) made.0 made.1))) is

  pub left-end : is_end p s ≡ true → after before (run_from rules p (limit - i) i m s) ≡ Ok (record { memory = m; states = before ++ s ∷ []; stops = no_stops })
  unfolding after ended
  left-end is = ap (after before) (at_end (limit - i) is)

  none_more : limit ≤ i → limit - i ≡ zero
  none_more over = omega arith

  pub left-over : limit ≤ i → is_end p s ≡ false → after before (run_from rules p (limit - i) i m s) ≡ Err StepLimit
  unfolding after run_from
  left-over over not_end =
      ap (after before) (ap (λ more. run_from rules p more i m s) (none_more over) ∙ ap (λ b. cond b (Ok (ended m s)) (Err StepLimit)) not_end)
