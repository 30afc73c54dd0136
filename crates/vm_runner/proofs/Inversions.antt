-- What a result that came about says of its parts.
use Rattle.std.proofs.Common.{◌≡◌, ◌⊎◌, inl, inr, ℕ, Bool, true, false, cond, List, ◌++◌, Result, Ok, Err, refl}
use Rattle.segments.specs.declared.RelState.{RelState}
use Rattle.segments.specs.Memory.{RunMemory}
use Rattle.builtin_segments.specs.declared.cells.CellCause.{CellCause}
use Rattle.run_steps.specs.declared.cause.StepCause.{StepCause}
use Rattle.run_steps.proofs.Shapes.{same_ok}
use Rattle.vm_runner.specs.declared.fault.RunFault.{RunFault}
use Rattle.vm_runner.specs.Run.{Ran, as_hint, as_step, after}

-- a test holds and leads to the one, or else to the other
pub by_test : {X : Type 0} (test : Bool) (x y z : X) → cond test x y ≡ z → ((test ≡ true) × (x ≡ z)) ⊎ ((test ≡ false) × (y ≡ z))
by_test true x y z e = inl (refl, e)
by_test false x y z e = inr (refl, e)

pub as_hint-ok : (i : ℕ) (x : Result RunMemory CellCause) (n : RunMemory) → as_hint i x ≡ Ok n → x ≡ Ok n
unfolding as_hint
as_hint-ok i (Ok m) n e = cc
as_hint-ok i (Err cause) n e = absurd (cc)

pub as_step-ok : (i : ℕ) (x : Result (RunMemory × RelState) StepCause) (made : RunMemory × RelState) → as_step i x ≡ Ok made → x ≡ Ok made
unfolding as_step
as_step-ok i (Ok other) made e = cc
as_step-ok i (Err cause) made e = absurd (cc)

-- a run with states before it comes of one without them
pub after-ok : (before : List RelState) (x : Result Ran RunFault) (r : Ran) → after before x ≡ Ok r → (q : Ran) × (x ≡ Ok q) × (◌≡◌ {A = Ran} (record { memory = q.memory; states = before ++ q.states; stops = q.stops }) r)
unfolding after
after-ok before (Ok q) r e = (q, refl, same_ok _ r e)
after-ok before (Err fault) r e = absurd (cc)
