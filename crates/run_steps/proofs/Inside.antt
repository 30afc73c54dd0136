-- States whose segments are there: the next ones, and all states of a run.
use Rattle.std.proofs.Common.{◌≡◌, ℕ, ◌<◌, List, [], ◌∷◌, length, zip, Some, Ok, IfOk}
use Rattle.std.specs.Prelude.{All}
use Rattle.std.specs.List.{AllByRecursion}
use Rattle.std.proofs.lemmas.List.Elements.{All-from_recursion, recursion_from_All}
use Rattle.std.proofs.lemmas.Result.{IfOk-at_ok}
use Rattle.segments.specs.declared.RelState.{RelState}
use Rattle.segments.specs.declared.Value.{Value}
use Rattle.segments.specs.Memory.{RunMemory, IsMemory, cell}
use Rattle.casm_word.specs.declared.Flags.{Flags}
use Rattle.run_steps.specs.declared.cause.StepCause.TheVariants.{CallPc, CallFp, NotEqual}
use Rattle.run_steps.specs.Causes.{demand, known}
use Rattle.run_steps.specs.Operands.{instruction_in, dst_place, op0_place, op1_place, res_of}
use Rattle.run_steps.specs.Next.{has_return_pc, has_caller_fp, meets_assertion, next_pc, next_ap, next_fp, next_by, next_in}
use Rattle.run_steps.specs.ValueRun.{ValueRun, InSegments}
use Rattle.run_steps.proofs.Chains.{then_ok, then_any, known-ok}
use Rattle.run_steps.proofs.Lying.{Lies, cell-lies, res-lies, next_pc-inside, next_ap-inside, next_fp-in_segment}

next_by-in_segments : (count : ℕ) (f : Flags) (s : RelState) (dst op0 op1 : Value) → InSegments count s → Lies count dst → Lies count op0 → Lies count op1 → IfOk (next_by f s dst op0 op1) (InSegments count)
unfolding next_by
next_by-in_segments count f s dst op0 op1 is d h k =
    then_ok (Lies count) (InSegments count) (res_of f op0 op1) _ (res-lies count f op0 op1 h k) (λ res _ r.
    then_any (InSegments count) (demand CallPc (has_return_pc f s op0)) _ (λ _ _.
    then_any (InSegments count) (demand CallFp (has_caller_fp f s dst)) _ (λ _ _.
    then_any (InSegments count) (demand NotEqual (meets_assertion f dst res)) _ (λ _ _.
    then_ok (λ p. p.seg < count) (InSegments count) (next_pc f s dst op1 res) _ (next_pc-inside count f s dst op1 res is.pc k r) (λ pc _ pc_in.
    then_ok (λ p. p.seg < count) (InSegments count) (next_ap f s res) _ (next_ap-inside count f s res is.ap r) (λ ap _ ap_in.
    then_ok (λ p. p.seg < count) (InSegments count) (next_fp f s dst) _ (next_fp-in_segment count f s dst is.ap is.fp d) (λ fp _ fp_in.
    record { pc = pc_in; ap = ap_in; fp = fp_in })))))))

next_in-in_segments : (m : RunMemory) (s : RelState) → IsMemory m → InSegments (length m.sizes) s → IfOk (next_in m s) (InSegments (length m.sizes))
unfolding next_in
next_in-in_segments m s is inside =
    let count : ℕ = length m.sizes in
    then_any (InSegments count) (instruction_in (cell m s.pc)) _ (λ w _.
    then_any (InSegments count) (dst_place w s) _ (λ dst_at _.
    then_ok (Lies count) (InSegments count) (known dst_at (cell m dst_at)) _ (known-ok (Lies count) dst_at (cell m dst_at) (cell-lies m dst_at is)) (λ dst _ d.
    then_any (InSegments count) (op0_place w s) _ (λ op0_at _.
    then_ok (Lies count) (InSegments count) (known op0_at (cell m op0_at)) _ (known-ok (Lies count) op0_at (cell m op0_at) (cell-lies m op0_at is)) (λ op0 _ h.
    then_any (InSegments count) (op1_place w s op0_at (Some op0)) _ (λ op1_at _.
    then_ok (Lies count) (InSegments count) (known op1_at (cell m op1_at)) _ (known-ok (Lies count) op1_at (cell m op1_at) (cell-lies m op1_at is)) (λ op1 _ k.
    next_by-in_segments count w.flags s dst op0 op1 inside d h k)))))))

pub next_in_segments : (m : RunMemory) (s t : RelState) → IsMemory m → InSegments (length m.sizes) s → next_in m s ≡ Ok t → InSegments (length m.sizes) t
next_in_segments m s t is inside e = IfOk-at_ok (InSegments (length m.sizes)) e (next_in-in_segments m s is inside)

all_inside : (m : RunMemory) (s : RelState) (rest : List RelState) → IsMemory m → InSegments (length m.sizes) s → AllByRecursion (λ pair. next_in m pair.0 ≡ Ok pair.1) (zip (s ∷ rest) rest) → AllByRecursion (InSegments (length m.sizes)) (s ∷ rest)
all_inside m s [] is inside each = (inside, tt)
all_inside m s (t ∷ rest) is inside each = (inside, all_inside m t rest is (next_in_segments m s t is inside each.0) each.1)

pub run_inside : (m : RunMemory) (s : RelState) (rest : List RelState) → IsMemory m → ValueRun m (s ∷ rest) → InSegments (length m.sizes) s → All (InSegments (length m.sizes)) (s ∷ rest)
run_inside m s rest is run inside =
    let each = recursion_from_All (λ (pair : RelState × RelState). next_in m pair.0 ≡ Ok pair.1) (zip (s ∷ rest) rest) run.each_next in
    All-from_recursion (InSegments (length m.sizes)) (s ∷ rest) (all_inside m s rest is inside each)
