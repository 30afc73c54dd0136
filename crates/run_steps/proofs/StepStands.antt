-- States whose places lie in segments that are there, through a step and a whole run.
use Rattle.std.proofs.Common.{◌≡◌, ℕ, ◌^◌, ◌<◌, ◌≤◌, List, ◌∷◌, length, Option, Some, Result, Ok, IfOk, sym, subst, arith}
use Rattle.std.specs.Prelude.{All}
use Rattle.std.proofs.lemmas.Result.{IfOk-at_ok}
use Rattle.segments.specs.declared.RelState.{RelState}
use Rattle.segments.specs.declared.Value.{Value}
use Rattle.segments.specs.Memory.{RunMemory, IsMemory, cell, total_limit}
use Rattle.builtin_segments.specs.Rules.{Rules}
use Rattle.casm_word.specs.declared.Flags.{Flags}
use Rattle.run_steps.specs.declared.cause.StepCause.{StepCause}
use Rattle.run_steps.specs.declared.cause.StepCause.TheVariants.{CallPc, CallFp, NotEqual}
use Rattle.run_steps.specs.declared.operands.Places.{Places}
use Rattle.run_steps.specs.declared.operands.Found.{Found}
use Rattle.run_steps.specs.Causes.{demand, known}
use Rattle.run_steps.specs.Operands.{instruction_in, dst_place, op0_place, op1_place, res_of}
use Rattle.run_steps.specs.Next.{has_return_pc, has_caller_fp, meets_assertion, next_pc, next_ap, next_fp, next_by, next_in}
use Rattle.run_steps.specs.Cases.{places_by_cases, operands_by_cases, found_by_cases, called_op0, sought_op0, sought_op1, found_dst}
use Rattle.run_steps.specs.Step.{found_operands, step}
use Rattle.run_steps.specs.ValueRun.{ValueRun, InSegments}
use Rattle.run_steps.proofs.Chains.{then_ok, then_any, known-ok}
use Rattle.run_steps.proofs.Lying.{Inside, Lies, SomeLies, lies-offset, cell-lies, instruction-inside, res-lies, next_pc-inside, next_ap-inside, next_fp-inside, called_op0-lies, sought_op0-lies, sought_op1-lies, found_dst-lies}
use Rattle.run_steps.proofs.TableCases.{found-cases}
use Rattle.run_steps.proofs.StepParts.{Made, made}
use Rattle.run_steps.proofs.Inside as inside

-- a state whose places lie in so many segments, and that a pointer to its fp is one
pub record Stands (count : ℕ) (s : RelState) : Type 0 where
  pub pc : s.pc.seg < count
  pub ap : s.ap.seg < count
  pub fp : Inside count s.fp

pub stands-inside : (count : ℕ) (s : RelState) → Stands count s → InSegments count s
stands-inside count s is = record { pc = is.pc; ap = is.ap; fp = is.fp.0 }

pub stands_of_segments : (count : ℕ) (s : RelState) → InSegments count s → s.fp.off < 2 ^ 32 → Stands count s
stands_of_segments count s inside low = record { pc = inside.pc; ap = inside.ap; fp = (inside.fp, low) }

next_by-stands : (count : ℕ) (f : Flags) (s : RelState) (dst op0 op1 : Value) → Stands count s → Lies count dst → Lies count op0 → Lies count op1 → IfOk (next_by f s dst op0 op1) (Stands count)
unfolding next_by
next_by-stands count f s dst op0 op1 is d h k =
    then_ok (Lies count) (Stands count) (res_of f op0 op1) _ (res-lies count f op0 op1 h k) (λ res _ r.
    then_any (Stands count) (demand CallPc (has_return_pc f s op0)) _ (λ _ _.
    then_any (Stands count) (demand CallFp (has_caller_fp f s dst)) _ (λ _ _.
    then_any (Stands count) (demand NotEqual (meets_assertion f dst res)) _ (λ _ _.
    then_ok (λ p. p.seg < count) (Stands count) (next_pc f s dst op1 res) _ (next_pc-inside count f s dst op1 res is.pc k r) (λ pc _ pc_in.
    then_ok (λ p. p.seg < count) (Stands count) (next_ap f s res) _ (next_ap-inside count f s res is.ap r) (λ ap _ ap_in.
    then_ok (Inside count) (Stands count) (next_fp f s dst) _ (next_fp-inside count f s dst is.ap is.fp d) (λ fp _ fp_in.
    record { pc = pc_in; ap = ap_in; fp = fp_in })))))))

next_in-stands : (m : RunMemory) (s : RelState) → IsMemory m → Stands (length m.sizes) s → IfOk (next_in m s) (Stands (length m.sizes))
unfolding next_in
next_in-stands m s is stands =
    let count : ℕ = length m.sizes in
    then_any (Stands count) (instruction_in (cell m s.pc)) _ (λ w _.
    then_any (Stands count) (dst_place w s) _ (λ dst_at _.
    then_ok (Lies count) (Stands count) (known dst_at (cell m dst_at)) _ (known-ok (Lies count) dst_at (cell m dst_at) (cell-lies m dst_at is)) (λ dst _ d.
    then_any (Stands count) (op0_place w s) _ (λ op0_at _.
    then_ok (Lies count) (Stands count) (known op0_at (cell m op0_at)) _ (known-ok (Lies count) op0_at (cell m op0_at) (cell-lies m op0_at is)) (λ op0 _ h.
    then_any (Stands count) (op1_place w s op0_at (Some op0)) _ (λ op1_at _.
    then_ok (Lies count) (Stands count) (known op1_at (cell m op1_at)) _ (known-ok (Lies count) op1_at (cell m op1_at) (cell-lies m op1_at is)) (λ op1 _ k.
    next_by-stands count w.flags s dst op0 op1 stands d h k)))))))

-- ---- what is found out

pub record FoundLies (count : ℕ) (found : Found) : Type 0 where
  pub dst : Lies count found.dst
  pub op0 : Lies count found.op0
  pub op1 : Lies count found.op1

operands-lie : (count : ℕ) (f : Flags) (s : RelState) (at : Places) (dst op0 op1 : Option Value) → Stands count s → SomeLies count dst → SomeLies count op0 → SomeLies count op1 → IfOk (operands_by_cases f s at dst op0 op1) (FoundLies count)
unfolding operands_by_cases
operands-lie count f s at dst op0 op1 is d h k =
    then_ok (SomeLies count) (FoundLies count) (sought_op0 f dst op0 op1) _ (sought_op0-lies count f dst op0 op1 d h) (λ op0_sought _ h'.
    then_ok (SomeLies count) (FoundLies count) (sought_op1 f dst op0_sought op1) _ (sought_op1-lies count f dst op0_sought op1 d k) (λ op1_sought _ k'.
    then_ok (Lies count) (FoundLies count) (known at.op0 op0_sought) _ (known-ok (Lies count) at.op0 op0_sought h') (λ op0_found _ hf.
    then_ok (Lies count) (FoundLies count) (known at.op1 op1_sought) _ (known-ok (Lies count) at.op1 op1_sought k') (λ op1_found _ kf.
    then_ok (Lies count) (FoundLies count) (res_of f op0_found op1_found) _ (res-lies count f op0_found op1_found hf kf) (λ res _ r.
    then_ok (Lies count) (FoundLies count) (found_dst f s at.dst res dst) _ (found_dst-lies count f s at.dst res dst is.fp r d) (λ dst_found _ df.
    record { dst = df; op0 = hf; op1 = kf }))))))

cases-lie : (m : RunMemory) (s : RelState) → IsMemory m → Stands (length m.sizes) s → IfOk (found_by_cases m s) (FoundLies (length m.sizes))
unfolding found_by_cases
cases-lie m s is stands =
    let count : ℕ = length m.sizes in
    then_any (FoundLies count) (instruction_in (cell m s.pc)) _ (λ w e.
    let low : s.pc.off < total_limit = (instruction-inside m s.pc w is e).1 in
    then_any (FoundLies count) (places_by_cases m w s) _ (λ at _.
    operands-lie count w.flags s at (cell m at.dst) (called_op0 w.flags s (cell m at.op0)) (cell m at.op1) stands
    (cell-lies m at.dst is) (called_op0-lies count w.flags s (cell m at.op0) stands.pc low (cell-lies m at.op0 is)) (cell-lies m at.op1 is)))

found-lies : (m : RunMemory) (s : RelState) → IsMemory m → Stands (length m.sizes) s → IfOk (found_operands m s) (FoundLies (length m.sizes))
found-lies m s is stands = subst (λ (found : Result Found StepCause). IfOk found (FoundLies (length m.sizes))) (sym (found-cases m s)) (cases-lie m s is stands)

-- ---- a step

stands_later : (count later : ℕ) (s : RelState) → count ≤ later → Stands count s → Stands later s
stands_later count later s more is = record { pc = omega (arith, is.pc); ap = omega (arith, is.ap); fp = (omega (arith, is.fp.0), is.fp.1) }

pub step-stands : (rules : Rules) (m : RunMemory) (s : RelState) (n : RunMemory) (t : RelState) → IsMemory m → Stands (length m.sizes) s → step rules m s ≡ Ok (n, t) → IsMemory n × Stands (length n.sizes) t
step-stands rules m s n t is stands e =
    let parts : Made m s n t = made rules m s n t e in
    let count : ℕ = length m.sizes in
    let lies : FoundLies count parts.found = IfOk-at_ok (FoundLies count) parts.is_found (found-lies m s is stands) in
    let memory : IsMemory n = parts.memory is (lies-offset count parts.found.dst lies.dst) (lies-offset count parts.found.op0 lies.op0) (lies-offset count parts.found.op1 lies.op1) in
    let later : Stands (length n.sizes) s = stands_later count (length n.sizes) s parts.grows.segments stands in
    (memory, IfOk-at_ok (Stands (length n.sizes)) parts.next (next_in-stands n s memory later))

-- ---- a run

pub run_inside : (m : RunMemory) (s : RelState) (rest : List RelState) → IsMemory m → ValueRun m (s ∷ rest) → Stands (length m.sizes) s → All (InSegments (length m.sizes)) (s ∷ rest)
run_inside m s rest is run stands = inside.run_inside m s rest is run (stands-inside (length m.sizes) s stands)
