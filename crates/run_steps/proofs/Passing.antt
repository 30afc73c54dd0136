-- How a refusal is passed on through the parts of a step.
use Rattle.std.proofs.Common.{◌≡◌, ◌∙◌, sym, refl}
use Rattle.std.specs.Prelude.{Result, Ok, Err, OnOk, IsErrAnd}
use Rattle.segments.specs.declared.RelState.{RelState}
use Rattle.segments.specs.Memory.{RunMemory, cell}
use Rattle.builtin_segments.specs.Rules.{Rules}
use Rattle.run_steps.specs.declared.cause.StepCause.{StepCause}
use Rattle.run_steps.specs.declared.operands.Found.{Found}
use Rattle.run_steps.specs.Step.{placed, all_placed, found_operands, greater, step}

-- a fault that is handed on is the fault that was found
pub same-fault : {A F : Type 0} (result : Result A F) (found told : F) → IsErrAnd result (λ e. e ≡ found) → result ≡ Err told → found ≡ told
same-fault (Ok x) found told ended is = absurd ended
same-fault (Err e) found told ended is = let same : e ≡ told = cc in sym ended ∙ same

-- where op0 can't be placed, not all can
pub all_placed-op0 : (rules : Rules) (m : RunMemory) (found : Found) (cause : StepCause) → placed rules m found.at.op0 (cell m found.at.op0) found.op0 ≡ Err cause → all_placed rules m found ≡ Err cause
unfolding all_placed
all_placed-op0 rules m found cause refused = rw refused refl

-- where op0 is placed and op1 can't be, not all can
pub all_placed-op1 : (rules : Rules) (m first : RunMemory) (found : Found) (cause : StepCause) → placed rules m found.at.op0 (cell m found.at.op0) found.op0 ≡ Ok first → placed rules first found.at.op1 (cell m found.at.op1) found.op1 ≡ Err cause → all_placed rules m found ≡ Err cause
unfolding all_placed
all_placed-op1 rules m first found cause placed refused = rw (placed, refused) refl

-- where op0 and op1 are placed, dst decides
pub all_placed-dst : (rules : Rules) (m first second : RunMemory) (found : Found) (cause : StepCause) → placed rules m found.at.op0 (cell m found.at.op0) found.op0 ≡ Ok first → placed rules first found.at.op1 (cell m found.at.op1) found.op1 ≡ Ok second → placed rules second found.at.dst (cell m found.at.dst) found.dst ≡ Err cause → all_placed rules m found ≡ Err cause
unfolding all_placed
all_placed-dst rules m first second found cause op0_placed op1_placed refused = rw (op0_placed, op1_placed) refused

-- where the operands are found, their cells decide of the greater memory
pub greater-placed : (rules : Rules) (m : RunMemory) (s : RelState) (found : Found) (all : Result RunMemory StepCause) → found_operands m s ≡ Ok found → all_placed rules m found ≡ all → greater rules m s ≡ all
unfolding greater
greater-placed rules m s found all found_is placed = rw found_is placed

-- where the operands aren't found, there is no greater memory
pub greater-refused : (rules : Rules) (m : RunMemory) (s : RelState) (cause : StepCause) → found_operands m s ≡ Err cause → greater rules m s ≡ Err cause
unfolding greater
greater-refused rules m s cause refused = rw refused refl

-- what follows from what holds of an answer holds of it
pub on_ok : {A C : Type 0} (r : Result A C) (P Q : Type 0) → (P → Q) → OnOk r P → OnOk r Q
on_ok (Ok x) P Q f h = f h
on_ok (Err e) P Q f h = tt

-- where there is no greater memory, there is no step
pub step-not_greater : (rules : Rules) (m : RunMemory) (s : RelState) (cause : StepCause) → greater rules m s ≡ Err cause → step rules m s ≡ Err cause
unfolding step
step-not_greater rules m s cause refused = rw refused refl
