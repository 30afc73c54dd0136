-- What the table of deduction gives for each operand is what its cases give.
use Rattle.std.proofs.Common.{◌≡◌, Bool, true, false, cond, not, ◌&&◌, ◌||◌, Option, Some, None, Result, Ok, Err, refl, sym, ap, ◌∙◌}
use Rattle.casm_word.specs.declared.Flags.{Flags}
use Rattle.casm_word.specs.declared.Word.{Word}
use Rattle.segments.specs.declared.Place.{Place}
use Rattle.segments.specs.declared.RelState.{RelState}
use Rattle.segments.specs.declared.Value.{Value}
use Rattle.segments.specs.declared.Value.TheVariants.{Ptr}
use Rattle.segments.specs.Memory.{RunMemory, cell}
use Rattle.run_steps.specs.declared.cause.Spot.TheVariants.{Dst, Op0, Op1}
use Rattle.run_steps.specs.declared.cause.StepCause.{StepCause}
use Rattle.run_steps.specs.declared.cause.StepCause.TheVariants.{Unknown}
use Rattle.run_steps.specs.declared.operands.Places.{Places}
use Rattle.run_steps.specs.declared.operands.Found.{Found}
use Rattle.run_steps.specs.Causes.{◌>>=◌, known}
use Rattle.run_steps.specs.Operands.{instruction_in, place_after, dst_place, op0_place, op1_place, res_of}
use Rattle.run_steps.specs.Deduction.{known_difference, known_quotient, reads, computed, deduction, before_op1, deduced}
use Rattle.run_steps.specs.Cases.{called_op0, sought_op0, sought_op1, found_dst, places_by_cases, operands_by_cases, found_by_cases}
use Rattle.run_steps.specs.Step.{places_of, operands_of, found_operands}

-- ---- choices over plain tests

ok-cond : {A C : Type 0} (b : Bool) (x y : A) → ◌≡◌ {A = Result A C} (cond b (Ok x) (Ok y)) (Ok (cond b x y))
ok-cond true x y = refl
ok-cond false x y = refl

op0-choice : (call assert add mul : Bool) (p : Value) (d q : Result (Option Value) StepCause) (g : Option Value → Result (Option Value) StepCause) →
    g (Some p) ≡ Ok (Some p) → g None ≡ cond (not assert) (Ok None) (cond add d (cond mul q (Ok None))) →
    cond call (Ok (Some p)) (cond (assert && add) d (cond (assert && mul) q (Ok None))) ≡ g (cond call (Some p) None)
op0-choice true assert add mul p d q g some none = sym some
op0-choice false false add mul p d q g some none = sym none
op0-choice false true true mul p d q g some none = sym none
op0-choice false true false true p d q g some none = sym none
op0-choice false true false false p d q g some none = sym none

op1-choice : (assert add mul : Bool) (dst d q : Result (Option Value) StepCause) →
    cond (assert && not (add || mul)) dst (cond (assert && add) d (cond (assert && mul) q (Ok None)))
    ≡ cond (not assert) (Ok None) (cond add d (cond mul q dst))
op1-choice false add mul dst d q = refl
op1-choice true true mul dst d q = refl
op1-choice true false true dst d q = refl
op1-choice true false false dst d q = refl

dst-choice : {B : Type 0} (assert call : Bool) (at : Place) (res fp : Value) (go_on : Value → Result B StepCause) →
    (cond assert (Ok (Some res)) (cond call (Ok (Some fp)) (Ok None)) >>= λ o. known at o >>= go_on)
    ≡ (cond assert (Ok res) (cond call (Ok fp) (Err (Unknown at))) >>= go_on)
unfolding known
dst-choice true call at res fp go_on = refl
dst-choice false true at res fp go_on = refl
dst-choice false false at res fp go_on = refl

-- ---- the rows of each operand

-- op0 before op1 is read
pub called-case : (f : Flags) (s : RelState) (dst op0 op1 : Option Value) → deduced before_op1 Op0 (reads f s dst op0 op1) ≡ Ok (called_op0 f s op0)
unfolding called_op0
called-case f s dst (Some v) op1 = refl
called-case f s dst None op1 = ok-cond f.op_call (Some (Ptr (place_after f s))) None

pub op0-case : (f : Flags) (s : RelState) (dst op0 op1 : Option Value) → deduced deduction Op0 (reads f s dst op0 op1) ≡ sought_op0 f dst (called_op0 f s op0) op1
unfolding called_op0 sought_op0
op0-case f s dst (Some v) op1 = refl
op0-case f s dst None op1 =
    op0-choice f.op_call f.op_assert f.res_add f.res_mul (Ptr (place_after f s)) (known_difference dst op1) (Ok (known_quotient dst op1)) (λ op0. sought_op0 f dst op0 op1) refl refl

pub op1-case : (f : Flags) (s : RelState) (dst op0 op1 : Option Value) → deduced deduction Op1 (reads f s dst op0 op1) ≡ sought_op1 f dst op0 op1
unfolding sought_op1
op1-case f s dst op0 (Some v) = refl
op1-case f s dst op0 None = op1-choice f.op_assert f.res_add f.res_mul (Ok dst) (known_difference dst op0) (Ok (known_quotient dst op0))

pub dst-case : {B : Type 0} (f : Flags) (s : RelState) (at : Place) (dst : Option Value) (op0 op1 res : Value) (go_on : Value → Result B StepCause) →
    (deduced deduction Dst (computed f s dst op0 op1 res) >>= λ o. known at o >>= go_on) ≡ (found_dst f s at res dst >>= go_on)
unfolding found_dst known
dst-case f s at (Some v) op0 op1 res go_on = refl
dst-case f s at None op0 op1 res go_on = dst-choice f.op_assert f.op_call at res (Ptr s.fp) go_on

-- ---- one part after another

then_same : {A B C : Type 0} (x : Result A C) (k l : A → Result B C) → ((a : A) → k a ≡ l a) → (x >>= k) ≡ (x >>= l)
then_same (Ok a) k l same = same a
then_same (Err cause) k l same = refl

pub places-cases : (m : RunMemory) (w : Word) (s : RelState) → places_of m w s ≡ places_by_cases m w s
unfolding places_of places_by_cases
places-cases m w s =
    then_same (dst_place w s) _ _ (λ dst_at.
    then_same (op0_place w s) _ _ (λ op0_at.
    ap (λ r. r >>= λ op0. op1_place w s op0_at op0 >>= λ op1_at. Ok (record { dst = dst_at; op0 = op0_at; op1 = op1_at }))
    (called-case w.flags s (cell m dst_at) (cell m op0_at) None)))

pub operands-cases : (f : Flags) (s : RelState) (at : Places) (dst op0 op1 : Option Value) → operands_of f s at dst op0 op1 ≡ operands_by_cases f s at dst (called_op0 f s op0) op1
unfolding operands_of operands_by_cases
operands-cases f s at dst op0 op1 =
    ap (λ r. r >>= rest) (op0-case f s dst op0 op1)
    ∙ then_same (sought_op0 f dst (called_op0 f s op0) op1) rest _ (λ op0_sought.
    ap (λ r. r >>= later op0_sought) (op1-case f s dst op0_sought op1)
    ∙ then_same (sought_op1 f dst op0_sought op1) (later op0_sought) _ (λ op1_sought.
    then_same (known at.op0 op0_sought) _ _ (λ op0_found.
    then_same (known at.op1 op1_sought) _ _ (λ op1_found.
    then_same (res_of f op0_found op1_found) _ _ (λ res.
    dst-case f s at.dst dst op0_found op1_found res (λ dst_found. Ok (record { at = at; dst = dst_found; op0 = op0_found; op1 = op1_found })))))))
  where
    later : Option Value → Option Value → Result Found StepCause
    later op0_sought op1_sought = do
      op0_found ← known at.op0 op0_sought
      op1_found ← known at.op1 op1_sought
      res ← res_of f op0_found op1_found
      dst_sought ← deduced deduction Dst (computed f s dst op0_found op1_found res)
      dst_found ← known at.dst dst_sought
      Ok (record { at = at; dst = dst_found; op0 = op0_found; op1 = op1_found })

    rest : Option Value → Result Found StepCause
    rest op0_sought = deduced deduction Op1 (reads f s dst op0_sought op1) >>= later op0_sought

-- all operands of a step
pub found-cases : (m : RunMemory) (s : RelState) → found_operands m s ≡ found_by_cases m s
unfolding found_operands found_by_cases
found-cases m s =
    then_same (instruction_in (cell m s.pc)) _ _ (λ w.
    ap (λ r. r >>= λ at. operands_of w.flags s at (cell m at.dst) (cell m at.op0) (cell m at.op1)) (places-cases m w s)
    ∙ then_same (places_by_cases m w s) _ _ (λ at.
    operands-cases w.flags s at (cell m at.dst) (cell m at.op0) (cell m at.op1)))
