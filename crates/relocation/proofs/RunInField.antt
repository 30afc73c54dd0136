-- A legal run stays in the field, where it begins there and the memory's values are numbers of the field.
use Rattle.std.proofs.Common.{◌≡◌, ℕ, ◌<◌, Bool, true, false, cond, ◌&&◌, not, nat_eq, List, [], ◌∷◌, All, Option, Some, None, refl, subst, lit<}
use Rattle.std.specs.Prelude.{zip, slice_get, option_and_then}
use Rattle.std.specs.Bool.{then_some}
use Rattle.std.specs.Result.{result_ok}
use Rattle.std.specs.List.{AllByRecursion}
use Rattle.std.proofs.lemmas.Nat.{mod_below}
use Rattle.std.proofs.lemmas.List.Elements.{All-from_recursion, recursion_from_All}
use Rattle.goldilocks.specs.Field.{prime, field_add, field_mul}
use Rattle.casm_word.specs.declared.Flags.{Flags}
use Rattle.casm_word.specs.Word.{decoding}
use Rattle.casm_word.specs.Transition.{Memory, Registers, next, next_by, next_registers, res, dst_address, op0_address, op1_address, has_return_pc, has_caller_fp, meets_assertion}
use Rattle.casm_word.specs.Run.{LegalRun}
use Rattle.trace_files.specs.TraceFile.{IsState}

found : {A B : Type 0} (o : Option A) (k : A → Option B) (b : B) → option_and_then k o ≡ Some b → (a : A) × (o ≡ Some a) × (k a ≡ Some b)
found None k b e = absurd (cc)
found (Some a) k b e = (a, refl, e)

passed : {A : Type 0} (test : Bool) (x y : A) → then_some test x ≡ Some y → x ≡ y
passed true x y e = cc
passed false x y e = absurd (cc)

either_low : (b : Bool) (x y : ℕ) → x < prime → y < prime → cond b x y < prime
either_low true x y low other = low
either_low false x y low other = other

sum_low : (a b : ℕ) → field_add a b < prime
unfolding field_add
sum_low a b = mod_below (_) prime (lit< tt)

product_low : (a b : ℕ) → field_mul a b < prime
unfolding field_mul
product_low a b = mod_below (_) prime (lit< tt)

res_low : (f : Flags) (op0 op1 : ℕ) → op1 < prime → res f op0 op1 < prime
res_low f op0 op1 low = either_low f.res_add _ _ (sum_low op0 op1) (either_low f.res_mul _ _ (product_low op0 op1) low)

registers_low : (f : Flags) (r : Registers) (dst op0 op1 : ℕ) → IsState r → dst < prime → op1 < prime → IsState (next_registers f r dst op0 op1)
registers_low f r dst op0 op1 is dst_low op1_low = record {
  pc = either_low f.pc_abs _ _ (res_low f op0 op1 op1_low)
      (either_low f.pc_rel _ _ (sum_low r.pc _)
      (either_low (f.pc_jnz && not (nat_eq dst 0)) _ _ (sum_low r.pc _) (sum_low r.pc _)));
  ap = either_low f.op_call _ _ (sum_low r.ap 2) (either_low f.ap_add _ _ (sum_low r.ap _) (either_low f.ap_add1 _ _ (sum_low r.ap 1) is.ap));
  fp = either_low f.op_call _ _ (sum_low r.ap 2) (either_low f.op_ret _ _ dst_low is.fp);
}

-- what the demands let through is in the field
allowed_low : (f : Flags) (r : Registers) (dst op0 op1 : ℕ) (s : Registers) → next_by f r dst op0 op1 ≡ Some s → IsState r → dst < prime → op1 < prime → IsState s
allowed_low f r dst op0 op1 s e is dst_low op1_low =
    let same : next_registers f r dst op0 op1 ≡ s =
    passed (has_return_pc f r op0 && has_caller_fp f r dst && meets_assertion f dst op0 op1) (next_registers f r dst op0 op1) s e in
    subst (λ (t : Registers). IsState t) same (registers_low f r dst op0 op1 is dst_low op1_low)

-- the next registers are numbers of the field
next_low : (m : Memory) (r s : Registers) → ((a v : ℕ) → m a ≡ Some v → v < prime) → IsState r → next m r ≡ Some s → IsState s
unfolding next
next_low m r s low is e =
    let number = found (m r.pc) _ s e in
    let word = found (result_ok (decoding number.0)) _ s number.2 in
    let dst = found (m (dst_address word.0 r)) _ s word.2 in
    let op0 = found (m (op0_address word.0 r)) _ s dst.2 in
    let op1 = found (m (op1_address word.0 r op0.0)) _ s op0.2 in
    allowed_low word.0.flags r dst.0 op0.0 op1.0 s op1.2 is (low (dst_address word.0 r) dst.0 dst.1) (low (op1_address word.0 r op0.0) op1.0 op1.1)

states_low : (m : Memory) (first : Registers) (rest : List Registers) → ((a v : ℕ) → m a ≡ Some v → v < prime) → IsState first → AllByRecursion (λ step. next m step.0 ≡ Some step.1) (zip (first ∷ rest) rest) → AllByRecursion IsState (first ∷ rest)
states_low m first [] low is legal = (is, tt)
states_low m first (second ∷ rest) low is legal = (is, states_low m second rest low (next_low m first second low is legal.0) legal.1)

pub run_low : (m : Memory) (states : List Registers) → ((a v : ℕ) → m a ≡ Some v → v < prime) → LegalRun m states → ((first : Registers) → slice_get states 0 ≡ Some first → IsState first) → All IsState states
run_low m [] low legal begins = All-from_recursion IsState [] tt
run_low m (first ∷ rest) low legal begins =
    All-from_recursion IsState (first ∷ rest)
    (states_low m first rest low (begins first refl) (recursion_from_All (λ step. next m step.0 ≡ Some step.1) (zip (first ∷ rest) rest) legal.each_next))
