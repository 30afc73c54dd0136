-- Relocation of one step and of all steps: what the transition does over values it does over numbers, in any memory of
-- numbers that holds the relocated cells.
use Rattle.std.proofs.Common.{◌≡◌, ℕ, ◌+◌, ◌≤◌, Bool, true, false, cond, not, ◌&&◌, nat_eq, List, [], ◌∷◌, map, Option, Some, Ok, refl, sym, ◌∙◌, ap, subst, arith}
use Rattle.std.specs.Prelude.{Result, ℤ, sum, zip, All, IsSome, option_and_then}
use Rattle.std.specs.Result.{result_ok}
use Rattle.std.specs.Bool.{then_some}
use Rattle.std.proofs.lemmas.Bool.Decides.{nat_tests}
use Rattle.std.proofs.lemmas.List.{length-map}
use Rattle.std.proofs.lemmas.List.Elements.{All-nil, All-cons, All-head, All-tail}
use Rattle.goldilocks.specs.Field.{field_add}
use Rattle.casm_word.specs.declared.Flags.{Flags}
use Rattle.casm_word.specs.declared.Word.{Word}
use Rattle.casm_word.specs.Word.{decoding}
use Rattle.casm_word.specs.Transition.{Memory, Registers, moved, next}
use Rattle.casm_word.specs.Transition as table
use Rattle.casm_word.specs.Run.{LegalRun}
use Rattle.segments.specs.declared.Place.{Place}
use Rattle.segments.specs.declared.RelState.{RelState}
use Rattle.segments.specs.declared.Value.{Value}
use Rattle.segments.specs.declared.Value.TheVariants.{Num, Ptr}
use Rattle.segments.specs.Values.{number, value_sum, value_product, moved_place, same_value}
use Rattle.segments.specs.Memory.{RunMemory, IsMemory, total_limit, cell}
use Rattle.segments.specs.Relocation.{base, address, relocated}
use Rattle.segments.proofs.Addresses.{address_positive}
use Rattle.segments.proofs.Memories.{addresses-to_total}
use Rattle.segments.proofs.Relocations.{sum_relocates, product_relocates, move_relocates}
use Rattle.segments.proofs.Values.{equal_values}
use Rattle.run_steps.specs.declared.cause.Spot.{Spot}
use Rattle.run_steps.specs.declared.cause.Spot.TheVariants.{Dst, Op0, Op1}
use Rattle.run_steps.specs.declared.cause.StepCause.{StepCause}
use Rattle.run_steps.specs.declared.cause.StepCause.TheVariants.{NotPointer, CallPc, CallFp, NotEqual, PcNotPointer, FpNotPointer}
use Rattle.run_steps.specs.Causes.{demand, in_range, known, pointed, by_arithmetic}
use Rattle.run_steps.specs.Operands.{instruction_in, place_after, dst_place, op0_place, op0_pointed, op1_origin, op1_place, res_of, is_zero}
use Rattle.run_steps.specs.Next.{place_sum, next_pc, next_ap, next_fp, has_return_pc, has_caller_fp, meets_assertion, next_by, next_in}
use Rattle.run_steps.specs.ValueRun.{ValueRun, registers_at, HoldsRelocated}
use Rattle.run_steps.proofs.Shapes.{bound, same_ok, if_ok, if_some, instruction-ok, range-ok, known-ok, pointed-ok, arithmetic-ok, demand-ok, either, weaker}

-- ---- places and values

-- a pointer relocates to the address of its place
pointer_at : (sizes : List ℕ) (v : Value) (p : Place) → v ≡ Ptr p → address sizes p ≡ relocated sizes v
unfolding relocated
pointer_at sizes v p e = sym (ap (relocated sizes) e)

two_at : (sizes : List ℕ) → relocated sizes (number 2) ≡ 2
unfolding relocated number
two_at sizes = refl

one_at : (sizes : List ℕ) → relocated sizes (number 1) ≡ 1
unfolding relocated number
one_at sizes = refl

-- a pointer isn't 0, and neither is its address
zero_at : (sizes : List ℕ) (v : Value) → is_zero v ≡ nat_eq (relocated sizes v) 0
unfolding is_zero relocated
zero_at sizes (Num x) = refl
zero_at sizes (Ptr p) = let positive = address_positive sizes p in grind (arith, nat_tests)

-- the address of one of two places
choice_at : (sizes : List ℕ) (b : Bool) (p q : Place) → address sizes (cond b p q) ≡ cond b (address sizes p) (address sizes q)
choice_at sizes true p q = refl
choice_at sizes false p q = refl

moved_at : (sizes : List ℕ) (spot : Spot) (p q : Place) (by : ℤ) → sum sizes ≤ total_limit → in_range spot (moved_place p by) ≡ Ok q → address sizes q ≡ moved (address sizes p) by
moved_at sizes spot p q by few e =
    if_some (moved_place p by) q (λ r. address sizes r ≡ moved (address sizes p) by) (range-ok spot (moved_place p by) q e) (move_relocates sizes p by few)

sum_at : (sizes : List ℕ) (a b v : Value) → sum sizes ≤ total_limit → by_arithmetic (value_sum a b) ≡ Ok v → relocated sizes v ≡ field_add (relocated sizes a) (relocated sizes b)
sum_at sizes a b v few e =
    if_ok (value_sum a b) v (λ r. relocated sizes r ≡ field_add (relocated sizes a) (relocated sizes b)) (arithmetic-ok (value_sum a b) v e) (sum_relocates sizes a b few)

place_sum_at : (sizes : List ℕ) (p q : Place) (v : Value) → sum sizes ≤ total_limit → place_sum p v ≡ Ok q → address sizes q ≡ field_add (address sizes p) (relocated sizes v)
unfolding place_sum
place_sum_at sizes p q v few e =
    let b = bound (by_arithmetic (value_sum (Ptr p) v)) (λ sum. pointed NotPointer sum) q e in
    pointer_at sizes b.0 q (pointed-ok NotPointer b.0 q b.2)
    ∙ (sum_at sizes (Ptr p) v b.0 few b.1
    ∙ ap (λ (n : ℕ). field_add n (relocated sizes v)) (sym (pointer_at sizes (Ptr p) p refl)))

-- ---- operands

dst_at : (sizes : List ℕ) (w : Word) (s : RelState) (p : Place) → sum sizes ≤ total_limit → dst_place w s ≡ Ok p → address sizes p ≡ table.dst_address w (registers_at sizes s)
unfolding dst_place registers_at
dst_at sizes w s p few e =
    moved_at sizes Dst (cond w.flags.dst_fp s.fp s.ap) p w.off_dst few e
    ∙ ap (λ (n : ℕ). moved n w.off_dst) (choice_at sizes w.flags.dst_fp s.fp s.ap)

op0_at : (sizes : List ℕ) (w : Word) (s : RelState) (p : Place) → sum sizes ≤ total_limit → op0_place w s ≡ Ok p → address sizes p ≡ table.op0_address w (registers_at sizes s)
unfolding op0_place registers_at
op0_at sizes w s p few e =
    moved_at sizes Op0 (cond w.flags.op0_fp s.fp s.ap) p w.off_op0 few e
    ∙ ap (λ (n : ℕ). moved n w.off_op0) (choice_at sizes w.flags.op0_fp s.fp s.ap)

-- a place that is one of the registers
register_at : (sizes : List ℕ) (p q : Place) → ◌≡◌ {A = Result Place StepCause} (Ok p) (Ok q) → address sizes q ≡ address sizes p
register_at sizes p q e = ap (address sizes) (sym (same_ok p q e))

pointed_at : (sizes : List ℕ) (p q : Place) (v : Value) → op0_pointed p (Some v) ≡ Ok q → address sizes q ≡ relocated sizes v
unfolding op0_pointed known
pointed_at sizes p q v e = pointer_at sizes v q (pointed-ok NotPointer v q e)

origin_at : (sizes : List ℕ) (f : Flags) (s : RelState) (p q : Place) (op0 : Value) → op1_origin f s p (Some op0) ≡ Ok q → address sizes q ≡ table.op1_base f (registers_at sizes s) (relocated sizes op0)
unfolding op1_origin registers_at
origin_at sizes f s p q op0 e =
    either f.op1_imm f.op1_imm _ _ q _ _ (address sizes q) refl (register_at sizes s.pc q)
    (either f.op1_fp f.op1_fp _ _ q _ _ (address sizes q) refl (register_at sizes s.fp q)
    (either f.op1_ap f.op1_ap _ _ q _ _ (address sizes q) refl (register_at sizes s.ap q) (pointed_at sizes p q op0))) e

op1_at : (sizes : List ℕ) (w : Word) (s : RelState) (p q : Place) (op0 : Value) → sum sizes ≤ total_limit → op1_place w s p (Some op0) ≡ Ok q → address sizes q ≡ table.op1_address w (registers_at sizes s) (relocated sizes op0)
unfolding op1_place
op1_at sizes w s p q op0 few e =
    let b = bound (op1_origin w.flags s p (Some op0)) (λ origin. in_range Op1 (moved_place origin w.off_op1)) q e in
    moved_at sizes Op1 b.0 q w.off_op1 few b.2
    ∙ ap (λ (n : ℕ). moved n w.off_op1) (origin_at sizes w.flags s p b.0 op0 b.1)

-- ---- what is computed, and the next registers

res_at : (sizes : List ℕ) (f : Flags) (op0 op1 v : Value) → sum sizes ≤ total_limit → res_of f op0 op1 ≡ Ok v → relocated sizes v ≡ table.res f (relocated sizes op0) (relocated sizes op1)
unfolding res_of
res_at sizes f op0 op1 v few e =
    either f.res_add f.res_add _ _ v _ _ (relocated sizes v) refl (sum_at sizes op0 op1 v few)
    (either f.res_mul f.res_mul _ _ v _ _ (relocated sizes v) refl
    (λ d. if_ok (value_product op0 op1) v _ (arithmetic-ok (value_product op0 op1) v d) (product_relocates sizes op0 op1))
    (λ d. ap (relocated sizes) (sym (same_ok op1 v d)))) e

-- after an instruction whose address isn't past the last segment
behind : (b o total : ℕ) (imm : Bool) → b + o ≤ total → total ≤ total_limit → b + (o + cond imm 2 1) ≡ field_add (b + o) (cond imm 2 1)
unfolding field_add
behind b o total true low few = omega arith
behind b o total false low few = omega arith

behind_at : (sizes : List ℕ) (f : Flags) (s : RelState) → sum sizes ≤ total_limit → address sizes s.pc ≤ sum sizes → address sizes (place_after f s) ≡ table.following_pc f (registers_at sizes s)
unfolding place_after address registers_at
behind_at sizes f s few low = behind (base sizes s.pc.seg) s.pc.off (sum sizes) f.op1_imm low few

pc_at : (sizes : List ℕ) (f : Flags) (s : RelState) (dst op0 op1 res : Value) (pc : Place) → sum sizes ≤ total_limit → address sizes s.pc ≤ sum sizes → res_of f op0 op1 ≡ Ok res → next_pc f s dst op1 res ≡ Ok pc → address sizes pc ≡ table.next_pc f (registers_at sizes s) (relocated sizes dst) (relocated sizes op0) (relocated sizes op1)
unfolding next_pc registers_at
pc_at sizes f s dst op0 op1 res pc few low is e =
    let r = res_at sizes f op0 op1 res few is in
    either f.pc_abs f.pc_abs _ _ pc _ _ (address sizes pc) refl (λ d. pointer_at sizes res pc (pointed-ok PcNotPointer res pc d) ∙ r)
    (either f.pc_rel f.pc_rel _ _ pc _ _ (address sizes pc) refl (λ d. place_sum_at sizes s.pc pc res few d ∙ ap (λ (n : ℕ). field_add (address sizes s.pc) n) r)
    (either (f.pc_jnz && not (is_zero dst)) (f.pc_jnz && not (nat_eq (relocated sizes dst) 0)) _ _ pc _ _ (address sizes pc) (ap (λ (b : Bool). f.pc_jnz && not b) (zero_at sizes dst))
    (place_sum_at sizes s.pc pc op1 few)
    (λ d. register_at sizes (place_after f s) pc d ∙ behind_at sizes f s few low))) e

ap_at : (sizes : List ℕ) (f : Flags) (s : RelState) (op0 op1 res : Value) (p : Place) → sum sizes ≤ total_limit → res_of f op0 op1 ≡ Ok res → next_ap f s res ≡ Ok p → address sizes p ≡ table.next_ap f (registers_at sizes s) (relocated sizes op0) (relocated sizes op1)
unfolding next_ap registers_at
ap_at sizes f s op0 op1 res p few is e =
    let r = res_at sizes f op0 op1 res few is in
    either f.op_call f.op_call _ _ p _ _ (address sizes p) refl (λ d. place_sum_at sizes s.ap p (number 2) few d ∙ ap (λ (n : ℕ). field_add (address sizes s.ap) n) (two_at sizes))
    (either f.ap_add f.ap_add _ _ p _ _ (address sizes p) refl (λ d. place_sum_at sizes s.ap p res few d ∙ ap (λ (n : ℕ). field_add (address sizes s.ap) n) r)
    (either f.ap_add1 f.ap_add1 _ _ p _ _ (address sizes p) refl (λ d. place_sum_at sizes s.ap p (number 1) few d ∙ ap (λ (n : ℕ). field_add (address sizes s.ap) n) (one_at sizes))
    (register_at sizes s.ap p))) e

fp_at : (sizes : List ℕ) (f : Flags) (s : RelState) (dst : Value) (p : Place) → sum sizes ≤ total_limit → next_fp f s dst ≡ Ok p → address sizes p ≡ table.next_fp f (registers_at sizes s) (relocated sizes dst)
unfolding next_fp registers_at
fp_at sizes f s dst p few e =
    either f.op_call f.op_call _ _ p _ _ (address sizes p) refl (λ d. place_sum_at sizes s.ap p (number 2) few d ∙ ap (λ (n : ℕ). field_add (address sizes s.ap) n) (two_at sizes))
    (either f.op_ret f.op_ret _ _ p _ _ (address sizes p) refl (λ d. pointer_at sizes dst p (pointed-ok FpNotPointer dst p d))
    (register_at sizes s.fp p)) e

-- ---- the demands of the opcode

-- one value has one number
same_at : (sizes : List ℕ) (v w : Value) (n : ℕ) → relocated sizes w ≡ n → same_value v w ≡ true → nat_eq (relocated sizes v) n ≡ true
same_at sizes v w n is e =
    let one : relocated sizes v ≡ n = ap (relocated sizes) (equal_values v w e) ∙ is in
    grind (arith, nat_tests)

return_pc_at : (sizes : List ℕ) (f : Flags) (s : RelState) (op0 : Value) → sum sizes ≤ total_limit → address sizes s.pc ≤ sum sizes → has_return_pc f s op0 ≡ true → table.has_return_pc f (registers_at sizes s) (relocated sizes op0) ≡ true
unfolding has_return_pc
return_pc_at sizes f s op0 few low e =
    weaker (not f.op_call) _ _
    (same_at sizes op0 (Ptr (place_after f s)) (table.following_pc f (registers_at sizes s)) (sym (pointer_at sizes (Ptr (place_after f s)) (place_after f s) refl) ∙ behind_at sizes f s few low)) e

caller_fp_at : (sizes : List ℕ) (f : Flags) (s : RelState) (dst : Value) → has_caller_fp f s dst ≡ true → table.has_caller_fp f (registers_at sizes s) (relocated sizes dst) ≡ true
unfolding has_caller_fp registers_at
caller_fp_at sizes f s dst e =
    weaker (not f.op_call) _ _ (same_at sizes dst (Ptr s.fp) (address sizes s.fp) (sym (pointer_at sizes (Ptr s.fp) s.fp refl))) e

assertion_at : (sizes : List ℕ) (f : Flags) (dst op0 op1 res : Value) → sum sizes ≤ total_limit → res_of f op0 op1 ≡ Ok res → meets_assertion f dst res ≡ true → table.meets_assertion f (relocated sizes dst) (relocated sizes op0) (relocated sizes op1) ≡ true
unfolding meets_assertion
assertion_at sizes f dst op0 op1 res few is e =
    weaker (not f.op_assert) _ _ (same_at sizes dst res (table.res f (relocated sizes op0) (relocated sizes op1)) (res_at sizes f op0 op1 res few is)) e

all_met : (a b c : Bool) (r : Registers) → a ≡ true → b ≡ true → c ≡ true → then_some (a && b && c) r ≡ Some r
all_met true true true r e f g = refl
all_met true true false r e f g = absurd (cc)
all_met true false c r e f g = absurd (cc)
all_met false b c r e f g = absurd (cc)

-- the registers after the step
next_registers_at : (sizes : List ℕ) (f : Flags) (s t : RelState) (dst op0 op1 res : Value) (pc at_ap fp : Place) → sum sizes ≤ total_limit → address sizes s.pc ≤ sum sizes → res_of f op0 op1 ≡ Ok res → next_pc f s dst op1 res ≡ Ok pc → next_ap f s res ≡ Ok at_ap → next_fp f s dst ≡ Ok fp → ◌≡◌ {A = RelState} (record { pc = pc; ap = at_ap; fp = fp }) t → table.next_registers f (registers_at sizes s) (relocated sizes dst) (relocated sizes op0) (relocated sizes op1) ≡ registers_at sizes t
unfolding registers_at
next_registers_at sizes f s t dst op0 op1 res pc at_ap fp few low is is_pc is_ap is_fp same =
    let e_pc = pc_at sizes f s dst op0 op1 res pc few low is is_pc in
    let e_ap = ap_at sizes f s op0 op1 res at_ap few is is_ap in
    let e_fp = fp_at sizes f s dst fp few is_fp in
    let built : ◌≡◌ {A = Registers} (record { pc = address sizes pc; ap = address sizes at_ap; fp = address sizes fp }) (table.next_registers f (registers_at sizes s) (relocated sizes dst) (relocated sizes op0) (relocated sizes op1)) =
    λ i. record { pc = e_pc i; ap = e_ap i; fp = e_fp i } in
    sym built ∙ ap (registers_at sizes) same

-- the step with these operands
by_at : (sizes : List ℕ) (f : Flags) (s t : RelState) (dst op0 op1 : Value) → sum sizes ≤ total_limit → address sizes s.pc ≤ sum sizes → next_by f s dst op0 op1 ≡ Ok t → table.next_by f (registers_at sizes s) (relocated sizes dst) (relocated sizes op0) (relocated sizes op1) ≡ Some (registers_at sizes t)
unfolding next_by
by_at sizes f s t dst op0 op1 few low e =
    let r = bound (res_of f op0 op1) _ t e in
    let d1 = bound (demand CallPc (has_return_pc f s op0)) _ t r.2 in
    let d2 = bound (demand CallFp (has_caller_fp f s dst)) _ t d1.2 in
    let d3 = bound (demand NotEqual (meets_assertion f dst r.0)) _ t d2.2 in
    let pc = bound (next_pc f s dst op1 r.0) _ t d3.2 in
    let at_ap = bound (next_ap f s r.0) _ t pc.2 in
    let fp = bound (next_fp f s dst) _ t at_ap.2 in
    all_met _ _ _ _
    (return_pc_at sizes f s op0 few low (demand-ok CallPc (has_return_pc f s op0) d1.0 d1.1))
    (caller_fp_at sizes f s dst (demand-ok CallFp (has_caller_fp f s dst) d2.0 d2.1))
    (assertion_at sizes f dst op0 op1 r.0 few r.1 (demand-ok NotEqual (meets_assertion f dst r.0) d3.0 d3.1))
    ∙ ap (λ (q : Registers). Some q) (next_registers_at sizes f s t dst op0 op1 r.0 pc.0 at_ap.0 fp.0 few low r.1 pc.1 at_ap.1 fp.1 (same_ok _ t fp.2))

-- ---- the cells that a step reads

-- what a step over values reads, and what it does with it
pub record Read (m : RunMemory) (s t : RelState) : Type 0 where
  pub word : Word
  pub dst_at : Place
  pub dst : Value
  pub op0_at : Place
  pub op0 : Value
  pub op1_at : Place
  pub op1 : Value
  pub has_word : instruction_in (cell m s.pc) ≡ Ok word
  pub dst_lies : dst_place word s ≡ Ok dst_at
  pub dst_held : cell m dst_at ≡ Some dst
  pub op0_lies : op0_place word s ≡ Ok op0_at
  pub op0_held : cell m op0_at ≡ Some op0
  pub op1_lies : op1_place word s op0_at (Some op0) ≡ Ok op1_at
  pub op1_held : cell m op1_at ≡ Some op1
  pub goes_on : next_by word.flags s dst op0 op1 ≡ Ok t

pub read : (m : RunMemory) (s t : RelState) → next_in m s ≡ Ok t → Read m s t
unfolding next_in
read m s t e =
    let w = bound (instruction_in (cell m s.pc)) _ t e in
    let a = bound (dst_place w.0 s) _ t w.2 in
    let dst = bound (known a.0 (cell m a.0)) _ t a.2 in
    let b = bound (op0_place w.0 s) _ t dst.2 in
    let op0 = bound (known b.0 (cell m b.0)) _ t b.2 in
    let c = bound (op1_place w.0 s b.0 (Some op0.0)) _ t op0.2 in
    let op1 = bound (known c.0 (cell m c.0)) (λ v. next_by w.0.flags s dst.0 op0.0 v) t c.2 in
    record {
      word = w.0;
      dst_at = a.0;
      dst = dst.0;
      op0_at = b.0;
      op0 = op0.0;
      op1_at = c.0;
      op1 = op1.0;
      has_word = w.1;
      dst_lies = a.1;
      dst_held = known-ok a.0 (cell m a.0) dst.0 dst.1;
      op0_lies = b.1;
      op0_held = known-ok b.0 (cell m b.0) op0.0 op0.1;
      op1_lies = c.1;
      op1_held = known-ok c.0 (cell m c.0) op1.0 op1.1;
      goes_on = op1.2;
    }

-- a partial function goes on from what it finds
found : {A B : Type 0} (x : Option A) (k : A → Option B) (v : A) (q : B) → x ≡ Some v → k v ≡ Some q → option_and_then k x ≡ Some q
found x k v q e goes_on = ap (option_and_then k) e ∙ goes_on

-- the step over numbers, from what it reads
goes : (c : Memory) (r q : Registers) (w : Word) (n dst op0 op1 : ℕ) → c r.pc ≡ Some n → decoding n ≡ Ok w → c (table.dst_address w r) ≡ Some dst → c (table.op0_address w r) ≡ Some op0 → c (table.op1_address w r op0) ≡ Some op1 → table.next_by w.flags r dst op0 op1 ≡ Some q → next c r ≡ Some q
unfolding next
goes c r q w n dst op0 op1 has_word is_word has_dst has_op0 has_op1 e =
    found (c r.pc) _ n q has_word
    (found (result_ok (decoding n)) _ w q (ap result_ok is_word)
    (found (c (table.dst_address w r)) _ dst q has_dst
    (found (c (table.op0_address w r)) _ op0 q has_op0
    (found (c (table.op1_address w r op0)) _ op1 q has_op1 e))))

-- a held cell, over numbers
held_at : (m : RunMemory) (c : Memory) (p : Place) (v : Value) (a : ℕ) → HoldsRelocated m c → cell m p ≡ Some v → address m.sizes p ≡ a → c a ≡ Some (relocated m.sizes v)
held_at m c p v a holds held e = ap c (sym e) ∙ holds.holds p v held

-- the word of a step, over numbers
word_at : (m : RunMemory) (c : Memory) (s : RelState) (w : Word) → HoldsRelocated m c → instruction_in (cell m s.pc) ≡ Ok w → (n : ℕ) × (c (address m.sizes s.pc) ≡ Some n) × (decoding n ≡ Ok w) × IsSome (cell m s.pc)
unfolding relocated
word_at m c s w holds e =
    let i = instruction-ok (cell m s.pc) w e in
    (i.0.number, holds.holds s.pc (Num i.0) i.1, i.2, subst (λ (o : Option Value). IsSome o) (sym i.1) refl)

at_pc : (sizes : List ℕ) (c : Memory) (s : RelState) (n : ℕ) → c (address sizes s.pc) ≡ Some n → c (registers_at sizes s).pc ≡ Some n
unfolding registers_at
at_pc sizes c s n e = e

-- a step over values is a step over numbers
pub step_at : (m : RunMemory) (c : Memory) (s t : RelState) → IsMemory m → HoldsRelocated m c → next_in m s ≡ Ok t → next c (registers_at m.sizes s) ≡ Some (registers_at m.sizes t)
step_at m c s t is holds e =
    let r : Read m s t = read m s t e in
    let w = word_at m c s r.word holds r.has_word in
    goes c (registers_at m.sizes s) (registers_at m.sizes t) r.word w.0 (relocated m.sizes r.dst) (relocated m.sizes r.op0) (relocated m.sizes r.op1)
    (at_pc m.sizes c s w.0 w.1) w.2
    (held_at m c r.dst_at r.dst _ holds r.dst_held (dst_at m.sizes r.word s r.dst_at is.total r.dst_lies))
    (held_at m c r.op0_at r.op0 _ holds r.op0_held (op0_at m.sizes r.word s r.op0_at is.total r.op0_lies))
    (held_at m c r.op1_at r.op1 _ holds r.op1_held (op1_at m.sizes r.word s r.op0_at r.op1_at r.op0 is.total r.op1_lies))
    (by_at m.sizes r.word.flags s t r.dst r.op0 r.op1 is.total (addresses-to_total m s.pc is w.3) r.goes_on)

-- ---- all steps

each_at : (m : RunMemory) (c : Memory) (s : RelState) (rest : List RelState) → IsMemory m → HoldsRelocated m c →
    All (λ step. next_in m step.0 ≡ Ok step.1) (zip (s ∷ rest) rest) →
    All (λ step. next c step.0 ≡ Some step.1) (zip (map (registers_at m.sizes) (s ∷ rest)) (map (registers_at m.sizes) rest))
each_at m c s [] is holds all = All-nil (λ (step : Registers × Registers). next c step.0 ≡ Some step.1)
each_at m c s (t ∷ rest) is holds all =
    let P : RelState × RelState → Type 0 = λ step. next_in m step.0 ≡ Ok step.1 in
    All-cons (λ (step : Registers × Registers). next c step.0 ≡ Some step.1) (registers_at m.sizes s, registers_at m.sizes t) (zip (map (registers_at m.sizes) (t ∷ rest)) (map (registers_at m.sizes) rest))
    (step_at m c s t is holds (All-head P (s, t) (zip (t ∷ rest) rest) all))
    (each_at m c t rest is holds (All-tail P (s, t) (zip (t ∷ rest) rest) all))

-- a run over values is a legal run over numbers
pub run_at : (m : RunMemory) (c : Memory) (states : List RelState) → IsMemory m → HoldsRelocated m c → ValueRun m states → LegalRun c (map (registers_at m.sizes) states)
run_at m c [] is holds run = absurd (omega (arith, run.has_step))
run_at m c (s ∷ rest) is holds run = record {
  has_step = subst (λ (n : ℕ). 2 ≤ n) (sym (length-map (s ∷ rest) (registers_at m.sizes))) run.has_step;
  each_next = each_at m c s rest is holds run.each_next;
}
