-- How many rows tell a step: one, but for res and t1 where a conditional jump goes on to the instruction behind it.
use Rattle.std.proofs.Common.{◌≡◌, ℕ, ◌<◌, ◌∙◌, ◌⊎◌, Bool, true, false, ◌&&◌, ◌||◌, [], ◌∷◌, get_or, Some, refl, sym, ap, subst, arith, inl, inr, lit<}
use Rattle.std.proofs.lemmas.List.Elements.{All-from_get_or, All-from_recursion, All-append}
use Rattle.std.proofs.Math.Nat.{mod-eq_of_lt}
use Rattle.goldilocks.specs.Field.{prime}
use Rattle.goldilocks.proofs.FieldLaws.{zero_from_product, equal_from_difference, same_inverse, field_sub_below, field_mul_below, field_one_mul, field_zero_mul, field_mul_zero}
use Rattle.casm_word.specs.declared.Flags.{Flags}
use Rattle.casm_word.specs.declared.Word.{Word}
use Rattle.casm_word.specs.Word.{two_of, flags_of, word_of}
use Rattle.casm_word.specs.Transition.{Memory, Registers, dst_address, op0_address, op1_address, res, next}
use Rattle.cpu_rows.specs.Columns.{Columns, values, state_of, IsInField}
use Rattle.cpu_rows.specs.Equations.{◌⊕◌, ◌⊖◌, ◌⊙◌, ◌≐◌, C, flag, equations, EquationHolds, Meets}
use Rattle.cpu_rows.specs.Steps.{zero_or_one, HasFlags, row_accesses, tilde_of, row_of, Tells, GoesOnBehind, with_res, offsets, IsStep}
use Rattle.cpu_rows.proofs.Choices.{gap_is_zero, gap_of_equal, c22_holds}
use Rattle.cpu_rows.proofs.EachEquation.{front, in_front, in_back, row_flags, dst_low, op1_low, res_low, t1_low}
use Rattle.cpu_rows.proofs.StepOfRow.{IsStep-from_meets, HasFlags-from_meets, nth, parts, flags_is, word, word_is, tilde_is, dst_address_is, op0_address_is, op1_address_is, res_is, cell, one_res, one_pc, jnz_alone, jnz_keeps_ap}

clear : (b : Bool) → zero_or_one b ≡ 0 → b ≡ false
clear true e = absurd (omega (arith, e))
clear false e = refl

set' : (b : Bool) → zero_or_one b ≡ 1 → b ≡ true
set' true e = refl
set' false e = absurd (omega (arith, e))

either : (b : Bool) (x : ℕ) → x ≡ zero_or_one b → (x ≡ 0) ⊎ (x ≡ 1)
either true x e = inr e
either false x e = inl e

-- a row with its own number in the column res
own_res : (r : Columns) → r.t1 ≡ r.t0 ⊙ r.res → with_res r r.res ≡ r
unfolding with_res
own_res r e = rw (← e) refl

module _ (m : Memory) (s after : Registers) (r : Columns) (tells : Tells m s after r) where
  abbrev f : Flags
  f = row_flags r

  has : HasFlags r f
  has = HasFlags-from_meets r after tells.meets

  abbrev low : IsInField r
  low = tells.row.in_field

  word_same : word_of r.inst ≡ word r after f has tells.meets low tells.offsets
  word_same = word_is r after f has tells.meets low tells.offsets

  dst_at : dst_address (word_of r.inst) (state_of r) ≡ r.dst_addr
  dst_at = ap (λ w. dst_address w (state_of r)) word_same ∙ dst_address_is r after f has tells.meets low tells.offsets

  op0_at : op0_address (word_of r.inst) (state_of r) ≡ r.op0_addr
  op0_at = ap (λ w. op0_address w (state_of r)) word_same ∙ op0_address_is r after f has tells.meets low tells.offsets

  op1_at : op1_address (word_of r.inst) (state_of r) r.op0 ≡ r.op1_addr
  op1_at = ap (λ w. op1_address w (state_of r) r.op0) word_same ∙ op1_address_is r after f has tells.meets low tells.offsets

  jnz_same : (word_of r.inst).flags.pc_jnz ≡ f.pc_jnz
  jnz_same = ap (λ (w : Word). w.flags.pc_jnz) word_same

  mul_at : r.mul ≡ r.op0 ⊙ r.op1
  unfolding equations EquationHolds
  mul_at = nth r after f has tells.meets 20 (lit< tt)

  t0_at : r.t0 ≡ zero_or_one (word_of r.inst).flags.pc_jnz ⊙ r.dst
  unfolding equations EquationHolds
  t0_at = rw (jnz_same, ← has.pc_jnz) (nth r after f has tells.meets 22 (lit< tt))

  t1_at : r.t1 ≡ r.t0 ⊙ r.res
  unfolding equations EquationHolds
  t1_at = nth r after f has tells.meets 23 (lit< tt)

  -- the row is the row of a step, with its own number in the column res
  as_row_of : r ≡ row_of (state_of r) r.inst (word_of r.inst) r.dst r.op0 r.op1 r.res
  unfolding row_of state_of
  as_row_of =
      let p = parts r after f has tells.meets low tells.offsets in
      let e : r.tilde ≡ tilde_of r.inst = tilde_is r after f has tells.meets low tells.offsets tells.row.sixteen in
      rw (dst_at, op0_at, op1_at, ← e, p.1, p.2, p.3, ← mul_at, ← t0_at, ← t1_at) refl

  -- ---- the same by the state that the step begins in

  as_row_of_state : r ≡ row_of s r.inst (word_of r.inst) r.dst r.op0 r.op1 r.res
  as_row_of_state =
      let P : Registers → Type 0 = λ u. r ≡ row_of u r.inst (word_of r.inst) r.dst r.op0 r.op1 r.res in
      subst P tells.state as_row_of

  inst_cell : m s.pc ≡ Some r.inst
  unfolding row_accesses state_of
  inst_cell =
      let P : Registers → Type 0 = λ u. m u.pc ≡ Some r.inst in
      subst P tells.state (cell r after f has tells.meets low tells.offsets m 0 tells.cells (lit< tt))

  dst_cell : m (dst_address (word_of r.inst) s) ≡ Some r.dst
  unfolding row_accesses
  dst_cell =
      let P : Registers → Type 0 = λ u. m (dst_address (word_of r.inst) u) ≡ Some r.dst in
      subst P tells.state (ap m dst_at ∙ cell r after f has tells.meets low tells.offsets m 1 tells.cells (lit< tt))

  op0_cell : m (op0_address (word_of r.inst) s) ≡ Some r.op0
  unfolding row_accesses
  op0_cell =
      let P : Registers → Type 0 = λ u. m (op0_address (word_of r.inst) u) ≡ Some r.op0 in
      subst P tells.state (ap m op0_at ∙ cell r after f has tells.meets low tells.offsets m 2 tells.cells (lit< tt))

  op1_cell : m (op1_address (word_of r.inst) s r.op0) ≡ Some r.op1
  unfolding row_accesses
  op1_cell =
      let P : Registers → Type 0 = λ u. m (op1_address (word_of r.inst) u r.op0) ≡ Some r.op1 in
      subst P tells.state (ap m op1_at ∙ cell r after f has tells.meets low tells.offsets m 3 tells.cells (lit< tt))

  -- ---- the column res

  res_told : flag r 9 ≡ 0 → r.res ≡ res (flags_of r.inst) r.op0 r.op1
  res_told z =
      let j : f.pc_jnz ≡ false = clear f.pc_jnz (sym has.pc_jnz ∙ z) in
      res_is r after f has tells.meets low tells.offsets j
      ∙ ap (λ g. res g r.op0 r.op1) (sym (flags_is r after f has tells.meets low tells.offsets))

  inverse_told : flag r 9 ≡ 1 → (GoesOnBehind r after → ⊥) → r.dst ⊙ r.res ≡ 1
  unfolding equations EquationHolds GoesOnBehind
  inverse_told one elsewhere =
      let e : (r.t1 ⊖ 1) ⊙ (after.pc ⊖ r.pc ⊖ (1 ⊕ flag r 2)) ≡ 0 = rw one at (nth r after f has tells.meets 24 (lit< tt)) in
      let t0 : r.t0 ≡ r.dst = (rw one at (nth r after f has tells.meets 22 (lit< tt))) ∙ (field_one_mul r.dst ∙ mod-eq_of_lt (dst_low r low)) in
      let product : r.t1 ≡ r.dst ⊙ r.res = t1_at ∙ ap (λ v. v ⊙ r.res) t0 in
      elim (zero_from_product (r.t1 ⊖ 1) (after.pc ⊖ r.pc ⊖ (1 ⊕ flag r 2)) e) [
        | inl h ↦
            sym product
            ∙ (sym (mod-eq_of_lt (t1_low r low))
            ∙ equal_from_difference r.t1 1 (sym (mod-eq_of_lt (field_sub_below r.t1 1)) ∙ h))
        | inr h ↦
            let gap : after.pc ⊖ r.pc ⊖ (1 ⊕ flag r 2) ≡ 0 = sym (mod-eq_of_lt (field_sub_below (after.pc ⊖ r.pc) (1 ⊕ flag r 2))) ∙ h in
            absurd (elsewhere (one, gap_is_zero after.pc r.pc (1 ⊕ flag r 2) tells.next_pc gap))
      ]

  flag_of_jump : (flag r 9 ≡ 0) ⊎ (flag r 9 ≡ 1)
  flag_of_jump = either f.pc_jnz (flag r 9) has.pc_jnz

-- ---- two rows of one step

module _ (m : Memory) (s after : Registers) (a b : Columns) (ta : Tells m s after a) (tb : Tells m s after b) where
  same_inst : a.inst ≡ b.inst
  same_inst = let p = inst_cell m s after a ta in let q = inst_cell m s after b tb in cc

  same_dst : a.dst ≡ b.dst
  same_dst =
      let e : dst_address (word_of a.inst) s ≡ dst_address (word_of b.inst) s = ap (λ n. dst_address (word_of n) s) same_inst in
      let p = dst_cell m s after a ta in
      let q = dst_cell m s after b tb in
      let g : m (dst_address (word_of a.inst) s) ≡ m (dst_address (word_of b.inst) s) = ap m e in
      cc

  same_op0 : a.op0 ≡ b.op0
  same_op0 =
      let e : m (op0_address (word_of a.inst) s) ≡ m (op0_address (word_of b.inst) s) = ap (λ n. m (op0_address (word_of n) s)) same_inst in
      let p = op0_cell m s after a ta in
      let q = op0_cell m s after b tb in
      cc

  same_op1 : a.op1 ≡ b.op1
  same_op1 =
      let e : m (op1_address (word_of a.inst) s a.op0) ≡ m (op1_address (word_of b.inst) s a.op0) = ap (λ n. m (op1_address (word_of n) s a.op0)) same_inst in
      let g : m (op1_address (word_of b.inst) s a.op0) ≡ m (op1_address (word_of b.inst) s b.op0) = ap (λ x. m (op1_address (word_of b.inst) s x)) same_op0 in
      let p = op1_cell m s after a ta in
      let q = op1_cell m s after b tb in
      cc

  -- they agree in all columns but res, and t1 follows
  pub same_but_res : a ≡ with_res b a.res
  unfolding with_res row_of
  same_but_res =
      let p : a ≡ row_of s a.inst (word_of a.inst) a.dst a.op0 a.op1 a.res = as_row_of_state m s after a ta in
      let q : row_of s a.inst (word_of a.inst) a.dst a.op0 a.op1 a.res ≡ row_of s b.inst (word_of b.inst) b.dst b.op0 b.op1 a.res = rw (same_inst, same_dst, same_op0, same_op1) refl in
      let g : with_res b a.res ≡ with_res (row_of s b.inst (word_of b.inst) b.dst b.op0 b.op1 b.res) a.res = ap (λ t. with_res t a.res) (as_row_of_state m s after b tb) in
      p ∙ (q ∙ sym g)

  same_jump : flag a 9 ≡ flag b 9
  unfolding with_res flag
  same_jump = ap (λ t. flag t 9) same_but_res

  also_behind : GoesOnBehind b after → GoesOnBehind a after
  unfolding with_res flag GoesOnBehind
  also_behind h = let P : Columns → Type 0 = λ t. GoesOnBehind t after in subst P (sym same_but_res) h

  res_same : (GoesOnBehind a after → ⊥) → a.res ≡ b.res
  res_same elsewhere =
      elim (flag_of_jump m s after a ta) [
        | inl z ↦
            let p = res_told m s after a ta z in
            let q = res_told m s after b tb (sym same_jump ∙ z) in
            p ∙ (rw (same_inst, same_op0, same_op1) refl ∙ sym q)
        | inr z ↦
            let p : a.dst ⊙ a.res ≡ 1 = inverse_told m s after a ta z elsewhere in
            let q : b.dst ⊙ b.res ≡ 1 = inverse_told m s after b tb (sym same_jump ∙ z) (λ h. elsewhere (also_behind h)) in
            sym (mod-eq_of_lt (res_low a ta.row.in_field))
            ∙ (same_inverse a.dst a.res b.res p (ap (λ d. d ⊙ b.res) same_dst ∙ q) ∙ mod-eq_of_lt (res_low b tb.row.in_field))
      ]

  -- and where a conditional jump doesn't go on behind, in all
  pub same_row : (GoesOnBehind a after → ⊥) → a ≡ b
  unfolding with_res
  same_row elsewhere =
      same_but_res ∙ (ap (λ x. with_res b x) (res_same elsewhere) ∙ own_res b (t1_at m s after b tb))

-- ---- and there each number stands in the column res of some row

is_off : true ≡ false → ⊥
is_off e = cc

others_off : (abs rel : Bool) → two_of abs rel true ≡ false → (zero_or_one abs ≡ 0) × (zero_or_one rel ≡ 0)
others_off true true e = absurd (is_off e)
others_off true false e = absurd (is_off e)
others_off false true e = absurd (is_off e)
others_off false false e = (refl, refl)

other_off : (jnz add : Bool) → jnz ≡ true → jnz && add ≡ false → zero_or_one add ≡ 0
other_off true true j e = cc
other_off true false j e = refl
other_off false add j e = cc

third_off : (jnz call ret assert : Bool) → jnz ≡ true → jnz && (call || ret || assert) ≡ false → zero_or_one assert ≡ 0
third_off true true ret assert j e = cc
third_off true false true assert j e = cc
third_off true false false true j e = cc
third_off true false false false j e = refl
third_off false call ret assert j e = cc

differ : (b : Bool) → b ≡ true → b ≡ false → ⊥
differ b p q = cc

module _ (m : Memory) (s after : Registers) (r : Columns) (tells : Tells m s after r) (behind : GoesOnBehind r after) (x : ℕ) (small : x < prime) where
  n : (k : ℕ) → k < 39 → EquationHolds (get_or (equations r after) k (C 0 (0 ≐ 0)))
  n = nth r after (row_flags r) (has m s after r tells) tells.meets

  flags' : HasFlags r (row_flags r)
  flags' = has m s after r tells

  jump : (row_flags r).pc_jnz ≡ true
  unfolding GoesOnBehind
  jump = set' (row_flags r).pc_jnz (sym flags'.pc_jnz ∙ behind.0)

  abs_off : flag r 7 ≡ 0
  abs_off =
      flags'.pc_abs ∙ (others_off (row_flags r).pc_abs (row_flags r).pc_rel (rw jump at (one_pc r after (row_flags r) flags' tells.meets))).0

  rel_off : flag r 8 ≡ 0
  rel_off =
      flags'.pc_rel ∙ (others_off (row_flags r).pc_abs (row_flags r).pc_rel (rw jump at (one_pc r after (row_flags r) flags' tells.meets))).1

  ap_add_off : flag r 10 ≡ 0
  ap_add_off = flags'.ap_add ∙ other_off (row_flags r).pc_jnz (row_flags r).ap_add jump (jnz_keeps_ap r after (row_flags r) flags' tells.meets)

  assert_off : flag r 14 ≡ 0
  assert_off =
      flags'.op_assert
      ∙ third_off (row_flags r).pc_jnz (row_flags r).op_call (row_flags r).op_ret (row_flags r).op_assert jump (jnz_alone r after (row_flags r) flags' tells.meets)

  met_22 : (1 ⊖ flag r 9) ⊙ x ≡ flag r 5 ⊙ (r.op0 ⊕ r.op1) ⊕ flag r 6 ⊙ r.mul ⊕ (1 ⊖ flag r 5 ⊖ flag r 6 ⊖ flag r 9) ⊙ r.op1
  met_22 =
      let f : Flags = row_flags r in
      let sum : ℕ → ℕ = λ v. zero_or_one f.res_add ⊙ (r.op0 ⊕ r.op1) ⊕ zero_or_one f.res_mul ⊙ v ⊕ (1 ⊖ zero_or_one f.res_add ⊖ zero_or_one f.res_mul ⊖ zero_or_one f.pc_jnz) ⊙ r.op1 in
      rw (flags'.pc_jnz, flags'.res_add, flags'.res_mul)
      (c22_holds f.res_add f.res_mul f.pc_jnz r.op0 r.op1 x small (op1_low r tells.row.in_field)
      (one_res r after f flags' tells.meets)
      (λ off. absurd (differ f.pc_jnz jump off))
      ∙ ap sum (sym (mul_at m s after r tells)))

  met_25 : (r.t0 ⊙ x ⊖ flag r 9) ⊙ (after.pc ⊖ r.pc ⊖ (1 ⊕ flag r 2)) ≡ 0
  unfolding GoesOnBehind
  met_25 = ap (λ v. (r.t0 ⊙ x ⊖ flag r 9) ⊙ v) (gap_of_equal after.pc r.pc (1 ⊕ flag r 2) behind.1) ∙ field_mul_zero (r.t0 ⊙ x ⊖ flag r 9)

  met_26 : r.t0 ⊙ (after.pc ⊖ r.pc ⊖ r.op1) ⊕ (1 ⊖ flag r 9) ⊙ after.pc ⊖ ((1 ⊖ flag r 7 ⊖ flag r 8 ⊖ flag r 9) ⊙ (r.pc ⊕ (1 ⊕ flag r 2)) ⊕ flag r 7 ⊙ x ⊕ flag r 8 ⊙ (r.pc ⊕ x)) ≡ 0
  unfolding equations EquationHolds
  met_26 =
      rw (abs_off, rel_off, field_zero_mul x, field_zero_mul (r.pc ⊕ x))
      (rw (abs_off, rel_off, field_zero_mul r.res, field_zero_mul (r.pc ⊕ r.res)) at (n 25 (lit< tt)))

  met_27 : after.ap ≡ r.ap ⊕ flag r 10 ⊙ x ⊕ flag r 11 ⊕ 2 ⊙ flag r 12
  unfolding equations EquationHolds
  met_27 = rw (ap_add_off, field_zero_mul x) (rw (ap_add_off, field_zero_mul r.res) at (n 26 (lit< tt)))

  met_31 : flag r 14 ⊙ (r.dst ⊖ x) ≡ 0
  met_31 = ap (λ v. v ⊙ (r.dst ⊖ x)) assert_off ∙ field_zero_mul (r.dst ⊖ x)

  meets' : Meets (with_res r x) after
  unfolding Meets equations EquationHolds with_res flag
  meets' =
      All-from_recursion EquationHolds (equations (with_res r x) after)
      (n 0 (lit< tt), (n 1 (lit< tt), (n 2 (lit< tt), (n 3 (lit< tt), (n 4 (lit< tt), (n 5 (lit< tt), (n 6 (lit< tt), (n 7 (lit< tt), (n 8 (lit< tt), (n 9 (lit< tt), (n 10 (lit< tt), (n 11 (lit< tt), (n 12 (lit< tt), (n 13 (lit< tt), (n 14 (lit< tt), (n 15 (lit< tt), (n 16 (lit< tt), (n 17 (lit< tt), (n 18 (lit< tt), (n 19 (lit< tt), (n 20 (lit< tt), (met_22, (n 22 (lit< tt), (refl, (met_25, (met_26, (met_27, (n 27 (lit< tt), (n 28 (lit< tt), (n 29 (lit< tt), (met_31, (n 31 (lit< tt), (n 32 (lit< tt), (n 33 (lit< tt), (n 34 (lit< tt), (n 35 (lit< tt), (n 36 (lit< tt), (n 37 (lit< tt), (n 38 (lit< tt), tt)))))))))))))))))))))))))))))))))))))))

  below_prime : ℕ → Type 0
  below_prime v = v < prime

  in_field' : IsInField (with_res r x)
  unfolding with_res values below_prime
  in_field' =
      let low = tells.row.in_field in
      let b = in_back r low in
      All-append (λ v. v < prime) (front r low) (r.off_dst ∷ r.off_op0 ∷ r.off_op1 ∷ r.dst_addr ∷ r.op0_addr ∷ r.op1_addr ∷ r.dst ∷ r.op0 ∷ r.op1 ∷ r.mul ∷ x ∷ r.t0 ∷ (r.t0 ⊙ x) ∷ [])
      (All-from_get_or (λ v. v < prime) (front r low) 0 (in_front r low))
      (All-from_recursion (λ v. v < prime) (r.off_dst ∷ r.off_op0 ∷ r.off_op1 ∷ r.dst_addr ∷ r.op0_addr ∷ r.op1_addr ∷ r.dst ∷ r.op0 ∷ r.op1 ∷ r.mul ∷ x ∷ r.t0 ∷ (r.t0 ⊙ x) ∷ [])
      (b 0 (lit< tt), (b 1 (lit< tt), (b 2 (lit< tt), (b 3 (lit< tt), (b 4 (lit< tt), (b 5 (lit< tt), (b 6 (lit< tt), (b 7 (lit< tt), (b 8 (lit< tt), (b 9 (lit< tt), (small, (b 11 (lit< tt), (field_mul_below r.t0 x, tt))))))))))))))

  -- the row with any number in the column res tells the step too
  pub free_res : Tells m s after (with_res r x)
  unfolding with_res state_of row_accesses offsets
  free_res = record {
    row = record { sixteen = tells.row.sixteen; in_field = in_field' };
    next_pc = tells.next_pc;
    state = tells.state;
    cells = tells.cells;
    offsets = tells.offsets;
    meets = meets';
  }

-- a row that tells a step is of a legal one
pub next-from_tells : (m : Memory) (s after : Registers) (r : Columns) → Tells m s after r → next m s ≡ Some after
next-from_tells m s after r tells =
    let step : IsStep r after = IsStep-from_meets r after tells.row.in_field tells.next_pc tells.offsets tells.meets in
    let P : Registers → Type 0 = λ u. next m u ≡ Some after in
    subst P tells.state (step.step m tells.cells)
