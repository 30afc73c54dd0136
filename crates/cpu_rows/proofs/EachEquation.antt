-- The equations of a row, with its flags as 0 and 1, one by one.
use Rattle.std.proofs.Common.{◌≡◌, ℕ, ◌<◌, ◌∙◌, Bool, true, false, ◌==◌, List, [], ◌∷◌, length, get_or, take, refl, sym, arith, inl, inr, lit<}
use Rattle.std.proofs.lemmas.Bool.{cases_lt}
use Rattle.std.proofs.lemmas.List.{get_or_past}
use Rattle.std.specs.List.{All}
use Rattle.std.proofs.lemmas.List.Elements.{All-from_recursion, All-contains, Contains-get_or, Contains-append_left, Contains-append_right}
use Rattle.std.proofs.Math.Nat.{mod-eq_of_lt}
use Rattle.goldilocks.specs.Field.{prime, field_sub, field_mul}
use Rattle.goldilocks.proofs.FieldLaws.{flag_from_product, field_sub_below}
use Rattle.casm_word.specs.declared.Flags.{Flags}
use Rattle.casm_word.specs.Transition.{Registers}
use Rattle.cpu_rows.specs.Columns.{Columns, values, IsInField}
use Rattle.cpu_rows.specs.Equations.{◌⊖◌, ◌⊙◌, ◌≐◌, C, flag, equations, EquationHolds}
use Rattle.cpu_rows.specs.Steps.{zero_or_one, HasFlags}

-- ---- numbers of the field

module _ (r : Columns) (low : IsInField r) where
  abbrev pub front : List ℕ
  front = r.pc ∷ r.ap ∷ r.fp ∷ r.inst ∷ r.tilde

  abbrev pub back : List ℕ
  back = r.off_dst ∷ r.off_op0 ∷ r.off_op1 ∷ r.dst_addr ∷ r.op0_addr ∷ r.op1_addr ∷ r.dst ∷ r.op0 ∷ r.op1 ∷ r.mul ∷ r.res ∷ r.t0 ∷ r.t1 ∷ []

  pub in_front : (k : ℕ) → k < length front → get_or front k 0 < prime
  unfolding values
  in_front k h = All-contains (λ v. v < prime) (values r) (get_or front k 0) low (Contains-append_left front back (get_or front k 0) (Contains-get_or front k 0 h))

  pub in_back : (k : ℕ) → k < 13 → get_or back k 0 < prime
  unfolding values
  in_back k h = All-contains (λ v. v < prime) (values r) (get_or back k 0) low (Contains-append_right front back (get_or back k 0) (Contains-get_or back k 0 h))

  pub ap_low : r.ap < prime
  ap_low = in_front 1 (omega arith)

  pub fp_low : r.fp < prime
  fp_low = in_front 2 (omega arith)

  pub dst_low : r.dst < prime
  dst_low = in_back 6 (lit< tt)

  pub op0_low : r.op0 < prime
  op0_low = in_back 7 (lit< tt)

  pub op1_low : r.op1 < prime
  op1_low = in_back 8 (lit< tt)

  pub res_low : r.res < prime
  res_low = in_back 10 (lit< tt)

  pub t1_low : r.t1 < prime
  t1_low = in_back 12 (lit< tt)

  pub tilde_low : (j : ℕ) → get_or r.tilde j 0 < prime
  unfolding values
  tilde_low j =
      elim (cases_lt j (length r.tilde)) [
        | inl h ↦
            let P : ℕ → Type 0 = λ v. v < prime in
            All-contains P (values r) (get_or r.tilde j 0) low
            (Contains-append_left front back (get_or r.tilde j 0)
            (Contains-append_right (r.pc ∷ r.ap ∷ r.fp ∷ r.inst ∷ []) r.tilde (get_or r.tilde j 0) (Contains-get_or r.tilde j 0 h)))
        | inr h ↦ rw (get_or_past r.tilde j 0 h) (lit< tt)
      ]

-- ---- flags

-- the flags of a row, set where they are 1
abbrev pub row_flags : Columns → Flags
row_flags r = record {
  dst_fp = flag r 0 == 1;
  op0_fp = flag r 1 == 1;
  op1_imm = flag r 2 == 1;
  op1_fp = flag r 3 == 1;
  op1_ap = flag r 4 == 1;
  res_add = flag r 5 == 1;
  res_mul = flag r 6 == 1;
  pc_abs = flag r 7 == 1;
  pc_rel = flag r 8 == 1;
  pc_jnz = flag r 9 == 1;
  ap_add = flag r 10 == 1;
  ap_add1 = flag r 11 == 1;
  op_call = flag r 12 == 1;
  op_ret = flag r 13 == 1;
  op_assert = flag r 14 == 1;
}

pub flag_low : (r : Columns) (j : ℕ) → flag r j < prime
unfolding flag
flag_low r j = field_sub_below _ _

is_zero_or_one : (x : ℕ) → x < prime → x ⊙ (x ⊖ 1) ≡ 0 → x ≡ zero_or_one (x == 1)
is_zero_or_one x low e =
    elim (flag_from_product x e) [
      | inl z ↦ let h : x ≡ 0 = sym (mod-eq_of_lt low) ∙ z in rw h refl
      | inr z ↦ let h : x ≡ 1 = sym (mod-eq_of_lt low) ∙ z in rw h refl
    ]

-- where the first fifteen equations hold, each flag is 0 or 1
pub HasFlags-row_flags : (r : Columns) (after : Registers) → All EquationHolds (take 15 (equations r after)) → HasFlags r (row_flags r)
unfolding equations EquationHolds
HasFlags-row_flags r after all =
    let h : (k : ℕ) → k < 15 → EquationHolds (get_or (take 15 (equations r after)) k (C 0 (0 ≐ 0))) = λ k below. all k (C 0 (0 ≐ 0)) below in
    record {
      dst_fp = is_zero_or_one (flag r 0) (flag_low r 0) (h 0 (lit< tt));
      op0_fp = is_zero_or_one (flag r 1) (flag_low r 1) (h 1 (lit< tt));
      op1_imm = is_zero_or_one (flag r 2) (flag_low r 2) (h 2 (lit< tt));
      op1_fp = is_zero_or_one (flag r 3) (flag_low r 3) (h 3 (lit< tt));
      op1_ap = is_zero_or_one (flag r 4) (flag_low r 4) (h 4 (lit< tt));
      res_add = is_zero_or_one (flag r 5) (flag_low r 5) (h 5 (lit< tt));
      res_mul = is_zero_or_one (flag r 6) (flag_low r 6) (h 6 (lit< tt));
      pc_abs = is_zero_or_one (flag r 7) (flag_low r 7) (h 7 (lit< tt));
      pc_rel = is_zero_or_one (flag r 8) (flag_low r 8) (h 8 (lit< tt));
      pc_jnz = is_zero_or_one (flag r 9) (flag_low r 9) (h 9 (lit< tt));
      ap_add = is_zero_or_one (flag r 10) (flag_low r 10) (h 10 (lit< tt));
      ap_add1 = is_zero_or_one (flag r 11) (flag_low r 11) (h 11 (lit< tt));
      op_call = is_zero_or_one (flag r 12) (flag_low r 12) (h 12 (lit< tt));
      op_ret = is_zero_or_one (flag r 13) (flag_low r 13) (h 13 (lit< tt));
      op_assert = is_zero_or_one (flag r 14) (flag_low r 14) (h 14 (lit< tt));
    }

-- and back
pub flag_product : (x : ℕ) (b : Bool) → x ≡ zero_or_one b → x ⊙ (x ⊖ 1) ≡ 0
unfolding field_mul field_sub
flag_product x true e = rw e refl
flag_product x false e = rw e refl

pub first_fifteen-HasFlags : (r : Columns) (after : Registers) (f : Flags) → HasFlags r f → All EquationHolds (take 15 (equations r after))
unfolding equations EquationHolds
first_fifteen-HasFlags r after f has =
    All-from_recursion EquationHolds (take 15 (equations r after))
    (flag_product (flag r 0) f.dst_fp has.dst_fp, (flag_product (flag r 1) f.op0_fp has.op0_fp, (flag_product (flag r 2) f.op1_imm has.op1_imm, (flag_product (flag r 3) f.op1_fp has.op1_fp, (flag_product (flag r 4) f.op1_ap has.op1_ap, (flag_product (flag r 5) f.res_add has.res_add, (flag_product (flag r 6) f.res_mul has.res_mul, (flag_product (flag r 7) f.pc_abs has.pc_abs, (flag_product (flag r 8) f.pc_rel has.pc_rel, (flag_product (flag r 9) f.pc_jnz has.pc_jnz, (flag_product (flag r 10) f.ap_add has.ap_add, (flag_product (flag r 11) f.ap_add1 has.ap_add1, (flag_product (flag r 12) f.op_call has.op_call, (flag_product (flag r 13) f.op_ret has.op_ret, (flag_product (flag r 14) f.op_assert has.op_assert, tt)))))))))))))))
