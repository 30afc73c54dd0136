-- The row of a step meets the equations.
use Rattle.std.proofs.Common.{◌≡◌, ℕ, ◌^◌, ◌<◌, ◌∙◌, ◌⊎◌, Bool, true, false, not, ◌&&◌, ◌||◌, ◌==◌, nat_lt, take, drop, Option, Some, None, Ok, Err, refl, sym, ap, subst, arith, inl, inr, lit<}
use Rattle.std.specs.Bool.{if◌then◌else◌, then_some}
use Rattle.std.specs.List.{All}
use Rattle.std.specs.Prelude.{slice_range, MatchBool}
use Rattle.std.proofs.lemmas.Bool.Decides.{nat_tests, when_true, when_false}
use Rattle.std.proofs.lemmas.List.Elements.{All-from_recursion, All-append}
use Rattle.std.proofs.lemmas.Nat.{shr_le}
use Rattle.std.proofs.Math.Nat.{mod-eq_of_lt, mod-lt}
use Rattle.goldilocks.specs.Field.{prime}
use Rattle.goldilocks.proofs.FieldLaws.{field_mul_below, field_add_below, field_sub_below, field_zero_mul, same_inverse}
use Rattle.casm_word.specs.declared.Flags.{Flags}
use Rattle.casm_word.specs.declared.Word.{Word}
use Rattle.casm_word.specs.declared.Shape.{Shape}
use Rattle.casm_word.specs.declared.WordFault.TheVariants.{HighBit}
use Rattle.casm_word.specs.Word.{flags_of, word_of, two_of, breaks, first_broken, unless_broken, decoding}
use Rattle.casm_word.specs.Transition.{Memory, Registers, size, dst_address, op0_address, op1_address, res, next_ap, next_fp, next_registers, has_return_pc, has_caller_fp, meets_assertion, next_by, next}
use Rattle.cpu_rows.specs.Columns.{Columns, state_of, IsInField, IsRow}
use Rattle.cpu_rows.specs.Equations.{◌⊕◌, ◌⊖◌, ◌⊙◌, flag, equations, EquationHolds, Meets}
use Rattle.cpu_rows.specs.Steps.{zero_or_one, HasFlags, HasCells, row_accesses, offsets, HasSmallOffsets, bits_from, tilde_of, IsInverseOrZero, IsRes, row_of, IsRowOf, Tells}
use Rattle.cpu_rows.proofs.Choices.{one_of_two, one_of_four, moved_by_offset, size_of_flag, next_of_ap, next_of_fp, chosen_pc, c22_holds, c25_holds, c26_holds, t1_is_0, t1_is_1, tested_gap, tested_gap_of_sum, demanded, at_most_one, two_of_turned, not_both, not_with_either, not_with_any, same_pc, same_ap, same_assertion}
use Rattle.cpu_rows.proofs.Bits.{sum_of_parts, flag_of_word}
use Rattle.cpu_rows.proofs.EachEquation.{first_fifteen-HasFlags, ap_low, fp_low, dst_low, op0_low, op1_low, res_low}

-- ---- a number that is decoded

decoded_by : (b : Bool) (o : Option Shape) (v w : Word) → (if b then unless_broken o v else Err HighBit) ≡ Ok w → (b ≡ true) × (o ≡ None) × (v ≡ w)
decoded_by true None v w e = (refl, refl, cc)
decoded_by true (Some s) v w e = cc
decoded_by false o v w e = cc

pub decoded : (n : ℕ) (w : Word) → decoding n ≡ Ok w → (n < 2 ^ 63) × (first_broken (flags_of n) ≡ None) × (word_of n ≡ w)
unfolding decoding
decoded n w e =
    let d = decoded_by (nat_lt n (2 ^ 63)) (first_broken (flags_of n)) (word_of n) w e in
    (grind (arith, nat_tests, d.0), d.1, d.2)

-- ---- shapes that are not broken

no_first : (b : Bool) (s : Shape) (rest : Option Shape) → (if b then Some s else rest) ≡ None → (b ≡ false) × (rest ≡ None)
no_first true s rest e = cc
no_first false s rest e = (refl, e)

pub record IsUnbroken (f : Flags) : Type 0 where
  pub one_base : two_of f.op1_imm f.op1_fp f.op1_ap ≡ false
  pub one_res : two_of f.res_add f.res_mul f.pc_jnz ≡ false
  pub one_pc : two_of f.pc_abs f.pc_rel f.pc_jnz ≡ false
  pub one_opcode : two_of f.op_call f.op_ret f.op_assert ≡ false
  pub one_ap : f.ap_add && f.ap_add1 ≡ false
  pub jnz_alone : f.pc_jnz && (f.op_call || f.op_ret || f.op_assert) ≡ false
  pub jnz_keeps_ap : f.pc_jnz && f.ap_add ≡ false
  pub call_keeps_ap : f.op_call && (f.ap_add || f.ap_add1) ≡ false

pub IsUnbroken-from_first : (f : Flags) → first_broken f ≡ None → IsUnbroken f
unfolding first_broken breaks
IsUnbroken-from_first f e =
    let h1 = no_first _ _ _ e in
    let h2 = no_first _ _ _ h1.1 in
    let h3 = no_first _ _ _ h2.1 in
    let h4 = no_first _ _ _ h3.1 in
    let h5 = no_first _ _ _ h4.1 in
    let h6 = no_first _ _ _ h5.1 in
    let h7 = no_first _ _ _ h6.1 in
    let h8 = no_first _ _ _ h7.1 in
    record {
      one_base = h1.0;
      one_res = h2.0;
      one_pc = h3.0;
      one_opcode = h4.0;
      one_ap = h5.0;
      jnz_alone = h6.0;
      jnz_keeps_ap = h7.0;
      call_keeps_ap = h8.0;
    }

-- an excluding equation from an unbroken shape
unbroken_back : (x : ℕ) (t : Bool) → (x == 0) ≡ not t → t ≡ false → x ≡ 0
unbroken_back x true e h = cc
unbroken_back x false e h = grind (arith, nat_tests)

-- the three demands of an opcode
demands : (a b c : Bool) (x y : Registers) → then_some (a && b && c) x ≡ Some y → (a ≡ true) × (b ≡ true) × (c ≡ true) × (x ≡ y)
demands false b c x y e = cc
demands true false c x y e = cc
demands true true false x y e = cc
demands true true true x y e = (refl, refl, refl, cc)

-- where dst is 0, a conditional jump goes on behind
stays : (abs rel jnz : Bool) (pc size dst op1 x : ℕ) → two_of abs rel jnz ≡ false → jnz ≡ true → dst ≡ 0 → chosen_pc abs rel jnz pc size dst op1 x ≡ pc ⊕ size
stays true true jnz pc size dst op1 x h j e = cc
stays true false true pc size dst op1 x h j e = cc
stays false true true pc size dst op1 x h j e = cc
stays true false false pc size dst op1 x h j e = cc
stays false true false pc size dst op1 x h j e = cc
stays false false jnz pc size dst op1 x h j e = rw (j, e) refl

is_0 : (x : ℕ) → (x == 0) ≡ true → x ≡ 0
is_0 x e = grind (arith, nat_tests)

first_two : (a b c : Bool) → two_of a b c ≡ false → a && b ≡ false
first_two true true c h = cc
first_two true false c h = refl
first_two false b c h = refl

module _ (s : Registers) (n d a b x : ℕ) (below : n < 2 ^ 63) (defined : IsUnbroken (flags_of n)) where
  abbrev f : Flags
  f = flags_of n

  abbrev r : Columns
  r = row_of s n (word_of n) d a b x

  bits_low : (k : ℕ) → bits_from n k < prime
  bits_low k = omega (arith, shr_le n k)

  has_flags : HasFlags r f
  unfolding row_of tilde_of flags_of word_of flag
  has_flags = record {
    dst_fp = flag_of_word n 48 (bits_low 48);
    op0_fp = flag_of_word n 49 (bits_low 49);
    op1_imm = flag_of_word n 50 (bits_low 50);
    op1_fp = flag_of_word n 51 (bits_low 51);
    op1_ap = flag_of_word n 52 (bits_low 52);
    res_add = flag_of_word n 53 (bits_low 53);
    res_mul = flag_of_word n 54 (bits_low 54);
    pc_abs = flag_of_word n 55 (bits_low 55);
    pc_rel = flag_of_word n 56 (bits_low 56);
    pc_jnz = flag_of_word n 57 (bits_low 57);
    ap_add = flag_of_word n 58 (bits_low 58);
    ap_add1 = flag_of_word n 59 (bits_low 59);
    op_call = flag_of_word n 60 (bits_low 60);
    op_ret = flag_of_word n 61 (bits_low 61);
    op_assert = flag_of_word n 62 (bits_low 62);
  }

  small_offsets : HasSmallOffsets r
  unfolding offsets row_of
  small_offsets = All-from_recursion (λ o. o < 2 ^ 16) (offsets r) (mod-lt (bits_from n 0) (lit< tt), (mod-lt (bits_from n 16) (lit< tt), (mod-lt (bits_from n 32) (lit< tt), tt)))

  last_is_0 : bits_from n 63 ≡ 0
  last_is_0 = omega arith

  size_is : 1 ⊕ zero_or_one f.op1_imm ≡ size f
  size_is = size_of_flag f.op1_imm

  met_18 : r.dst_addr ≡ flag r 0 ⊙ s.fp ⊕ (1 ⊖ flag r 0) ⊙ s.ap ⊕ r.off_dst ⊖ 2 ^ 15
  unfolding row_of word_of
  met_18 = rw has_flags.dst_fp (moved_by_offset (if f.dst_fp then s.fp else s.ap) r.off_dst (mod-lt (bits_from n 0) (lit< tt)) ∙ sym (one_of_two f.dst_fp s.fp s.ap r.off_dst))

  met_19 : r.op0_addr ≡ flag r 1 ⊙ s.fp ⊕ (1 ⊖ flag r 1) ⊙ s.ap ⊕ r.off_op0 ⊖ 2 ^ 15
  unfolding row_of word_of
  met_19 = rw has_flags.op0_fp (moved_by_offset (if f.op0_fp then s.fp else s.ap) r.off_op0 (mod-lt (bits_from n 16) (lit< tt)) ∙ sym (one_of_two f.op0_fp s.fp s.ap r.off_op0))

  met_20 : r.op1_addr ≡ flag r 2 ⊙ s.pc ⊕ flag r 4 ⊙ s.ap ⊕ flag r 3 ⊙ s.fp ⊕ (1 ⊖ flag r 2 ⊖ flag r 4 ⊖ flag r 3) ⊙ a ⊕ r.off_op1 ⊖ 2 ^ 15
  unfolding row_of word_of
  met_20 =
      rw (has_flags.op1_imm, has_flags.op1_ap, has_flags.op1_fp)
      (moved_by_offset (if f.op1_imm then s.pc else (if f.op1_fp then s.fp else (if f.op1_ap then s.ap else a))) r.off_op1 (mod-lt (bits_from n 32) (lit< tt))
      ∙ sym (one_of_four f.op1_imm f.op1_ap f.op1_fp s.pc s.ap s.fp a r.off_op1 defined.one_base))

  -- the last eight equations
  met_shapes : (after : Registers) → All EquationHolds (drop 31 (equations r after))
  unfolding equations EquationHolds row_of flags_of word_of
  met_shapes after = All-from_recursion EquationHolds (drop 31 (equations r after)) (rw (has_flags.op1_imm, has_flags.op1_ap, has_flags.op1_fp) (unbroken_back _ _ (at_most_one f.op1_imm f.op1_ap f.op1_fp) (two_of_turned f.op1_imm f.op1_ap f.op1_fp ∙ defined.one_base)), (rw (has_flags.res_add, has_flags.res_mul, has_flags.pc_jnz) (unbroken_back _ _ (at_most_one f.res_add f.res_mul f.pc_jnz) defined.one_res), (rw (has_flags.pc_abs, has_flags.pc_rel, has_flags.pc_jnz) (unbroken_back _ _ (at_most_one f.pc_abs f.pc_rel f.pc_jnz) defined.one_pc), (rw (has_flags.op_call, has_flags.op_ret, has_flags.op_assert) (unbroken_back _ _ (at_most_one f.op_call f.op_ret f.op_assert) defined.one_opcode), (rw (has_flags.ap_add, has_flags.ap_add1) (unbroken_back _ _ (not_both f.ap_add f.ap_add1) defined.one_ap), (rw (has_flags.pc_jnz, has_flags.op_call, has_flags.op_ret, has_flags.op_assert) (unbroken_back _ _ (not_with_any f.pc_jnz f.op_call f.op_ret f.op_assert) defined.jnz_alone), (rw (has_flags.pc_jnz, has_flags.ap_add) (unbroken_back _ _ (not_both f.pc_jnz f.ap_add) defined.jnz_keeps_ap), (rw (has_flags.op_call, has_flags.ap_add, has_flags.ap_add1) (unbroken_back _ _ (not_with_either f.op_call f.ap_add f.ap_add1) defined.call_keeps_ap), tt))))))))

  module _ (low : IsInField r) (column : IsRes f d a b x) where
    res_is : f.pc_jnz ≡ false → x ≡ res f a b
    unfolding IsRes
    res_is j = when_false (IsInverseOrZero d x) (x ≡ res f a b) j column

    -- the first 24 equations
    pub met_by_making : (after : Registers) → All EquationHolds (take 24 (equations r after))
    unfolding equations EquationHolds row_of tilde_of flags_of word_of
    met_by_making after =
        All-append EquationHolds (take 15 (equations r after)) (slice_range (equations r after) 15 24) (first_fifteen-HasFlags r after f has_flags)
        (All-from_recursion EquationHolds (slice_range (equations r after) 15 24) (last_is_0, (sum_of_parts n below, (met_18, (met_19, (met_20, (refl, (rw (has_flags.pc_jnz, has_flags.res_add, has_flags.res_mul) (c22_holds f.res_add f.res_mul f.pc_jnz a b x (res_low r low) (op1_low r low) defined.one_res res_is), (rw has_flags.pc_jnz refl, (refl, tt))))))))))

    module _ (after : Registers) (goes_on : next_by f s d a b ≡ Some after) where
      met_demands : (has_return_pc f s a ≡ true) × (has_caller_fp f s d ≡ true) × (meets_assertion f d a b ≡ true) × (next_registers f s d a b ≡ after)
      met_demands = demands (has_return_pc f s a) (has_caller_fp f s d) (meets_assertion f d a b) (next_registers f s d a b) after goes_on

      pc_is : after.pc ≡ chosen_pc f.pc_abs f.pc_rel f.pc_jnz s.pc (size f) d b x
      pc_is =
          ap (λ (t : Registers). t.pc) (sym met_demands.3)
          ∙ sym (same_pc f.pc_abs f.pc_rel f.pc_jnz s.pc (size f) d b x (res f a b) defined.one_pc res_is)

      ap_is : after.ap ≡ next_ap f s a b
      ap_is = ap (λ (t : Registers). t.ap) (sym met_demands.3)

      fp_is : after.fp ≡ next_fp f s d
      fp_is = ap (λ (t : Registers). t.fp) (sym met_demands.3)

      -- where a jump is conditional, dst has an inverse in the column res, or the next pc lies behind
      jump_is_told : f.pc_jnz ≡ true → (zero_or_one f.pc_jnz ⊙ d ⊙ x ≡ 1) ⊎ (after.pc ≡ s.pc ⊕ size f)
      unfolding IsRes IsInverseOrZero row_of
      jump_is_told j =
          let known : IsInverseOrZero d x = when_true (IsInverseOrZero d x) (x ≡ res f a b) j column in
          elim (known.1) [
            | inl e ↦ inl (t1_is_1 f.pc_jnz d x (dst_low r low) j e)
            | inr e ↦ inr (pc_is ∙ stays f.pc_abs f.pc_rel f.pc_jnz s.pc (size f) d b x defined.one_pc j e.0)
          ]

      met_25 : (r.t1 ⊖ flag r 9) ⊙ (after.pc ⊖ s.pc ⊖ (1 ⊕ flag r 2)) ≡ 0
      unfolding row_of word_of flags_of
      met_25 = rw (has_flags.pc_jnz, has_flags.op1_imm, size_is) (c25_holds f.pc_jnz r.t1 after.pc s.pc (size f) (t1_is_0 f.pc_jnz d x) jump_is_told)

      met_29 : flag r 12 ⊙ (d ⊖ s.fp) ≡ 0
      unfolding row_of
      met_29 =
          let test = demanded f.op_call (d == s.fp) (d ⊖ s.fp) (field_sub_below d s.fp) (tested_gap d s.fp (dst_low r low) (fp_low r low)) in
          rw has_flags.op_call (is_0 _ (test ∙ met_demands.1))

      met_30 : flag r 12 ⊙ (a ⊖ s.pc ⊖ (1 ⊕ flag r 2)) ≡ 0
      unfolding row_of
      met_30 =
          let test = demanded f.op_call (a == (s.pc ⊕ size f)) (a ⊖ s.pc ⊖ size f) (field_sub_below (a ⊖ s.pc) (size f)) (tested_gap_of_sum a s.pc (size f) (op0_low r low)) in
          rw (has_flags.op_call, has_flags.op1_imm, size_is) (is_0 _ (test ∙ met_demands.0))

      met_31 : flag r 14 ⊙ (d ⊖ x) ≡ 0
      unfolding row_of
      met_31 =
          let test = demanded f.op_assert (d == x) (d ⊖ x) (field_sub_below d x) (tested_gap d x (dst_low r low) (res_low r low)) in
          let same = same_assertion f.op_call f.op_ret f.op_assert f.pc_jnz d x (res f a b) defined.jnz_alone res_is in
          rw has_flags.op_assert (is_0 _ (test ∙ (same ∙ met_demands.2)))

      met_after : All EquationHolds (slice_range (equations r after) 24 31)
      unfolding equations EquationHolds row_of flags_of word_of
      met_after = All-from_recursion EquationHolds (slice_range (equations r after) 24 31) (met_25, (rw (has_flags.pc_abs, has_flags.pc_rel, has_flags.pc_jnz, has_flags.op1_imm, size_is) (c26_holds f.pc_abs f.pc_rel f.pc_jnz d b x r.t0 after.pc s.pc (size f) (res_low r low) (dst_low r low) defined.one_pc refl pc_is), (rw (has_flags.ap_add, has_flags.ap_add1, has_flags.op_call) (ap_is ∙ sym (next_of_ap f.op_call f.ap_add f.ap_add1 s.ap x (ap_low r low) defined.one_ap defined.call_keeps_ap ∙ same_ap f.op_call f.ap_add f.ap_add1 f.pc_jnz s.ap x (res f a b) defined.jnz_keeps_ap res_is)), (rw (has_flags.op_ret, has_flags.op_call) (fp_is ∙ sym (next_of_fp f.op_call f.op_ret s.ap d s.fp (dst_low r low) (fp_low r low) (first_two f.op_call f.op_ret f.op_assert defined.one_opcode))), (met_29, (met_30, (met_31, tt)))))))

      pub meets : Meets r after
      unfolding Meets equations
      meets =
          All-append EquationHolds (take 24 (equations r after)) (drop 24 (equations r after)) (met_by_making after)
          (All-append EquationHolds (slice_range (equations r after) 24 31) (drop 31 (equations r after)) met_after (met_shapes after))

-- what the transition function looks at in the memory, one cell after the other
goes_on : (m : Memory) (s after : Registers) (n : ℕ) (w : Word) (d a b : ℕ) → m s.pc ≡ Some n → decoding n ≡ Ok w → m (dst_address w s) ≡ Some d → m (op0_address w s) ≡ Some a → m (op1_address w s a) ≡ Some b → next m s ≡ next_by w.flags s d a b
unfolding next
goes_on m s after n w d a b c0 e c1 c2 c3 = rw (c0, e, c1, c2, c3) refl

with_word : (s after : Registers) (n d a b x : ℕ) (w : Word) → n < 2 ^ 63 → first_broken (flags_of n) ≡ None → word_of n ≡ w → IsInField (row_of s n w d a b x) → IsRes w.flags d a b x → next_by w.flags s d a b ≡ Some after → Meets (row_of s n w d a b x) after
unfolding word_of
with_word s after n d a b x w below defined e =
    let P : Word → Type 0 = λ v. IsInField (row_of s n v d a b x) → IsRes v.flags d a b x → next_by v.flags s d a b ≡ Some after → Meets (row_of s n v d a b x) after in
    subst P e (λ low column. meets s n d a b x below (IsUnbroken-from_first (flags_of n) defined) low column after)

-- the row of a step meets the equations
pub Meets-from_row_of : (m : Memory) (s after : Registers) (r : Columns) → IsInField r → IsRowOf m s r → next m s ≡ Some after → Meets r after
Meets-from_row_of m s after r low row step =
    let w : Word = row.word in
    let d = decoded r.inst w row.decodes in
    let by : next_by w.flags s r.dst r.op0 r.op1 ≡ Some after =
    sym (goes_on m s after r.inst w r.dst r.op0 r.op1 row.inst row.decodes row.dst row.op0 row.op1) ∙ step in
    let there : Meets (row_of s r.inst w r.dst r.op0 r.op1 r.res) after =
    with_word s after r.inst r.dst r.op0 r.op1 r.res w d.0 d.1 d.2 (subst IsInField row.columns low) row.res by in
    let P : Columns → Type 0 = λ t. Meets t after in
    subst P (sym row.columns) there

offsets_of_word : (s : Registers) (n d a b x : ℕ) (w : Word) → n < 2 ^ 63 → first_broken (flags_of n) ≡ None → word_of n ≡ w → HasSmallOffsets (row_of s n w d a b x)
offsets_of_word s n d a b x w below defined e =
    let P : Word → Type 0 = λ v. HasSmallOffsets (row_of s n v d a b x) in
    subst P e (small_offsets s n d a b x below (IsUnbroken-from_first (flags_of n) defined))

-- its offsets have sixteen bits
pub HasSmallOffsets-from_row_of : (m : Memory) (s : Registers) (r : Columns) → IsRowOf m s r → HasSmallOffsets r
HasSmallOffsets-from_row_of m s r row =
    let d = decoded r.inst row.word row.decodes in
    subst HasSmallOffsets (sym row.columns) (offsets_of_word s r.inst r.dst r.op0 r.op1 r.res row.word d.0 d.1 d.2)

-- and its cells are those of the memory
pub HasCells-from_row_of : (m : Memory) (s : Registers) (r : Columns) → IsRowOf m s r → HasCells m (row_accesses r)
unfolding row_accesses row_of
HasCells-from_row_of m s r row =
    let P : Columns → Type 0 = λ t. HasCells m (row_accesses t) in
    subst P (sym row.columns)
    (All-from_recursion (λ (c : ℕ × ℕ). m c.0 ≡ Some c.1) (row_accesses (row_of s r.inst row.word r.dst r.op0 r.op1 r.res))
    (row.inst, (row.dst, (row.op0, (row.op1, tt)))))

pub state_of_row_of : (m : Memory) (s : Registers) (r : Columns) → IsRowOf m s r → state_of r ≡ s
unfolding state_of row_of
state_of_row_of m s r row = ap state_of row.columns

-- ---- the next pc is a number of the field

res_below : (f : Flags) (op0 op1 : ℕ) → op1 < prime → res f op0 op1 < prime
res_below f op0 op1 low = choice f.res_add f.res_mul
  where
    choice : (add mul : Bool) → (if add then op0 ⊕ op1 else (if mul then op0 ⊙ op1 else op1)) < prime
    choice true mul = field_add_below op0 op1
    choice false true = field_mul_below op0 op1
    choice false false = low

chosen_below : (abs rel jnz : Bool) (pc size dst op1 x : ℕ) → x < prime → chosen_pc abs rel jnz pc size dst op1 x < prime
chosen_below true rel jnz pc size dst op1 x low = low
chosen_below false true jnz pc size dst op1 x low = field_add_below pc x
chosen_below false false jnz pc size dst op1 x low = last (jnz && not (dst == 0))
  where
    last : (b : Bool) → (if b then pc ⊕ op1 else pc ⊕ size) < prime
    last true = field_add_below pc op1
    last false = field_add_below pc size

next_pc_below : (f : Flags) (s after : Registers) (d a b : ℕ) → b < prime → next_by f s d a b ≡ Some after → after.pc < prime
next_pc_below f s after d a b low e =
    let g = demands (has_return_pc f s a) (has_caller_fp f s d) (meets_assertion f d a b) (next_registers f s d a b) after e in
    let P : ℕ → Type 0 = λ v. v < prime in
    subst P (ap (λ (t : Registers). t.pc) g.3) (chosen_below f.pc_abs f.pc_rel f.pc_jnz s.pc (size f) d b (res f a b) (res_below f a b low))

-- the row of a step tells it
pub Tells-from_row_of : (m : Memory) (s after : Registers) (r : Columns) → IsRow r → IsRowOf m s r → next m s ≡ Some after → Tells m s after r
Tells-from_row_of m s after r is row step = record {
  row = is;
  next_pc =
      next_pc_below row.word.flags s after r.dst r.op0 r.op1 (op1_low r is.in_field)
      (sym (goes_on m s after r.inst row.word r.dst r.op0 r.op1 row.inst row.decodes row.dst row.op0 row.op1) ∙ step);
  state = state_of_row_of m s r row;
  cells = HasCells-from_row_of m s r row;
  offsets = HasSmallOffsets-from_row_of m s r row;
  meets = Meets-from_row_of m s after r is.in_field row step;
}

-- ---- a step has one such row

one_inverse : (d x y : ℕ) → IsInverseOrZero d x → IsInverseOrZero d y → x ≡ y
unfolding IsInverseOrZero
one_inverse d x y p q =
    elim (p.1) [
      | inl e ↦
          elim (q.1) [
            | inl g ↦ sym (mod-eq_of_lt p.0) ∙ (same_inverse d x y e g ∙ mod-eq_of_lt q.0)
            | inr g ↦ absurd (zero_is_one x (sym (ap (λ v. v ⊙ x) g.0) ∙ e))
          ]
      | inr e ↦
          elim (q.1) [
            | inl g ↦ absurd (zero_is_one y (sym (ap (λ v. v ⊙ y) e.0) ∙ g))
            | inr g ↦ e.1 ∙ sym g.1
          ]
    ]
  where
    zero_is_one : (v : ℕ) → 0 ⊙ v ≡ 1 → ⊥
    zero_is_one v h = let k : 0 ≡ 1 = sym (field_zero_mul v) ∙ h in omega (arith, k)

one_res_column : (j : Bool) (d x y z : ℕ) → MatchBool j (IsInverseOrZero d x) (x ≡ z) → MatchBool j (IsInverseOrZero d y) (y ≡ z) → x ≡ y
one_res_column true d x y z p q = one_inverse d x y p q
one_res_column false d x y z p q = p ∙ sym q

same_res_column : (f : Flags) (d a b x y : ℕ) → IsRes f d a b x → IsRes f d a b y → x ≡ y
unfolding IsRes
same_res_column f d a b x y p q = one_res_column f.pc_jnz d x y (res f a b) p q

pub one_row_of : (m : Memory) (s : Registers) (a b : Columns) → IsRowOf m s a → IsRowOf m s b → a ≡ b
one_row_of m s a b p q =
    let inst : a.inst ≡ b.inst = let x = p.inst in let y = q.inst in cc in
    let word : p.word ≡ q.word = let x = p.decodes in let y : decoding b.inst ≡ Ok q.word = q.decodes in let e : decoding a.inst ≡ decoding b.inst = ap decoding inst in cc in
    let dst : a.dst ≡ b.dst = let e : m (dst_address p.word s) ≡ m (dst_address q.word s) = ap (λ w. m (dst_address w s)) word in let x = p.dst in let y = q.dst in cc in
    let op0 : a.op0 ≡ b.op0 = let e : m (op0_address p.word s) ≡ m (op0_address q.word s) = ap (λ w. m (op0_address w s)) word in let x = p.op0 in let y = q.op0 in cc in
    let op1 : a.op1 ≡ b.op1 =
    let e : m (op1_address p.word s a.op0) ≡ m (op1_address q.word s b.op0) = rw (word, op0) refl in
    let x = p.op1 in
    let y = q.op1 in
    cc in
    let res : a.res ≡ b.res =
    same_res_column q.word.flags b.dst b.op0 b.op1 a.res b.res (rw (word, dst, op0, op1) at p.res) q.res in
    p.columns ∙ (rw (inst, word, dst, op0, op1, res) refl ∙ sym q.columns)

-- ---- the equations that a row meets by how it is made, whether or not there is a step

pub made_of_word : (s after : Registers) (n d a b x : ℕ) (w : Word) → n < 2 ^ 63 → first_broken (flags_of n) ≡ None → word_of n ≡ w → IsInField (row_of s n w d a b x) → IsRes w.flags d a b x → All EquationHolds (take 24 (equations (row_of s n w d a b x) after)) × All EquationHolds (drop 31 (equations (row_of s n w d a b x) after)) × HasFlags (row_of s n w d a b x) w.flags
unfolding word_of
made_of_word s after n d a b x w below defined e =
    let P : Word → Type 0 = λ v. IsInField (row_of s n v d a b x) → IsRes v.flags d a b x → All EquationHolds (take 24 (equations (row_of s n v d a b x) after)) × All EquationHolds (drop 31 (equations (row_of s n v d a b x) after)) × HasFlags (row_of s n v d a b x) v.flags in
    let u = IsUnbroken-from_first (flags_of n) defined in
    subst P e (λ low column. (met_by_making s n d a b x below u low column after, met_shapes s n d a b x below u after, has_flags s n d a b x below u))

pub made : (m : Memory) (s after : Registers) (r : Columns) → IsInField r → (row : IsRowOf m s r) → All EquationHolds (take 24 (equations r after)) × All EquationHolds (drop 31 (equations r after)) × HasFlags r row.word.flags
made m s after r low row =
    let w : Word = row.word in
    let d = decoded r.inst w row.decodes in
    let P : Columns → Type 0 = λ t. All EquationHolds (take 24 (equations t after)) × All EquationHolds (drop 31 (equations t after)) × HasFlags t w.flags in
    subst P (sym row.columns) (made_of_word s after r.inst r.dst r.op0 r.op1 r.res w d.0 d.1 d.2 (subst IsInField row.columns low) row.res)
