-- A row that meets the equations is a step. Its flags and offsets are those of its word. Its addresses and what it
-- computes are those of the transition function, and the next state is that one's.
use Rattle.std.proofs.Common.{◌≡◌, ℕ, ◌+◌, ◌*◌, ◌%◌, ◌^◌, ◌<◌, ◌∙◌, Bool, true, false, not, ◌&&◌, ◌||◌, ◌==◌, nat_lt, length, get_or, Some, None, Ok, refl, sym, ap, arith, lit<, lit≤, below_none, below_more}
use Rattle.std.proofs.lemmas.List.{ext_get_or}
use Rattle.std.specs.Bool.{if◌then◌else◌}
use Rattle.std.specs.Prelude.{pos, ◌-ℤ◌, slice_index}
use Rattle.std.proofs.lemmas.Bool.Decides.{nat_tests}
use Rattle.std.proofs.lemmas.List.Elements.{All-get_or, All-take}
use Rattle.goldilocks.specs.Field.{prime}
use Rattle.goldilocks.proofs.FieldLaws.{flags, field_sub_below}
use Rattle.std.proofs.Math.Nat.{mod-eq_of_lt}
use Rattle.casm_word.specs.declared.Flags.{Flags}
use Rattle.casm_word.specs.declared.Word.{Word}
use Rattle.casm_word.specs.Word.{bit, flags_of, word_of, two_of, breaks, first_broken, decoding}
use Rattle.casm_word.specs.Transition.{Memory, Registers, size, dst_address, op0_address, op1_address, res, next_pc, next_ap, next_fp, next_registers, has_return_pc, has_caller_fp, meets_assertion, next_by, next}
use Rattle.cpu_rows.specs.Columns.{Columns, state_of, IsInField}
use Rattle.cpu_rows.specs.Equations.{◌⊕◌, ◌⊖◌, ◌⊙◌, ◌≐◌, C, flag, equations, EquationHolds, Meets}
use Rattle.cpu_rows.specs.Steps.{zero_or_one, HasFlags, HasWord, HasCells, row_accesses, offsets, HasSmallOffsets, IsStep, bits_from, tilde_of}
use Rattle.cpu_rows.proofs.Choices.{one_of_two, one_of_four, moved_by_offset, one_of_three, size_of_flag, next_of_ap, next_of_fp, pc_after, tested_gap, tested_gap_of_sum, demanded, at_most_one, two_of_turned, not_both, not_with_either, not_with_any, same_pc, same_ap, same_assertion}
use Rattle.cpu_rows.proofs.Bits.{taken_apart, bit_of_word, rest_of_word, put_together, parts_of_word}
use Rattle.cpu_rows.proofs.EachEquation.{ap_low, fp_low, dst_low, op0_low, op1_low, res_low, tilde_low, HasFlags-row_flags, row_flags}

-- a test that is not met by a broken shape
unbroken : (x : ℕ) (t : Bool) → (x == 0) ≡ not t → x ≡ 0 → t ≡ false
unbroken x true e h = absurd (off (sym e ∙ ap (λ v. v == 0) h))
  where
    off : false ≡ true → ⊥
    off q = cc
unbroken x false e h = refl

first_two : (a b c : Bool) → two_of a b c ≡ false → a && b ≡ false
first_two true true c h = cc
first_two true false c h = refl
first_two false b c h = refl

module _ (r : Columns) (after : Registers) (f : Flags) (has : HasFlags r f) (meets : Meets r after) where
  pub nth : (k : ℕ) → k < 39 → EquationHolds (get_or (equations r after) k (C 0 (0 ≐ 0)))
  unfolding equations Meets
  nth k h = All-get_or EquationHolds (equations r after) k (C 0 (0 ≐ 0)) h meets

  -- ---- the shapes

  one_base : two_of f.op1_imm f.op1_ap f.op1_fp ≡ false
  unfolding equations EquationHolds
  one_base = unbroken _ _ (at_most_one f.op1_imm f.op1_ap f.op1_fp) (rw (has.op1_imm, has.op1_ap, has.op1_fp) at (nth 31 (lit< tt)))

  pub one_res : two_of f.res_add f.res_mul f.pc_jnz ≡ false
  unfolding equations EquationHolds
  one_res = unbroken _ _ (at_most_one f.res_add f.res_mul f.pc_jnz) (rw (has.res_add, has.res_mul, has.pc_jnz) at (nth 32 (lit< tt)))

  pub one_pc : two_of f.pc_abs f.pc_rel f.pc_jnz ≡ false
  unfolding equations EquationHolds
  one_pc = unbroken _ _ (at_most_one f.pc_abs f.pc_rel f.pc_jnz) (rw (has.pc_abs, has.pc_rel, has.pc_jnz) at (nth 33 (lit< tt)))

  one_opcode : two_of f.op_call f.op_ret f.op_assert ≡ false
  unfolding equations EquationHolds
  one_opcode = unbroken _ _ (at_most_one f.op_call f.op_ret f.op_assert) (rw (has.op_call, has.op_ret, has.op_assert) at (nth 34 (lit< tt)))

  one_ap : f.ap_add && f.ap_add1 ≡ false
  unfolding equations EquationHolds
  one_ap = unbroken _ _ (not_both f.ap_add f.ap_add1) (rw (has.ap_add, has.ap_add1) at (nth 35 (lit< tt)))

  pub jnz_alone : f.pc_jnz && (f.op_call || f.op_ret || f.op_assert) ≡ false
  unfolding equations EquationHolds
  jnz_alone = unbroken _ _ (not_with_any f.pc_jnz f.op_call f.op_ret f.op_assert) (rw (has.pc_jnz, has.op_call, has.op_ret, has.op_assert) at (nth 36 (lit< tt)))

  pub jnz_keeps_ap : f.pc_jnz && f.ap_add ≡ false
  unfolding equations EquationHolds
  jnz_keeps_ap = unbroken _ _ (not_both f.pc_jnz f.ap_add) (rw (has.pc_jnz, has.ap_add) at (nth 37 (lit< tt)))

  call_keeps_ap : f.op_call && (f.ap_add || f.ap_add1) ≡ false
  unfolding equations EquationHolds
  call_keeps_ap = unbroken _ _ (not_with_either f.op_call f.ap_add f.ap_add1) (rw (has.op_call, has.ap_add, has.ap_add1) at (nth 38 (lit< tt)))

  none_broken : first_broken f ≡ None
  unfolding first_broken breaks
  none_broken =
      let turned : two_of f.op1_imm f.op1_fp f.op1_ap ≡ false = two_of_turned f.op1_imm f.op1_fp f.op1_ap ∙ one_base in
      rw (turned, one_res, one_pc, one_opcode, one_ap, jnz_alone, jnz_keeps_ap, call_keeps_ap) refl

  -- ---- the word

  module _ (low : IsInField r) (small : HasSmallOffsets r) where
    abbrev pub t : ℕ → ℕ
    t j = slice_index r.tilde j

    last_is_0 : t 15 ≡ 0
    unfolding equations EquationHolds
    last_is_0 = nth 15 (lit< tt)

    last_small : t 15 < 1
    last_small = omega (arith, last_is_0)

    apart_14 : (t 14 ≡ 2 * t 15 + zero_or_one f.op_assert) × (t 14 < 2)
    unfolding flag
    apart_14 = taken_apart (t 14) (t 15) 1 f.op_assert (lit≤ tt) (tilde_low r low 14) last_small has.op_assert

    apart_13 : (t 13 ≡ 2 * t 14 + zero_or_one f.op_ret) × (t 13 < 4)
    unfolding flag
    apart_13 = taken_apart (t 13) (t 14) 2 f.op_ret (lit≤ tt) (tilde_low r low 13) (apart_14).1 has.op_ret

    apart_12 : (t 12 ≡ 2 * t 13 + zero_or_one f.op_call) × (t 12 < 8)
    unfolding flag
    apart_12 = taken_apart (t 12) (t 13) 4 f.op_call (lit≤ tt) (tilde_low r low 12) (apart_13).1 has.op_call

    apart_11 : (t 11 ≡ 2 * t 12 + zero_or_one f.ap_add1) × (t 11 < 16)
    unfolding flag
    apart_11 = taken_apart (t 11) (t 12) 8 f.ap_add1 (lit≤ tt) (tilde_low r low 11) (apart_12).1 has.ap_add1

    apart_10 : (t 10 ≡ 2 * t 11 + zero_or_one f.ap_add) × (t 10 < 32)
    unfolding flag
    apart_10 = taken_apart (t 10) (t 11) 16 f.ap_add (lit≤ tt) (tilde_low r low 10) (apart_11).1 has.ap_add

    apart_9 : (t 9 ≡ 2 * t 10 + zero_or_one f.pc_jnz) × (t 9 < 64)
    unfolding flag
    apart_9 = taken_apart (t 9) (t 10) 32 f.pc_jnz (lit≤ tt) (tilde_low r low 9) (apart_10).1 has.pc_jnz

    apart_8 : (t 8 ≡ 2 * t 9 + zero_or_one f.pc_rel) × (t 8 < 128)
    unfolding flag
    apart_8 = taken_apart (t 8) (t 9) 64 f.pc_rel (lit≤ tt) (tilde_low r low 8) (apart_9).1 has.pc_rel

    apart_7 : (t 7 ≡ 2 * t 8 + zero_or_one f.pc_abs) × (t 7 < 256)
    unfolding flag
    apart_7 = taken_apart (t 7) (t 8) 128 f.pc_abs (lit≤ tt) (tilde_low r low 7) (apart_8).1 has.pc_abs

    apart_6 : (t 6 ≡ 2 * t 7 + zero_or_one f.res_mul) × (t 6 < 512)
    unfolding flag
    apart_6 = taken_apart (t 6) (t 7) 256 f.res_mul (lit≤ tt) (tilde_low r low 6) (apart_7).1 has.res_mul

    apart_5 : (t 5 ≡ 2 * t 6 + zero_or_one f.res_add) × (t 5 < 1024)
    unfolding flag
    apart_5 = taken_apart (t 5) (t 6) 512 f.res_add (lit≤ tt) (tilde_low r low 5) (apart_6).1 has.res_add

    apart_4 : (t 4 ≡ 2 * t 5 + zero_or_one f.op1_ap) × (t 4 < 2048)
    unfolding flag
    apart_4 = taken_apart (t 4) (t 5) 1024 f.op1_ap (lit≤ tt) (tilde_low r low 4) (apart_5).1 has.op1_ap

    apart_3 : (t 3 ≡ 2 * t 4 + zero_or_one f.op1_fp) × (t 3 < 4096)
    unfolding flag
    apart_3 = taken_apart (t 3) (t 4) 2048 f.op1_fp (lit≤ tt) (tilde_low r low 3) (apart_4).1 has.op1_fp

    apart_2 : (t 2 ≡ 2 * t 3 + zero_or_one f.op1_imm) × (t 2 < 8192)
    unfolding flag
    apart_2 = taken_apart (t 2) (t 3) 4096 f.op1_imm (lit≤ tt) (tilde_low r low 2) (apart_3).1 has.op1_imm

    apart_1 : (t 1 ≡ 2 * t 2 + zero_or_one f.op0_fp) × (t 1 < 16384)
    unfolding flag
    apart_1 = taken_apart (t 1) (t 2) 8192 f.op0_fp (lit≤ tt) (tilde_low r low 1) (apart_2).1 has.op0_fp

    apart_0 : (t 0 ≡ 2 * t 1 + zero_or_one f.dst_fp) × (t 0 < 32768)
    unfolding flag
    apart_0 = taken_apart (t 0) (t 1) 16384 f.dst_fp (lit≤ tt) (tilde_low r low 0) (apart_1).1 has.dst_fp

    off_dst_small : r.off_dst < 2 ^ 16
    unfolding offsets
    off_dst_small = All-get_or (λ o. o < 2 ^ 16) (offsets r) 0 0 (lit< tt) small

    off_op0_small : r.off_op0 < 2 ^ 16
    unfolding offsets
    off_op0_small = All-get_or (λ o. o < 2 ^ 16) (offsets r) 1 0 (lit< tt) small

    off_op1_small : r.off_op1 < 2 ^ 16
    unfolding offsets
    off_op1_small = All-get_or (λ o. o < 2 ^ 16) (offsets r) 2 0 (lit< tt) small

    pub parts : (r.inst < 2 ^ 63) × (bits_from r.inst 0 % 2 ^ 16 ≡ r.off_dst) × (bits_from r.inst 16 % 2 ^ 16 ≡ r.off_op0) × (bits_from r.inst 32 % 2 ^ 16 ≡ r.off_op1) × (bits_from r.inst 48 ≡ t 0)
    unfolding equations EquationHolds
    parts =
        let tilde_small : t 0 < 2 ^ 15 = apart_0.1 in
        parts_of_word r.inst r.off_dst r.off_op0 r.off_op1 (t 0) off_dst_small off_op0_small off_op1_small tilde_small
        (put_together r.inst r.off_dst r.off_op0 r.off_op1 (t 0) off_dst_small off_op0_small off_op1_small tilde_small (nth 16 (lit< tt)))

    left_48 : bits_from r.inst 48 ≡ t 0
    left_48 = parts.4

    left_49 : bits_from r.inst 49 ≡ t 1
    left_49 = rest_of_word r.inst 48 (t 0) (t 1) f.dst_fp left_48 apart_0.0

    left_50 : bits_from r.inst 50 ≡ t 2
    left_50 = rest_of_word r.inst 49 (t 1) (t 2) f.op0_fp left_49 apart_1.0

    left_51 : bits_from r.inst 51 ≡ t 3
    left_51 = rest_of_word r.inst 50 (t 2) (t 3) f.op1_imm left_50 apart_2.0

    left_52 : bits_from r.inst 52 ≡ t 4
    left_52 = rest_of_word r.inst 51 (t 3) (t 4) f.op1_fp left_51 apart_3.0

    left_53 : bits_from r.inst 53 ≡ t 5
    left_53 = rest_of_word r.inst 52 (t 4) (t 5) f.op1_ap left_52 apart_4.0

    left_54 : bits_from r.inst 54 ≡ t 6
    left_54 = rest_of_word r.inst 53 (t 5) (t 6) f.res_add left_53 apart_5.0

    left_55 : bits_from r.inst 55 ≡ t 7
    left_55 = rest_of_word r.inst 54 (t 6) (t 7) f.res_mul left_54 apart_6.0

    left_56 : bits_from r.inst 56 ≡ t 8
    left_56 = rest_of_word r.inst 55 (t 7) (t 8) f.pc_abs left_55 apart_7.0

    left_57 : bits_from r.inst 57 ≡ t 9
    left_57 = rest_of_word r.inst 56 (t 8) (t 9) f.pc_rel left_56 apart_8.0

    left_58 : bits_from r.inst 58 ≡ t 10
    left_58 = rest_of_word r.inst 57 (t 9) (t 10) f.pc_jnz left_57 apart_9.0

    left_59 : bits_from r.inst 59 ≡ t 11
    left_59 = rest_of_word r.inst 58 (t 10) (t 11) f.ap_add left_58 apart_10.0

    left_60 : bits_from r.inst 60 ≡ t 12
    left_60 = rest_of_word r.inst 59 (t 11) (t 12) f.ap_add1 left_59 apart_11.0

    left_61 : bits_from r.inst 61 ≡ t 13
    left_61 = rest_of_word r.inst 60 (t 12) (t 13) f.op_call left_60 apart_12.0

    left_62 : bits_from r.inst 62 ≡ t 14
    left_62 = rest_of_word r.inst 61 (t 13) (t 14) f.op_ret left_61 apart_13.0

    left_63 : bits_from r.inst 63 ≡ t 15
    left_63 = rest_of_word r.inst 62 (t 14) (t 15) f.op_assert left_62 apart_14.0

    tilde_at : (i : ℕ) → i < 16 → get_or r.tilde i 0 ≡ get_or (tilde_of r.inst) i 0
    unfolding tilde_of
    tilde_at =
        let P : ℕ → Type 0 = λ i. get_or r.tilde i 0 ≡ get_or (tilde_of r.inst) i 0 in
        below_more P 15 (below_more P 14 (below_more P 13 (below_more P 12 (below_more P 11 (below_more P 10 (below_more P 9 (below_more P 8 (below_more P 7 (below_more P 6 (below_more P 5 (below_more P 4 (below_more P 3 (below_more P 2 (below_more P 1 (below_more P 0 (below_none P) (sym left_48)) (sym left_49)) (sym left_50)) (sym left_51)) (sym left_52)) (sym left_53)) (sym left_54)) (sym left_55)) (sym left_56)) (sym left_57)) (sym left_58)) (sym left_59)) (sym left_60)) (sym left_61)) (sym left_62)) (sym left_63)

    pub tilde_is : length r.tilde ≡ 16 → r.tilde ≡ tilde_of r.inst
    unfolding tilde_of
    tilde_is n = ext_get_or 0 r.tilde (tilde_of r.inst) n (λ i h. tilde_at i (omega (arith, h, n)))

    bit_48 : bit r.inst 48 ≡ f.dst_fp
    bit_48 = bit_of_word r.inst 48 (t 0) (t 1) f.dst_fp left_48 apart_0.0

    bit_49 : bit r.inst 49 ≡ f.op0_fp
    bit_49 = bit_of_word r.inst 49 (t 1) (t 2) f.op0_fp left_49 apart_1.0

    bit_50 : bit r.inst 50 ≡ f.op1_imm
    bit_50 = bit_of_word r.inst 50 (t 2) (t 3) f.op1_imm left_50 apart_2.0

    bit_51 : bit r.inst 51 ≡ f.op1_fp
    bit_51 = bit_of_word r.inst 51 (t 3) (t 4) f.op1_fp left_51 apart_3.0

    bit_52 : bit r.inst 52 ≡ f.op1_ap
    bit_52 = bit_of_word r.inst 52 (t 4) (t 5) f.op1_ap left_52 apart_4.0

    bit_53 : bit r.inst 53 ≡ f.res_add
    bit_53 = bit_of_word r.inst 53 (t 5) (t 6) f.res_add left_53 apart_5.0

    bit_54 : bit r.inst 54 ≡ f.res_mul
    bit_54 = bit_of_word r.inst 54 (t 6) (t 7) f.res_mul left_54 apart_6.0

    bit_55 : bit r.inst 55 ≡ f.pc_abs
    bit_55 = bit_of_word r.inst 55 (t 7) (t 8) f.pc_abs left_55 apart_7.0

    bit_56 : bit r.inst 56 ≡ f.pc_rel
    bit_56 = bit_of_word r.inst 56 (t 8) (t 9) f.pc_rel left_56 apart_8.0

    bit_57 : bit r.inst 57 ≡ f.pc_jnz
    bit_57 = bit_of_word r.inst 57 (t 9) (t 10) f.pc_jnz left_57 apart_9.0

    bit_58 : bit r.inst 58 ≡ f.ap_add
    bit_58 = bit_of_word r.inst 58 (t 10) (t 11) f.ap_add left_58 apart_10.0

    bit_59 : bit r.inst 59 ≡ f.ap_add1
    bit_59 = bit_of_word r.inst 59 (t 11) (t 12) f.ap_add1 left_59 apart_11.0

    bit_60 : bit r.inst 60 ≡ f.op_call
    bit_60 = bit_of_word r.inst 60 (t 12) (t 13) f.op_call left_60 apart_12.0

    bit_61 : bit r.inst 61 ≡ f.op_ret
    bit_61 = bit_of_word r.inst 61 (t 13) (t 14) f.op_ret left_61 apart_13.0

    bit_62 : bit r.inst 62 ≡ f.op_assert
    bit_62 = bit_of_word r.inst 62 (t 14) (t 15) f.op_assert left_62 apart_14.0

    pub flags_is : flags_of r.inst ≡ f
    unfolding flags_of
    flags_is = rw (bit_48, bit_49, bit_50, bit_51, bit_52, bit_53, bit_54, bit_55, bit_56, bit_57, bit_58, bit_59, bit_60, bit_61, bit_62) refl

    abbrev pub word : Word
    word = record {
      off_dst = pos r.off_dst -ℤ pos (2 ^ 15);
      off_op0 = pos r.off_op0 -ℤ pos (2 ^ 15);
      off_op1 = pos r.off_op1 -ℤ pos (2 ^ 15);
      flags = f;
    }

    pub word_is : word_of r.inst ≡ word
    unfolding word_of
    word_is = rw (flags_is, parts.1, parts.2, parts.3) refl

    pub decodes : decoding r.inst ≡ Ok word
    unfolding decoding
    decodes =
        let below : (nat_lt r.inst (2 ^ 63)) ≡ true = grind (arith, nat_tests, parts.0) in
        rw (below, flags_is, none_broken, word_is) refl

    has_word : HasWord r word
    has_word = record { flags = has; off_dst = refl; off_op0 = refl; off_op1 = refl }

    -- ---- the addresses

    pub dst_address_is : dst_address word (state_of r) ≡ r.dst_addr
    unfolding state_of equations EquationHolds
    dst_address_is =
        moved_by_offset (if f.dst_fp then r.fp else r.ap) r.off_dst off_dst_small
        ∙ (sym (one_of_two f.dst_fp r.fp r.ap r.off_dst) ∙ sym (rw has.dst_fp at (nth 17 (lit< tt))))

    pub op0_address_is : op0_address word (state_of r) ≡ r.op0_addr
    unfolding state_of equations EquationHolds
    op0_address_is =
        moved_by_offset (if f.op0_fp then r.fp else r.ap) r.off_op0 off_op0_small
        ∙ (sym (one_of_two f.op0_fp r.fp r.ap r.off_op0) ∙ sym (rw has.op0_fp at (nth 18 (lit< tt))))

    pub op1_address_is : op1_address word (state_of r) r.op0 ≡ r.op1_addr
    unfolding state_of equations EquationHolds
    op1_address_is =
        let turned : two_of f.op1_imm f.op1_fp f.op1_ap ≡ false = two_of_turned f.op1_imm f.op1_fp f.op1_ap ∙ one_base in
        moved_by_offset (if f.op1_imm then r.pc else (if f.op1_fp then r.fp else (if f.op1_ap then r.ap else r.op0))) r.off_op1 off_op1_small
        ∙ (sym (one_of_four f.op1_imm f.op1_ap f.op1_fp r.pc r.ap r.fp r.op0 r.off_op1 turned)
        ∙ sym (rw (has.op1_imm, has.op1_ap, has.op1_fp) at (nth 19 (lit< tt))))

    -- ---- what is computed

    pub res_is : f.pc_jnz ≡ false → r.res ≡ res f r.op0 r.op1
    unfolding equations EquationHolds
    res_is j =
        let mul_is : r.mul ≡ r.op0 ⊙ r.op1 = nth 20 (lit< tt) in
        let one : two_of f.res_add f.res_mul false ≡ false = rw j at one_res in
        let e : (1 ⊖ 0) ⊙ r.res ≡ zero_or_one f.res_add ⊙ (r.op0 ⊕ r.op1) ⊕ zero_or_one f.res_mul ⊙ (r.op0 ⊙ r.op1) ⊕ (1 ⊖ zero_or_one f.res_add ⊖ zero_or_one f.res_mul ⊖ 0) ⊙ r.op1 =
        rw (has.pc_jnz, has.res_add, has.res_mul, mul_is, j) at (nth 21 (lit< tt)) in
        let left : (1 ⊖ 0) ⊙ r.res ≡ r.res = simp flags (mod-eq_of_lt (res_low r low)) in
        sym left ∙ (e ∙ one_of_three f.res_add f.res_mul r.op0 r.op1 one (op1_low r low))

    -- ---- the next state

    pub size_is : 1 ⊕ zero_or_one f.op1_imm ≡ size f
    size_is = size_of_flag f.op1_imm

    next_pc_is : after.pc < prime → after.pc ≡ next_pc f (state_of r) r.dst r.op0 r.op1
    unfolding state_of equations EquationHolds
    next_pc_is below =
        pc_after f.pc_abs f.pc_rel f.pc_jnz r.dst r.op1 r.res r.t0 r.t1 after.pc r.pc (size f) below (res_low r low) (dst_low r low) one_pc
        (rw has.pc_jnz at (nth 22 (lit< tt)))
        (nth 23 (lit< tt))
        (rw (has.pc_jnz, has.op1_imm, size_is) at (nth 24 (lit< tt)))
        (rw (has.pc_abs, has.pc_rel, has.pc_jnz, has.op1_imm, size_is) at (nth 25 (lit< tt)))
        ∙ same_pc f.pc_abs f.pc_rel f.pc_jnz r.pc (size f) r.dst r.op1 r.res (res f r.op0 r.op1) one_pc res_is

    next_ap_is : after.ap ≡ next_ap f (state_of r) r.op0 r.op1
    unfolding state_of equations EquationHolds
    next_ap_is =
        (rw (has.ap_add, has.ap_add1, has.op_call) at (nth 26 (lit< tt)))
        ∙ (next_of_ap f.op_call f.ap_add f.ap_add1 r.ap r.res (ap_low r low) one_ap call_keeps_ap
        ∙ same_ap f.op_call f.ap_add f.ap_add1 f.pc_jnz r.ap r.res (res f r.op0 r.op1) jnz_keeps_ap res_is)

    not_called_and_returned : f.op_call && f.op_ret ≡ false
    not_called_and_returned = first_two f.op_call f.op_ret f.op_assert one_opcode

    next_fp_is : after.fp ≡ next_fp f (state_of r) r.dst
    unfolding state_of equations EquationHolds
    next_fp_is =
        (rw (has.op_ret, has.op_call) at (nth 27 (lit< tt)))
        ∙ next_of_fp f.op_call f.op_ret r.ap r.dst r.fp (dst_low r low) (fp_low r low) not_called_and_returned

    next_is : after.pc < prime → next_registers f (state_of r) r.dst r.op0 r.op1 ≡ after
    next_is below =
        let p = next_pc_is below in
        let a = next_ap_is in
        let q = next_fp_is in
        rw (← p, ← a, ← q) refl

    -- ---- what the opcode demands

    stores_fp : has_caller_fp f (state_of r) r.dst ≡ true
    unfolding state_of equations EquationHolds
    stores_fp =
        sym (demanded f.op_call (r.dst == r.fp) (r.dst ⊖ r.fp) (field_sub_below r.dst r.fp) (tested_gap r.dst r.fp (dst_low r low) (fp_low r low)))
        ∙ ap (λ v. v == 0) (rw has.op_call at (nth 28 (lit< tt)))

    stores_pc : has_return_pc f (state_of r) r.op0 ≡ true
    unfolding state_of equations EquationHolds
    stores_pc =
        sym (demanded f.op_call (r.op0 == (r.pc ⊕ size f)) (r.op0 ⊖ r.pc ⊖ size f) (field_sub_below (r.op0 ⊖ r.pc) (size f)) (tested_gap_of_sum r.op0 r.pc (size f) (op0_low r low)))
        ∙ ap (λ v. v == 0) (rw (has.op_call, has.op1_imm, size_is) at (nth 29 (lit< tt)))

    asserts : meets_assertion f r.dst r.op0 r.op1 ≡ true
    unfolding equations EquationHolds
    asserts =
        sym (same_assertion f.op_call f.op_ret f.op_assert f.pc_jnz r.dst r.res (res f r.op0 r.op1) jnz_alone res_is)
        ∙ (sym (demanded f.op_assert (r.dst == r.res) (r.dst ⊖ r.res) (field_sub_below r.dst r.res) (tested_gap r.dst r.res (dst_low r low) (res_low r low)))
        ∙ ap (λ v. v == 0) (rw has.op_assert at (nth 30 (lit< tt))))

    -- ---- the step

    next_by_is : after.pc < prime → next_by f (state_of r) r.dst r.op0 r.op1 ≡ Some after
    next_by_is below = rw (stores_pc, stores_fp, asserts, next_is below) refl

    pub cell : (m : Memory) (k : ℕ) → HasCells m (row_accesses r) → k < 4 → m (get_or (row_accesses r) k (0, 0)).0 ≡ Some (get_or (row_accesses r) k (0, 0)).1
    unfolding row_accesses
    cell m k h below = All-get_or (λ (c : ℕ × ℕ). m c.0 ≡ Some c.1) (row_accesses r) k (0, 0) below h

    pub steps : after.pc < prime → (m : Memory) → HasCells m (row_accesses r) → next m (state_of r) ≡ Some after
    unfolding next row_accesses state_of
    steps below m h =
        let c0 : m r.pc ≡ Some r.inst = cell m 0 h (lit< tt) in
        let c1 : m r.dst_addr ≡ Some r.dst = cell m 1 h (lit< tt) in
        let c2 : m r.op0_addr ≡ Some r.op0 = cell m 2 h (lit< tt) in
        let c3 : m r.op1_addr ≡ Some r.op1 = cell m 3 h (lit< tt) in
        rw (c0, decodes, dst_address_is, c1, op0_address_is, c2, op1_address_is, c3) (next_by_is below)

-- where the first fifteen equations hold, each flag is 0 or 1
pub HasFlags-from_meets : (r : Columns) (after : Registers) → Meets r after → HasFlags r (row_flags r)
unfolding equations Meets
HasFlags-from_meets r after meets =
    HasFlags-row_flags r after (All-take EquationHolds 15 (equations r after) meets)

-- a row that meets the equations is a step
pub IsStep-from_meets : (r : Columns) (after : Registers) → IsInField r → after.pc < prime → HasSmallOffsets r → Meets r after → IsStep r after
IsStep-from_meets r after low below small meets =
    let has : HasFlags r (row_flags r) = HasFlags-from_meets r after meets in
    record {
      below = (parts r after (row_flags r) has meets low small).0;
      word = rw (decodes r after (row_flags r) has meets low small) (has_word r after (row_flags r) has meets low small);
      step = steps r after (row_flags r) has meets low small below;
    }
