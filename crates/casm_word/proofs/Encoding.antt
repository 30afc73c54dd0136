-- The number of a word decodes to the word, and is the number that the word was decoded from.
use Rattle.std.proofs.Common.{◌≡◌, ℕ, zero, suc, ◌+◌, ◌-◌, ◌*◌, ◌/◌, ◌%◌, ◌^◌, ◌<◌, ◌≤◌, ◌==◌, nat_lt, w16, ℤ, pos, negsuc, ◌-ℤ◌, Bool, true, false, List, [], ◌∷◌, length, get_or, Option, Some, None, Ok, Err, refl, sym, ◌∙◌, ap, arith, lit<, inl, inr}
use Rattle.std.specs.Bool.{if◌then◌else◌}
use Rattle.std.specs.Prelude.{FitsSigned}
use Rattle.std.proofs.Math.Arith.{mod-mul}
use Rattle.std.proofs.Math.Nat.{div-div-eq-div-mul, pow-suc, mod-eq_of_lt, mod-lt}
use Rattle.std.proofs.lemmas.Bool.Decides.{nat_tests}
use Rattle.std.proofs.lemmas.Bool.{cases_lt}
use Rattle.std.proofs.lemmas.Int.{ints}
use Rattle.std.proofs.lemmas.Nat.{pow_pos}
use Rattle.casm_word.specs.declared.Flags.{Flags}
use Rattle.casm_word.specs.declared.Word.{Word}
use Rattle.casm_word.specs.declared.Shape.{Shape}
use Rattle.casm_word.specs.declared.WordFault.TheVariants.{HighBit}
use Rattle.casm_word.specs.Word.{bit, offset, flags_of, word_of, first_broken, unless_broken, decoding, biased, flag_at, flags_number, word_number}

-- a flag as a binary digit
abbrev digit : Bool → ℕ
digit b = if b then 1 else 0

flag_at-digit : (k : ℕ) (b : Bool) → flag_at k b ≡ 2 ^ k * digit b
flag_at-digit k true = omega arith
flag_at-digit k false = omega arith

-- the number whose binary digits are these, the lowest first
abbrev bits_value : List Bool → ℕ
bits_value [] = 0
bits_value (b ∷ bs) = digit b + 2 * bits_value bs

half : (b : Bool) (n : ℕ) → (digit b + 2 * n) / 2 ≡ n
half true n = omega arith
half false n = omega arith

lowest : (b : Bool) (n : ℕ) → ((digit b + 2 * n) % 2 == 1) ≡ b
lowest true n = let e : (1 + 2 * n) % 2 ≡ 1 = omega arith in ap (λ x. x == 1) e
lowest false n = let e : (0 + 2 * n) % 2 ≡ 0 = omega arith in ap (λ x. x == 1) e

bits_value-bit : (bs : List Bool) (k : ℕ) → k < length bs → bit (bits_value bs) k ≡ get_or bs k false
bits_value-bit [] k h = absurd (omega arith)
bits_value-bit (b ∷ bs) zero h =
    let e : (digit b + 2 * bits_value bs) / 1 ≡ digit b + 2 * bits_value bs = omega arith in
    ap (λ x. x % 2 == 1) e ∙ lowest b (bits_value bs)
bits_value-bit (b ∷ bs) (suc k) h =
    let n : ℕ = digit b + 2 * bits_value bs in
    let p : 2 ^ suc k ≡ 2 * 2 ^ k = omega (arith, pow-suc 2 k) in
    let e : (digit b + 2 * bits_value bs) / 2 ^ suc k ≡ bits_value bs / 2 ^ k =
    ap (λ x. (digit b + 2 * bits_value bs) / x) p
    ∙ (sym (div-div-eq-div-mul (digit b + 2 * bits_value bs) 2 (2 ^ k)) ∙ ap (λ x. x / 2 ^ k) (half b (bits_value bs))) in
    ap (λ x. x % 2 == 1) e ∙ bits_value-bit bs k (omega arith)

-- the flags, from bit 48 on
abbrev flag_list : Flags → List Bool
flag_list f = f.dst_fp ∷ f.op0_fp ∷ f.op1_imm ∷ f.op1_fp ∷ f.op1_ap ∷ f.res_add ∷ f.res_mul ∷ f.pc_abs ∷ f.pc_rel ∷ f.pc_jnz ∷ f.ap_add ∷ f.ap_add1 ∷ f.op_call ∷ f.op_ret ∷ f.op_assert ∷ []

flags_number-list : (f : Flags) → flags_number f ≡ 2 ^ 48 * bits_value (flag_list f)
unfolding flags_number
flags_number-list f =
    omega (arith, flag_at-digit 48 f.dst_fp, flag_at-digit 49 f.op0_fp, flag_at-digit 50 f.op1_imm, flag_at-digit 51 f.op1_fp, flag_at-digit 52 f.op1_ap, flag_at-digit 53 f.res_add, flag_at-digit 54 f.res_mul, flag_at-digit 55 f.pc_abs, flag_at-digit 56 f.pc_rel, flag_at-digit 57 f.pc_jnz, flag_at-digit 58 f.ap_add, flag_at-digit 59 f.ap_add1, flag_at-digit 60 f.op_call, flag_at-digit 61 f.op_ret, flag_at-digit 62 f.op_assert)

bit_from : (n : ℕ) (f : Flags) (k place : ℕ) → k < 15 → 2 ^ place ≡ 2 ^ 48 * 2 ^ k → n / 2 ^ 48 ≡ bits_value (flag_list f) → bit n place ≡ get_or (flag_list f) k false
bit_from n f k place h p q =
    let e : n / 2 ^ place ≡ bits_value (flag_list f) / 2 ^ k =
    ap (λ x. n / x) p ∙ (sym (div-div-eq-div-mul n (2 ^ 48) (2 ^ k)) ∙ ap (λ x. x / 2 ^ k) q) in
    ap (λ x. x % 2 == 1) e ∙ bits_value-bit (flag_list f) k h

flags_back : (n : ℕ) (f : Flags) → n / 2 ^ 48 ≡ bits_value (flag_list f) → flags_of n ≡ f
unfolding flags_of
flags_back n f q = λ i. record {
  dst_fp = bit_from n f 0 48 (lit< tt) refl q i;
  op0_fp = bit_from n f 1 49 (lit< tt) refl q i;
  op1_imm = bit_from n f 2 50 (lit< tt) refl q i;
  op1_fp = bit_from n f 3 51 (lit< tt) refl q i;
  op1_ap = bit_from n f 4 52 (lit< tt) refl q i;
  res_add = bit_from n f 5 53 (lit< tt) refl q i;
  res_mul = bit_from n f 6 54 (lit< tt) refl q i;
  pc_abs = bit_from n f 7 55 (lit< tt) refl q i;
  pc_rel = bit_from n f 8 56 (lit< tt) refl q i;
  pc_jnz = bit_from n f 9 57 (lit< tt) refl q i;
  ap_add = bit_from n f 10 58 (lit< tt) refl q i;
  ap_add1 = bit_from n f 11 59 (lit< tt) refl q i;
  op_call = bit_from n f 12 60 (lit< tt) refl q i;
  op_ret = bit_from n f 13 61 (lit< tt) refl q i;
  op_assert = bit_from n f 14 62 (lit< tt) refl q i;
}

digit-le : (b : Bool) → digit b ≤ 1
digit-le true = omega arith
digit-le false = omega arith

flags_below : (f : Flags) → bits_value (flag_list f) < 2 ^ 15
flags_below f =
    omega (arith, digit-le f.dst_fp, digit-le f.op0_fp, digit-le f.op1_imm, digit-le f.op1_fp, digit-le f.op1_ap, digit-le f.res_add, digit-le f.res_mul, digit-le f.pc_abs, digit-le f.pc_rel, digit-le f.pc_jnz, digit-le f.ap_add, digit-le f.ap_add1, digit-le f.op_call, digit-le f.op_ret, digit-le f.op_assert)

biased-below : (x : ℤ) → FitsSigned w16 x → biased x < 2 ^ 16
biased-below (pos n) h = let k = h.sfits in omega arith
biased-below (negsuc n) h = omega arith

biased-back : (x : ℤ) → FitsSigned w16 x → pos (biased x) -ℤ pos (2 ^ 15) ≡ x
biased-back (pos n) h = omega (arith, ints)
biased-back (negsuc n) h = let k = h.sfits in omega (arith, ints)

-- the word is found again in its number
module _ (w : Word) (fits_dst : FitsSigned w16 w.off_dst) (fits_op0 : FitsSigned w16 w.off_op0) (fits_op1 : FitsSigned w16 w.off_op1) where
  parts : word_number w ≡ biased w.off_dst + biased w.off_op0 * 2 ^ 16 + biased w.off_op1 * 2 ^ 32 + 2 ^ 48 * bits_value (flag_list w.flags)
  unfolding word_number
  parts = ap (λ x. biased w.off_dst + biased w.off_op0 * 2 ^ 16 + biased w.off_op1 * 2 ^ 32 + x) (flags_number-list w.flags)

  low : biased w.off_dst < 2 ^ 16
  low = biased-below w.off_dst fits_dst

  middle : biased w.off_op0 < 2 ^ 16
  middle = biased-below w.off_op0 fits_op0

  high : biased w.off_op1 < 2 ^ 16
  high = biased-below w.off_op1 fits_op1

  word_number-below : word_number w < 2 ^ 63
  word_number-below = omega (arith, parts, low, middle, high, flags_below w.flags)

  flags_there : word_number w / 2 ^ 48 ≡ bits_value (flag_list w.flags)
  flags_there = omega (arith, parts, low, middle, high)

  dst_there : (word_number w / 2 ^ 0) % 2 ^ 16 ≡ biased w.off_dst
  dst_there = omega (arith, parts, low)

  op0_there : (word_number w / 2 ^ 16) % 2 ^ 16 ≡ biased w.off_op0
  op0_there = omega (arith, parts, low, middle)

  op1_there : (word_number w / 2 ^ 32) % 2 ^ 16 ≡ biased w.off_op1
  op1_there = omega (arith, parts, low, middle, high)

  flags_of-number : flags_of (word_number w) ≡ w.flags
  flags_of-number = flags_back (word_number w) w.flags flags_there

  word_of-number : word_of (word_number w) ≡ w
  unfolding word_of
  word_of-number = λ i. record {
    off_dst = (ap (λ x. pos x -ℤ pos (2 ^ 15)) dst_there ∙ biased-back w.off_dst fits_dst) i;
    off_op0 = (ap (λ x. pos x -ℤ pos (2 ^ 15)) op0_there ∙ biased-back w.off_op0 fits_op0) i;
    off_op1 = (ap (λ x. pos x -ℤ pos (2 ^ 15)) op1_there ∙ biased-back w.off_op1 fits_op1) i;
    flags = flags_of-number i;
  }

  -- so it decodes to the word, where the flags are defined
  pub decoding-number : first_broken w.flags ≡ None → decoding (word_number w) ≡ Ok w
  unfolding decoding
  decoding-number defined =
      let below : nat_lt (word_number w) (2 ^ 63) ≡ true = grind (arith, nat_tests, word_number-below) in
      ap (λ b. if b then unless_broken (first_broken (flags_of (word_number w))) (word_of (word_number w)) else Err HighBit) below
      ∙ (ap (λ o. unless_broken o (word_of (word_number w))) (ap first_broken flags_of-number ∙ defined) ∙ ap Ok word_of-number)

-- a binary digit as a flag
flag_of_digit : (d p : ℕ) → d < 2 → (if d == 1 then p else 0) ≡ d * p
flag_of_digit zero p h = omega arith
flag_of_digit (suc zero) p h = omega arith
flag_of_digit (suc (suc d)) p h = absurd (omega arith)

-- one more binary digit of a number
bit_step : (v k : ℕ) → v % 2 ^ k + flag_at k (bit v k) ≡ v % 2 ^ suc k
bit_step v k =
    let p : 2 ^ suc k ≡ 2 * 2 ^ k = omega (arith, pow-suc 2 k) in
    let above : 0 < 2 ^ k = pow_pos k in
    let e : v % 2 ^ suc k ≡ (v / 2 ^ k % 2) * 2 ^ k + v % 2 ^ k = ap (λ x. v % x) p ∙ mod-mul v (lit< tt) above in
    let f : flag_at k (bit v k) ≡ (v / 2 ^ k % 2) * 2 ^ k = flag_of_digit (v / 2 ^ k % 2) (2 ^ k) (mod-lt (v / 2 ^ k) (lit< tt)) in
    omega arith

biased_of : (a : ℕ) → biased (pos a -ℤ pos (2 ^ 15)) ≡ a
biased_of a =
    elim (cases_lt a (2 ^ 15)) [
      | inl h ↦
          let e : pos a -ℤ pos (2 ^ 15) ≡ negsuc (2 ^ 15 - 1 - a) = omega (arith, ints) in
          let f : 2 ^ 15 - (2 ^ 15 - 1 - a + 1) ≡ a = omega arith in
          ap biased e ∙ f
      | inr h ↦
          let e : pos a -ℤ pos (2 ^ 15) ≡ pos (a - 2 ^ 15) = omega (arith, ints) in
          let f : 2 ^ 15 + (a - 2 ^ 15) ≡ a = omega arith in
          ap biased e ∙ f
    ]

-- sixteen more of them
offset_step : (v k : ℕ) → v % 2 ^ k + biased (offset v k) * 2 ^ k ≡ v % (2 ^ 16 * 2 ^ k)
offset_step v k =
    let above : 0 < 2 ^ k = pow_pos k in
    let e : v % (2 ^ 16 * 2 ^ k) ≡ (v / 2 ^ k % 2 ^ 16) * 2 ^ k + v % 2 ^ k = mod-mul v (lit< tt) above in
    let f : biased (offset v k) * 2 ^ k ≡ (v / 2 ^ k % 2 ^ 16) * 2 ^ k = ap (λ x. x * 2 ^ k) (biased_of (v / 2 ^ k % 2 ^ 16)) in
    omega arith

-- a number is that of the word that it says
pub word_number-of : (v : ℕ) → v < 2 ^ 63 → word_number (word_of v) ≡ v
unfolding word_number word_of flags_number flags_of
word_number-of v h =
    let whole : v % 2 ^ 63 ≡ v = mod-eq_of_lt h in
    omega (arith, offset_step v 0, offset_step v 16, offset_step v 32, bit_step v 48, bit_step v 49, bit_step v 50, bit_step v 51, bit_step v 52, bit_step v 53, bit_step v 54, bit_step v 55, bit_step v 56, bit_step v 57, bit_step v 58, bit_step v 59, bit_step v 60, bit_step v 61, bit_step v 62)

decoded_below : (b : Bool) (o : Option Shape) (x w : Word) → (if b then unless_broken o x else Err HighBit) ≡ Ok w → b ≡ true
decoded_below true o x w h = refl
decoded_below false o x w h = cc

decoded_word : (b : Bool) (o : Option Shape) (x w : Word) → (if b then unless_broken o x else Err HighBit) ≡ Ok w → x ≡ w
decoded_word true None x w h = cc
decoded_word true (Some s) x w h = absurd cc
decoded_word false o x w h = absurd cc

-- so the number that was decoded is that of the word
pub decoded_number : (v : ℕ) (w : Word) → decoding v ≡ Ok w → word_number w ≡ v
unfolding decoding
decoded_number v w h =
    let low : nat_lt v (2 ^ 63) ≡ true = decoded_below (nat_lt v (2 ^ 63)) (first_broken (flags_of v)) (word_of v) w h in
    let same : word_of v ≡ w = decoded_word (nat_lt v (2 ^ 63)) (first_broken (flags_of v)) (word_of v) w h in
    ap word_number (sym same) ∙ word_number-of v (grind (arith, nat_tests))
