-- Equations whose flags are 0 or 1, over plain variables: what each choice by flags comes to.
use Rattle.std.proofs.Common.{◌≡◌, ℕ, ◌+◌, ◌%◌, ◌^◌, ◌<◌, ◌∙◌, ◌⊎◌, Bool, true, false, not, ◌&&◌, ◌||◌, ◌==◌, refl, sym, ap, arith, inl, inr}
use Rattle.std.specs.Bool.{if◌then◌else◌}
use Rattle.std.specs.Prelude.{ℤ, pos, negsuc, ◌-ℤ◌}
use Rattle.std.proofs.Math.Nat.{mod-eq_of_lt}
use Rattle.std.proofs.lemmas.Int.{ints}
use Rattle.std.proofs.lemmas.Bool.Decides.{eqb_tells, nat_tests}
use Rattle.goldilocks.specs.Field.{prime, field_add, field_sub, field_mul, field_neg, field_of_int}
use Rattle.goldilocks.proofs.FieldLaws.{flags, zero_from_product, equal_from_difference, field_add_below, field_sub_below, field_zero_mul, field_one_mul, field_mul_zero}
use Rattle.casm_word.specs.Word.{two_of}
use Rattle.casm_word.specs.Transition.{moved}
use Rattle.cpu_rows.specs.Equations.{◌⊕◌, ◌⊖◌, ◌⊙◌}
use Rattle.cpu_rows.specs.Steps.{zero_or_one}

-- one of two bases
pub one_of_two : (b : Bool) (x y off : ℕ) → zero_or_one b ⊙ x ⊕ (1 ⊖ zero_or_one b) ⊙ y ⊕ off ⊖ 2 ^ 15 ≡ (if b then x else y) ⊕ off ⊖ 2 ^ 15
one_of_two true x y off = simp flags
one_of_two false x y off = simp flags

-- one of four bases
pub one_of_four : (imm ap' fp' : Bool) (pc ap_ fp op0 off : ℕ) → two_of imm fp' ap' ≡ false → zero_or_one imm ⊙ pc ⊕ zero_or_one ap' ⊙ ap_ ⊕ zero_or_one fp' ⊙ fp ⊕ (1 ⊖ zero_or_one imm ⊖ zero_or_one ap' ⊖ zero_or_one fp') ⊙ op0 ⊕ off ⊖ 2 ^ 15 ≡ (if imm then pc else (if fp' then fp else (if ap' then ap_ else op0))) ⊕ off ⊖ 2 ^ 15
one_of_four true true true pc ap_ fp op0 off h = cc
one_of_four true true false pc ap_ fp op0 off h = cc
one_of_four true false true pc ap_ fp op0 off h = cc
one_of_four true false false pc ap_ fp op0 off h = simp flags
one_of_four false true true pc ap_ fp op0 off h = cc
one_of_four false true false pc ap_ fp op0 off h = simp flags
one_of_four false false true pc ap_ fp op0 off h = simp flags
one_of_four false false false pc ap_ fp op0 off h = simp flags

-- an offset with 2^15 added
biased_offset_is : (z : ℤ) (off : ℕ) → off < 2 ^ 16 → z ≡ pos off -ℤ pos (2 ^ 15) → field_of_int z ≡ off ⊖ 2 ^ 15
unfolding field_of_int field_neg field_sub
biased_offset_is (pos n) off h e = let f : n + 2 ^ 15 ≡ off = omega (arith, ints) in omega arith
biased_offset_is (negsuc n) off h e = let f : off + n + 1 ≡ 2 ^ 15 = omega (arith, ints) in omega arith

biased_offset : (off : ℕ) → off < 2 ^ 16 → field_of_int (pos off -ℤ pos (2 ^ 15)) ≡ off ⊖ 2 ^ 15
biased_offset off h = biased_offset_is (pos off -ℤ pos (2 ^ 15)) off h refl

pub moved_by_offset : (base off : ℕ) → off < 2 ^ 16 → moved base (pos off -ℤ pos (2 ^ 15)) ≡ base ⊕ off ⊖ 2 ^ 15
unfolding field_add field_sub
moved_by_offset base off h = let e : field_of_int (pos off -ℤ pos (2 ^ 15)) ≡ off ⊖ 2 ^ 15 = biased_offset off h in rw e (omega arith)

-- what the instruction computes
pub one_of_three : (add mul : Bool) (op0 op1 : ℕ) → two_of add mul false ≡ false → op1 < prime → zero_or_one add ⊙ (op0 ⊕ op1) ⊕ zero_or_one mul ⊙ (op0 ⊙ op1) ⊕ (1 ⊖ zero_or_one add ⊖ zero_or_one mul ⊖ 0) ⊙ op1 ≡ (if add then op0 ⊕ op1 else (if mul then op0 ⊙ op1 else op1))
one_of_three true true op0 op1 h low = cc
one_of_three true false op0 op1 h low = simp flags
one_of_three false true op0 op1 h low = simp flags
one_of_three false false op0 op1 h low = simp flags (mod-eq_of_lt low)

-- how many cells an instruction takes
pub size_of_flag : (imm : Bool) → 1 ⊕ zero_or_one imm ≡ (if imm then 2 else 1)
unfolding field_add
size_of_flag true = refl
size_of_flag false = refl

-- the next ap
pub next_of_ap : (call add add1 : Bool) (a res : ℕ) → a < prime → add && add1 ≡ false → call && (add || add1) ≡ false → a ⊕ zero_or_one add ⊙ res ⊕ zero_or_one add1 ⊕ 2 ⊙ zero_or_one call ≡ (if call then a ⊕ 2 else (if add then a ⊕ res else (if add1 then a ⊕ 1 else a)))
next_of_ap true true add1 a res low h k = cc
next_of_ap true false true a res low h k = cc
next_of_ap true false false a res low h k = simp flags
next_of_ap false true true a res low h k = cc
next_of_ap false true false a res low h k = simp flags
next_of_ap false false true a res low h k = simp flags
next_of_ap false false false a res low h k = simp flags (mod-eq_of_lt low)

-- the next fp
pub next_of_fp : (call ret : Bool) (a dst fp : ℕ) → dst < prime → fp < prime → call && ret ≡ false → zero_or_one ret ⊙ dst ⊕ zero_or_one call ⊙ (a ⊕ 2) ⊕ (1 ⊖ zero_or_one ret ⊖ zero_or_one call) ⊙ fp ≡ (if call then a ⊕ 2 else (if ret then dst else fp))
next_of_fp true true a dst fp p q h = cc
next_of_fp true false a dst fp p q h = simp flags
next_of_fp false true a dst fp p q h = simp flags (mod-eq_of_lt p)
next_of_fp false false a dst fp p q h = simp flags (mod-eq_of_lt q)

-- ---- the next pc

-- a difference of 0
pub gap_is_zero : (a b c : ℕ) → a < prime → a ⊖ b ⊖ c ≡ 0 → a ≡ b ⊕ c
unfolding field_add field_sub
gap_is_zero a b c low e = omega arith

pub gap_of_equal : (a b c : ℕ) → a ≡ b ⊕ c → a ⊖ b ⊖ c ≡ 0
unfolding field_add field_sub
gap_of_equal a b c e = omega arith

-- the left sides of C25 and C26
abbrev pub leaves_or_stays : Bool → ℕ → ℕ → ℕ → ℕ → ℕ
leaves_or_stays jnz t1 after pc size = (t1 ⊖ zero_or_one jnz) ⊙ (after ⊖ pc ⊖ size)

abbrev pub goes_by_pc : Bool → Bool → Bool → ℕ → ℕ → ℕ → ℕ → ℕ → ℕ → ℕ
goes_by_pc abs rel jnz t0 after pc size op1 res = t0 ⊙ (after ⊖ pc ⊖ op1) ⊕ (1 ⊖ zero_or_one jnz) ⊙ after ⊖ ((1 ⊖ zero_or_one abs ⊖ zero_or_one rel ⊖ zero_or_one jnz) ⊙ (pc ⊕ size) ⊕ zero_or_one abs ⊙ res ⊕ zero_or_one rel ⊙ (pc ⊕ res))

-- with no conditional jump: one of three
pub one_of_three_pcs : (abs rel : Bool) (pc size res : ℕ) → res < prime → two_of abs rel false ≡ false → (1 ⊖ zero_or_one abs ⊖ zero_or_one rel ⊖ 0) ⊙ (pc ⊕ size) ⊕ zero_or_one abs ⊙ res ⊕ zero_or_one rel ⊙ (pc ⊕ res) ≡ (if abs then res else (if rel then pc ⊕ res else pc ⊕ size))
one_of_three_pcs true true pc size res low h = cc
one_of_three_pcs true false pc size res low h = simp flags (mod-eq_of_lt low)
one_of_three_pcs false true pc size res low h = simp flags
one_of_three_pcs false false pc size res low h = simp flags

straight : (gap after y : ℕ) → after < prime → y < prime → 0 ⊙ gap ⊕ (1 ⊖ 0) ⊙ after ⊖ y ≡ 0 → after ≡ y
straight gap after y p q e =
    let f : after ⊖ y ≡ 0 = simp flags at e in
    sym (mod-eq_of_lt p) ∙ (equal_from_difference after y f ∙ mod-eq_of_lt q)

straight_back : (gap after y : ℕ) → after ≡ y → 0 ⊙ gap ⊕ (1 ⊖ 0) ⊙ after ⊖ y ≡ 0
straight_back gap after y e = ap (λ x. 0 ⊙ gap ⊕ (1 ⊖ 0) ⊙ x ⊖ y) e ∙ simp flags

-- with one: C26 is the product of dst and a gap
jump_only : (gap after s res r : ℕ) (dst : ℕ) → dst ⊙ gap ⊕ (1 ⊖ 1) ⊙ after ⊖ ((1 ⊖ 0 ⊖ 0 ⊖ 1) ⊙ s ⊕ 0 ⊙ res ⊕ 0 ⊙ r) ≡ dst ⊙ gap
jump_only gap after s res r dst = simp flags

-- the choice of the next pc
abbrev pub chosen_pc : Bool → Bool → Bool → ℕ → ℕ → ℕ → ℕ → ℕ → ℕ
chosen_pc abs rel jnz pc size dst op1 res = if abs then res else (if rel then pc ⊕ res else (if jnz && not (dst == 0) then pc ⊕ op1 else pc ⊕ size))

minus_one : (0 ⊖ 1) % prime ≡ 0 → ⊥
unfolding field_sub
minus_one h = omega (arith, h)

-- a conditional jump: where dst is 0 the first equation says that the next pc lies behind, else the second that it is op1 further
jumps : (dst op1 res after pc size : ℕ) → after < prime → dst < prime → leaves_or_stays true (dst ⊙ res) after pc size ≡ 0 → dst ⊙ (after ⊖ pc ⊖ op1) ≡ 0 → after ≡ (if not (dst == 0) then pc ⊕ op1 else pc ⊕ size)
jumps dst op1 res after pc size low small e25 e26 =
    elim (eqb_tells dst 0) [
      | inl z ↦
          let first : leaves_or_stays true 0 after pc size ≡ 0 = rw (z.1, field_zero_mul) at e25 in
          rw z.0 (elim (zero_from_product (0 ⊖ 1) (after ⊖ pc ⊖ size) first) [
            | inl h ↦ absurd (minus_one h)
            | inr h ↦ gap_is_zero after pc size low (sym (mod-eq_of_lt (field_sub_below (after ⊖ pc) size)) ∙ h)
          ])
      | inr z ↦
          rw z.0 (elim (zero_from_product dst (after ⊖ pc ⊖ op1) e26) [
            | inl h ↦ absurd (z.1 (sym (mod-eq_of_lt small) ∙ h))
            | inr h ↦ gap_is_zero after pc op1 low (sym (mod-eq_of_lt (field_sub_below (after ⊖ pc) op1)) ∙ h)
          ])
    ]

-- the next pc, from the equations
pub pc_after : (abs rel jnz : Bool) (dst op1 res t0 t1 after pc size : ℕ) → after < prime → res < prime → dst < prime → two_of abs rel jnz ≡ false → t0 ≡ zero_or_one jnz ⊙ dst → t1 ≡ t0 ⊙ res → leaves_or_stays jnz t1 after pc size ≡ 0 → goes_by_pc abs rel jnz t0 after pc size op1 res ≡ 0 → after ≡ chosen_pc abs rel jnz pc size dst op1 res
pc_after true true jnz dst op1 res t0 t1 after pc size p q s h e0 e1 e25 e26 = cc
pc_after true false true dst op1 res t0 t1 after pc size p q s h e0 e1 e25 e26 = cc
pc_after false true true dst op1 res t0 t1 after pc size p q s h e0 e1 e25 e26 = cc
pc_after true false false dst op1 res t0 t1 after pc size p q s h e0 e1 e25 e26 =
    let z : t0 ≡ 0 = e0 ∙ field_zero_mul dst in
    straight (after ⊖ pc ⊖ op1) after res p q (rw (z, one_of_three_pcs true false pc size res q refl) at e26)
pc_after false true false dst op1 res t0 t1 after pc size p q s h e0 e1 e25 e26 =
    let z : t0 ≡ 0 = e0 ∙ field_zero_mul dst in
    straight (after ⊖ pc ⊖ op1) after (pc ⊕ res) p (field_add_below pc res) (rw (z, one_of_three_pcs false true pc size res q refl) at e26)
pc_after false false false dst op1 res t0 t1 after pc size p q s h e0 e1 e25 e26 =
    let z : t0 ≡ 0 = e0 ∙ field_zero_mul dst in
    straight (after ⊖ pc ⊖ op1) after (pc ⊕ size) p (field_add_below pc size) (rw (z, one_of_three_pcs false false pc size res q refl) at e26)
pc_after false false true dst op1 res t0 t1 after pc size p q s h e0 e1 e25 e26 =
    let z : t0 ≡ dst = e0 ∙ (field_one_mul dst ∙ mod-eq_of_lt s) in
    let z1 : t1 ≡ dst ⊙ res = e1 ∙ ap (λ x. x ⊙ res) z in
    jumps dst op1 res after pc size p s (rw z1 at e25)
    (sym (jump_only (after ⊖ pc ⊖ op1) after (pc ⊕ size) res (pc ⊕ res) dst) ∙ (rw z at e26))

-- and back: C25 holds where no jump is conditional, where t1 is 1, and where the next pc lies behind
pub c25_holds : (jnz : Bool) (t1 after pc size : ℕ) → (jnz ≡ false → t1 ≡ 0) → (jnz ≡ true → (t1 ≡ 1) ⊎ (after ≡ pc ⊕ size)) → leaves_or_stays jnz t1 after pc size ≡ 0
c25_holds false t1 after pc size f g = ap (λ t. (t ⊖ 0) ⊙ (after ⊖ pc ⊖ size)) (f refl) ∙ simp flags
c25_holds true t1 after pc size f g =
    elim (g refl) [
      | inl e ↦ ap (λ t. (t ⊖ 1) ⊙ (after ⊖ pc ⊖ size)) e ∙ simp flags
      | inr e ↦ ap (λ t. (t1 ⊖ 1) ⊙ t) (gap_of_equal after pc size e) ∙ field_mul_zero (t1 ⊖ 1)
    ]

jumps_back : (dst op1 after pc size : ℕ) → after ≡ (if not (dst == 0) then pc ⊕ op1 else pc ⊕ size) → dst ⊙ (after ⊖ pc ⊖ op1) ≡ 0
jumps_back dst op1 after pc size e =
    elim (eqb_tells dst 0) [
      | inl z ↦ ap (λ t. t ⊙ (after ⊖ pc ⊖ op1)) z.1 ∙ field_zero_mul (after ⊖ pc ⊖ op1)
      | inr z ↦ ap (λ t. dst ⊙ t) (gap_of_equal after pc op1 (rw z.0 at e)) ∙ field_mul_zero dst
    ]

pub c26_holds : (abs rel jnz : Bool) (dst op1 res t0 after pc size : ℕ) → res < prime → dst < prime → two_of abs rel jnz ≡ false → t0 ≡ zero_or_one jnz ⊙ dst → after ≡ chosen_pc abs rel jnz pc size dst op1 res → goes_by_pc abs rel jnz t0 after pc size op1 res ≡ 0
c26_holds true true jnz dst op1 res t0 after pc size q s h e0 e = cc
c26_holds true false true dst op1 res t0 after pc size q s h e0 e = cc
c26_holds false true true dst op1 res t0 after pc size q s h e0 e = cc
c26_holds true false false dst op1 res t0 after pc size q s h e0 e =
    let z : t0 ≡ 0 = e0 ∙ field_zero_mul dst in
    rw (z, one_of_three_pcs true false pc size res q refl) (straight_back (after ⊖ pc ⊖ op1) after res e)
c26_holds false true false dst op1 res t0 after pc size q s h e0 e =
    let z : t0 ≡ 0 = e0 ∙ field_zero_mul dst in
    rw (z, one_of_three_pcs false true pc size res q refl) (straight_back (after ⊖ pc ⊖ op1) after (pc ⊕ res) e)
c26_holds false false false dst op1 res t0 after pc size q s h e0 e =
    let z : t0 ≡ 0 = e0 ∙ field_zero_mul dst in
    rw (z, one_of_three_pcs false false pc size res q refl) (straight_back (after ⊖ pc ⊖ op1) after (pc ⊕ size) e)
c26_holds false false true dst op1 res t0 after pc size q s h e0 e =
    let z : t0 ≡ dst = e0 ∙ (field_one_mul dst ∙ mod-eq_of_lt s) in
    rw z (jump_only (after ⊖ pc ⊖ op1) after (pc ⊕ size) res (pc ⊕ res) dst ∙ jumps_back dst op1 after pc size e)

-- ---- what opcodes demand

-- a difference is tested against 0
pub tested_gap : (a b : ℕ) → a < prime → b < prime → ((a ⊖ b) == 0) ≡ (a == b)
unfolding field_sub
tested_gap a b p q = grind (arith, nat_tests)

pub tested_gap_of_sum : (a b c : ℕ) → a < prime → ((a ⊖ b ⊖ c) == 0) ≡ (a == (b ⊕ c))
unfolding field_sub field_add
tested_gap_of_sum a b c p = grind (arith, nat_tests)

-- what is demanded only under a flag
pub demanded : (b c : Bool) (x : ℕ) → x < prime → (x == 0) ≡ c → ((zero_or_one b ⊙ x) == 0) ≡ (not b || c)
demanded true c x low e = ap (λ t. t == 0) (field_one_mul x ∙ mod-eq_of_lt low) ∙ e
demanded false c x low e = ap (λ t. t == 0) (field_zero_mul x)

-- ---- flags that exclude each other

pub at_most_one : (a b c : Bool) → (((1 ⊖ zero_or_one a ⊖ zero_or_one b ⊖ zero_or_one c) ⊙ ((1 ⊖ zero_or_one a ⊖ zero_or_one b ⊖ zero_or_one c) ⊖ 1)) == 0) ≡ not (two_of a b c)
unfolding field_sub field_mul
at_most_one true true true = refl
at_most_one true true false = refl
at_most_one true false true = refl
at_most_one true false false = refl
at_most_one false true true = refl
at_most_one false true false = refl
at_most_one false false true = refl
at_most_one false false false = refl

pub two_of_turned : (a b c : Bool) → two_of a b c ≡ two_of a c b
two_of_turned true true c = elim c as (λ c. two_of true true c ≡ two_of true c true) [ true ↦ refl | false ↦ refl ]
two_of_turned true false c = elim c as (λ c. two_of true false c ≡ two_of true c false) [ true ↦ refl | false ↦ refl ]
two_of_turned false true c = elim c as (λ c. two_of false true c ≡ two_of false c true) [ true ↦ refl | false ↦ refl ]
two_of_turned false false c = elim c as (λ c. two_of false false c ≡ two_of false c false) [ true ↦ refl | false ↦ refl ]

pub not_both : (a b : Bool) → ((zero_or_one a ⊙ zero_or_one b) == 0) ≡ not (a && b)
unfolding field_mul
not_both true true = refl
not_both true false = refl
not_both false true = refl
not_both false false = refl

pub not_with_either : (a b c : Bool) → ((zero_or_one a ⊙ (zero_or_one b ⊕ zero_or_one c)) == 0) ≡ not (a && (b || c))
unfolding field_mul field_add
not_with_either true true true = refl
not_with_either true true false = refl
not_with_either true false true = refl
not_with_either true false false = refl
not_with_either false true true = refl
not_with_either false true false = refl
not_with_either false false true = refl
not_with_either false false false = refl

pub not_with_any : (a b c d : Bool) → ((zero_or_one a ⊙ (zero_or_one b ⊕ zero_or_one c ⊕ zero_or_one d)) == 0) ≡ not (a && (b || c || d))
unfolding field_mul field_add
not_with_any true true true true = refl
not_with_any true true true false = refl
not_with_any true true false true = refl
not_with_any true true false false = refl
not_with_any true false true true = refl
not_with_any true false true false = refl
not_with_any true false false true = refl
not_with_any true false false false = refl
not_with_any false b c d = ap (λ t. t == 0) (field_zero_mul (zero_or_one b ⊕ zero_or_one c ⊕ zero_or_one d))

-- ---- what is computed is looked at only where no jump is conditional

pub same_pc : (abs rel jnz : Bool) (pc size dst op1 x y : ℕ) → two_of abs rel jnz ≡ false → (jnz ≡ false → x ≡ y) → chosen_pc abs rel jnz pc size dst op1 x ≡ chosen_pc abs rel jnz pc size dst op1 y
same_pc true true jnz pc size dst op1 x y h e = cc
same_pc true false true pc size dst op1 x y h e = cc
same_pc true false false pc size dst op1 x y h e = e refl
same_pc false true true pc size dst op1 x y h e = cc
same_pc false true false pc size dst op1 x y h e = ap (λ v. pc ⊕ v) (e refl)
same_pc false false jnz pc size dst op1 x y h e = refl

abbrev pub chosen_ap : Bool → Bool → Bool → ℕ → ℕ → ℕ
chosen_ap call add add1 a res = if call then a ⊕ 2 else (if add then a ⊕ res else (if add1 then a ⊕ 1 else a))

pub same_ap : (call add add1 jnz : Bool) (a x y : ℕ) → jnz && add ≡ false → (jnz ≡ false → x ≡ y) → chosen_ap call add add1 a x ≡ chosen_ap call add add1 a y
same_ap true add add1 jnz a x y h e = refl
same_ap false true add1 true a x y h e = cc
same_ap false true add1 false a x y h e = ap (λ v. a ⊕ v) (e refl)
same_ap false false add1 jnz a x y h e = refl

pub same_assertion : (call ret assert jnz : Bool) (dst x y : ℕ) → jnz && (call || ret || assert) ≡ false → (jnz ≡ false → x ≡ y) → (not assert || (dst == x)) ≡ (not assert || (dst == y))
same_assertion call ret false jnz dst x y h e = refl
same_assertion call ret true false dst x y h e = ap (λ v. dst == v) (e refl)
same_assertion true ret true true dst x y h e = cc
same_assertion false true true true dst x y h e = cc
same_assertion false false true true dst x y h e = cc

-- C22 holds of what the instruction computes, and of each number under a conditional jump
pub c22_holds : (add mul jnz : Bool) (op0 op1 x : ℕ) → x < prime → op1 < prime → two_of add mul jnz ≡ false → (jnz ≡ false → x ≡ (if add then op0 ⊕ op1 else (if mul then op0 ⊙ op1 else op1))) → (1 ⊖ zero_or_one jnz) ⊙ x ≡ zero_or_one add ⊙ (op0 ⊕ op1) ⊕ zero_or_one mul ⊙ (op0 ⊙ op1) ⊕ (1 ⊖ zero_or_one add ⊖ zero_or_one mul ⊖ zero_or_one jnz) ⊙ op1
c22_holds true true jnz op0 op1 x low low1 h e = cc
c22_holds true false true op0 op1 x low low1 h e = cc
c22_holds false true true op0 op1 x low low1 h e = cc
c22_holds false false true op0 op1 x low low1 h e = simp flags
c22_holds true false false op0 op1 x low low1 h e =
    let left : (1 ⊖ 0) ⊙ x ≡ x = simp flags (mod-eq_of_lt low) in
    left ∙ (e refl ∙ sym (one_of_three true false op0 op1 refl low1))
c22_holds false true false op0 op1 x low low1 h e =
    let left : (1 ⊖ 0) ⊙ x ≡ x = simp flags (mod-eq_of_lt low) in
    left ∙ (e refl ∙ sym (one_of_three false true op0 op1 refl low1))
c22_holds false false false op0 op1 x low low1 h e =
    let left : (1 ⊖ 0) ⊙ x ≡ x = simp flags (mod-eq_of_lt low) in
    left ∙ (e refl ∙ sym (one_of_three false false op0 op1 refl low1))

-- t1 is 0 where no jump is conditional
pub t1_is_0 : (jnz : Bool) (dst x : ℕ) → jnz ≡ false → zero_or_one jnz ⊙ dst ⊙ x ≡ 0
t1_is_0 jnz dst x e = rw e (simp flags)

-- and 1 at the inverse of dst
pub t1_is_1 : (jnz : Bool) (dst x : ℕ) → dst < prime → jnz ≡ true → dst ⊙ x ≡ 1 → zero_or_one jnz ⊙ dst ⊙ x ≡ 1
t1_is_1 jnz dst x low e h = rw (e, field_one_mul, mod-eq_of_lt low) h

-- a flag that is not set
pub not_flag : (b : Bool) → zero_or_one (not b) ≡ 1 ⊖ zero_or_one b
unfolding field_sub
not_flag true = refl
not_flag false = refl
