-- A word taken apart into its flags and offsets, one flag after the other, and put together again.
use Rattle.std.proofs.Common.{◌≡◌, ℕ, ◌+◌, ◌-◌, ◌*◌, ◌/◌, ◌%◌, ◌^◌, ◌<◌, ◌≤◌, ◌∙◌, Bool, true, false, ◌==◌, sym, ap, arith, inl, inr, lit≤}
use Rattle.std.proofs.lemmas.Bool.Decides.{eqb_tells, nat_tests}
use Rattle.std.proofs.lemmas.Nat.{shr-shr}
use Rattle.goldilocks.specs.Field.{prime, field_add, field_sub, field_mul}
use Rattle.casm_word.specs.Word.{bit}
use Rattle.cpu_rows.specs.Equations.{◌⊕◌, ◌⊖◌, ◌⊙◌}
use Rattle.cpu_rows.specs.Steps.{zero_or_one, bits_from}

pub zero_or_one_small : (b : Bool) → zero_or_one b ≤ 1
zero_or_one_small true = lit≤ tt
zero_or_one_small false = lit≤ tt

-- a tilde value is twice the next one and its flag, and small where that is
pub taken_apart : (t rest n : ℕ) (b : Bool) → n ≤ 2 ^ 15 → t < prime → rest < n → t ⊖ 2 ⊙ rest ≡ zero_or_one b → (t ≡ 2 * rest + zero_or_one b) × (t < 2 * n)
unfolding field_sub field_mul
taken_apart t rest n b small low below e =
    let x : ℕ = zero_or_one b in
    let h : x ≤ 1 = zero_or_one_small b in
    let k : (t + (prime - 2 * rest % prime % prime)) % prime ≡ x = e in
    let whole : t ≡ 2 * rest + x = omega arith in
    (whole, omega arith)

bit_is : (rest : ℕ) (b : Bool) → ((2 * rest + zero_or_one b) % 2 == 1) ≡ b
bit_is rest true = grind (arith, nat_tests)
bit_is rest false = grind (arith, nat_tests)

-- the flag at a bit of a word, and what is left above it
pub bit_of_word : (n k t rest : ℕ) (b : Bool) → bits_from n k ≡ t → t ≡ 2 * rest + zero_or_one b → bit n k ≡ b
bit_of_word n k t rest b e f = ap (λ x. (x % 2) == 1) (e ∙ f) ∙ bit_is rest b

pub rest_of_word : (n k t rest : ℕ) (b : Bool) → bits_from n k ≡ t → t ≡ 2 * rest + zero_or_one b → bits_from n (k + 1) ≡ rest
rest_of_word n k t rest b e f =
    let h : zero_or_one b ≤ 1 = zero_or_one_small b in
    let g : bits_from n k / 2 ≡ bits_from n (k + 1) = shr-shr n k 1 in
    let i : bits_from n k / 2 ≡ rest = ap (λ x. x / 2) (e ∙ f) ∙ (let j : (2 * rest + zero_or_one b) / 2 ≡ rest = omega arith in j) in
    sym g ∙ i

-- the word is put together without wrapping
pub put_together : (inst d a b t : ℕ) → d < 2 ^ 16 → a < 2 ^ 16 → b < 2 ^ 16 → t < 2 ^ 15 → inst ≡ d ⊕ 2 ^ 16 ⊙ a ⊕ 2 ^ 32 ⊙ b ⊕ 2 ^ 48 ⊙ t → inst ≡ d + 65536 * a + 4294967296 * b + 281474976710656 * t
unfolding field_add field_mul
put_together inst d a b t p q r s e =
    let sum : ℕ = d + 65536 * a + 4294967296 * b + 281474976710656 * t in
    let small : sum < 2 ^ 63 = omega arith in
    omega arith

pub parts_of_word : (inst d a b t : ℕ) → d < 2 ^ 16 → a < 2 ^ 16 → b < 2 ^ 16 → t < 2 ^ 15 → inst ≡ d + 65536 * a + 4294967296 * b + 281474976710656 * t → (inst < 2 ^ 63) × (bits_from inst 0 % 2 ^ 16 ≡ d) × (bits_from inst 16 % 2 ^ 16 ≡ a) × (bits_from inst 32 % 2 ^ 16 ≡ b) × (bits_from inst 48 ≡ t)
parts_of_word inst d a b t p q r s e = (omega arith, omega arith, omega arith, omega arith, omega arith)

-- and back: a word is the sum of its parts
pub sum_of_parts : (n : ℕ) → n < 2 ^ 63 → n ≡ bits_from n 0 % 2 ^ 16 ⊕ 2 ^ 16 ⊙ (bits_from n 16 % 2 ^ 16) ⊕ 2 ^ 32 ⊙ (bits_from n 32 % 2 ^ 16) ⊕ 2 ^ 48 ⊙ bits_from n 48
unfolding field_add field_mul
sum_of_parts n low = omega arith

bit_number : (x : ℕ) → x % 2 ≡ zero_or_one (x % 2 == 1)
bit_number x = elim (eqb_tells (x % 2) 1) [ inl z ↦ rw z.0 z.1 | inr z ↦ rw z.0 (omega (arith, z.1)) ]

-- a flag of a word by the difference
pub flag_of_word : (n k : ℕ) → bits_from n k < prime → bits_from n k ⊖ 2 ⊙ bits_from n (k + 1) ≡ zero_or_one (bit n k)
unfolding field_sub field_mul
flag_of_word n k low =
    let g : bits_from n k / 2 ≡ bits_from n (k + 1) = shr-shr n k 1 in
    let h : bits_from n k % 2 ≡ zero_or_one (bit n k) = bit_number (bits_from n k) in
    rw (← h) (rw (← g) (omega arith))
