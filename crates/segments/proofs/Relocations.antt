-- Arithmetic that succeeds commutes with relocation.
use Rattle.std.proofs.Common.{◌≡◌, ◌≢◌, ℕ, ◌*◌, ◌+◌, ◌%◌, ◌^◌, ◌<◌, ◌≤◌, true, false, cond, nat_eq, nat_lt, List, Some, None, Ok, Err, refl, sym, ◌∙◌, ap, arith}
use Rattle.std.specs.Prelude.{sum, IfOk, IfSome, ℤ, pos, negsuc, ◌+ℤ◌}
use Rattle.std.proofs.lemmas.Bool.Decides.{nat_tests}
use Rattle.std.proofs.Math.Nat.{mod-eq_of_lt}
use Rattle.std.proofs.lemmas.Int.{ints}
use Rattle.goldilocks.specs.Field.{prime, field_add, field_sub, field_mul, field_neg, field_of_int}
use Rattle.goldilocks.proofs.FieldLaws.{field_add_below, field_sub_below, field_mul_below, field_add_comm, quotient_is}
use Rattle.goldilocks.proofs.Prime.{inverse_of}
use Rattle.goldilocks.specs.Felts.{felt}
use Rattle.segments.specs.declared.Place.{Place}
use Rattle.segments.specs.declared.Value.{Value}
use Rattle.segments.specs.declared.Value.TheVariants.{Num, Ptr}
use Rattle.segments.specs.declared.arithmetic.ArithFault.{ArithFault}
use Rattle.segments.specs.declared.arithmetic.ArithFault.TheVariants.{OffsetRange, OtherSegment, DivByZero}
use Rattle.segments.specs.Values.{place, number, pointer, value_sum, value_difference, value_product, value_quotient, field_quotient, place_at, moved_place}
use Rattle.segments.specs.Memory.{total_limit}
use Rattle.segments.specs.Relocation.{base, address, relocated}
use Rattle.segments.proofs.Values.{field_quotient_is}
use Rattle.segments.proofs.Addresses.{base_within}

-- a number relocates to itself
relocated-number : (sizes : List ℕ) (n : ℕ) → relocated sizes (number n) ≡ n % prime
unfolding relocated number
relocated-number sizes n = refl

-- a pointer that is in range relocates to its address
relocated-pointer : (sizes : List ℕ) (seg off goal : ℕ) → (off < 2 ^ 32 → base sizes seg + off ≡ goal) → IfOk (pointer seg off) (λ v. relocated sizes v ≡ goal)
unfolding relocated address pointer
relocated-pointer sizes seg off goal is =
    elim (nat_lt off (2 ^ 32)) as (λ b. nat_lt off (2 ^ 32) ≡ b → IfOk {E = ArithFault} (cond b (Ok (Ptr (place seg off))) (Err OffsetRange)) (λ v. relocated sizes v ≡ goal)) [
      | true ↦ λ e. is (grind (arith, nat_tests))
      | false ↦ λ e. tt
    ] refl

-- what is added below p stays outside the remainder
shifted : (b n : ℕ) → b + n % prime < prime → b + n % prime ≡ (b + n) % prime
shifted b n low = omega arith

-- the base plus a sum of the field that is an offset is the sum of the address
offset_sum : (b o x : ℕ) → b ≤ 2 ^ 21 + 1 → field_add o x < 2 ^ 32 → b + field_add o x ≡ field_add (b + o) x
unfolding field_add
offset_sum b o x low inside = omega arith

offset_difference : (b o x : ℕ) → b ≤ 2 ^ 21 + 1 → field_sub o x < 2 ^ 32 → b + field_sub o x ≡ field_sub (b + o) x
unfolding field_sub
offset_difference b o x low inside = omega arith

-- two addresses in a segment differ by what their offsets do
same_difference : (b o o' : ℕ) → field_sub o o' ≡ field_sub (b + o) (b + o')
unfolding field_sub
same_difference b o o' = omega arith

-- a place that is moved, in the field
moved_offset : (b o k : ℕ) (d : ℤ) → b ≤ 2 ^ 21 + 1 → k < 2 ^ 32 → pos o +ℤ d ≡ pos k → b + k ≡ field_add (b + o) (field_of_int d)
unfolding field_add field_of_int field_neg
moved_offset b o k (pos n) low inside e = let sum : o + n ≡ k = omega (arith, ints) in omega arith
moved_offset b o k (negsuc n) low inside e = let sum : o ≡ k + (n + 1) = omega (arith, ints) in omega arith

-- the base of a segment is small
low_base : (sizes : List ℕ) (seg : ℕ) → sum sizes ≤ total_limit → base sizes seg ≤ 2 ^ 21 + 1
low_base sizes seg few = omega (arith, base_within sizes seg)

-- ---- the operations

pub sum_relocates : (sizes : List ℕ) (a b : Value) → sum sizes ≤ total_limit → IfOk (value_sum a b) (λ v. relocated sizes v ≡ field_add (relocated sizes a) (relocated sizes b))
unfolding value_sum relocated address
sum_relocates sizes (Num x) (Num y) few = relocated-number sizes (field_add x.number y.number) ∙ mod-eq_of_lt (field_add_below x.number y.number)
sum_relocates sizes (Num x) (Ptr q) few =
    relocated-pointer sizes q.seg (field_add q.off x.number) (field_add x.number (base sizes q.seg + q.off)) (λ inside.
    offset_sum (base sizes q.seg) q.off x.number (low_base sizes q.seg few) inside ∙ field_add_comm (base sizes q.seg + q.off) x.number)
sum_relocates sizes (Ptr p) (Num y) few =
    relocated-pointer sizes p.seg (field_add p.off y.number) (field_add (base sizes p.seg + p.off) y.number) (λ inside.
    offset_sum (base sizes p.seg) p.off y.number (low_base sizes p.seg few) inside)
sum_relocates sizes (Ptr p) (Ptr q) few = tt

pub difference_relocates : (sizes : List ℕ) (a b : Value) → sum sizes ≤ total_limit → IfOk (value_difference a b) (λ v. relocated sizes v ≡ field_sub (relocated sizes a) (relocated sizes b))
unfolding value_difference relocated address
difference_relocates sizes (Num x) (Num y) few = relocated-number sizes (field_sub x.number y.number) ∙ mod-eq_of_lt (field_sub_below x.number y.number)
difference_relocates sizes (Num x) (Ptr q) few = tt
difference_relocates sizes (Ptr p) (Num y) few =
    relocated-pointer sizes p.seg (field_sub p.off y.number) (field_sub (base sizes p.seg + p.off) y.number) (λ inside.
    offset_difference (base sizes p.seg) p.off y.number (low_base sizes p.seg few) inside)
difference_relocates sizes (Ptr p) (Ptr q) few =
    elim (nat_eq p.seg q.seg) as (λ b. nat_eq p.seg q.seg ≡ b → IfOk {E = ArithFault} (cond b (Ok (number (field_sub p.off q.off))) (Err OtherSegment)) (λ v. relocated sizes v ≡ field_sub (base sizes p.seg + p.off) (base sizes q.seg + q.off))) [
      | true ↦ λ e.
          let same : p.seg ≡ q.seg = grind (arith, nat_tests) in
          relocated-number sizes (field_sub p.off q.off)
          ∙ (mod-eq_of_lt (field_sub_below p.off q.off)
          ∙ (same_difference (base sizes p.seg) p.off q.off
          ∙ ap (λ s. field_sub (base sizes p.seg + p.off) (base sizes s + q.off)) same))
      | false ↦ λ e. tt
    ] refl

pub product_relocates : (sizes : List ℕ) (a b : Value) → IfOk (value_product a b) (λ v. relocated sizes v ≡ field_mul (relocated sizes a) (relocated sizes b))
unfolding value_product relocated
product_relocates sizes (Num x) (Num y) = relocated-number sizes (field_mul x.number y.number) ∙ mod-eq_of_lt (field_mul_below x.number y.number)
product_relocates sizes (Num x) (Ptr q) = tt
product_relocates sizes (Ptr p) b = tt

pub move_relocates : (sizes : List ℕ) (p : Place) (by : ℤ) → sum sizes ≤ total_limit → IfSome (moved_place p by) (λ q. address sizes q ≡ field_add (address sizes p) (field_of_int by))
unfolding moved_place place_at address
move_relocates sizes p by few =
    elim (pos p.off +ℤ by) as (λ z. pos p.off +ℤ by ≡ z → IfSome (place_at p.seg z) (λ q. base sizes q.seg + q.off ≡ field_add (base sizes p.seg + p.off) (field_of_int by))) [
      | pos k ↦ λ e.
          elim (nat_lt k (2 ^ 32)) as (λ b. nat_lt k (2 ^ 32) ≡ b → IfSome (cond b (Some (place p.seg k)) None) (λ q. base sizes q.seg + q.off ≡ field_add (base sizes p.seg + p.off) (field_of_int by))) [
            | true ↦ λ f. moved_offset (base sizes p.seg) p.off k by (low_base sizes p.seg few) (grind (arith, nat_tests)) e
            | false ↦ λ f. tt
          ] refl
      | negsuc k ↦ λ e. tt
    ] refl

in_words : (a b : ℕ) → (a * b) % prime ≡ 1 → field_mul a b ≡ 1
unfolding field_mul
in_words a b e = e

-- the quotient of two numbers, the second not 0
quotient_gives : (x y : ℕ) → x < prime → y < prime → y ≢ 0 → field_mul (field_quotient x y % prime) y ≡ x
quotient_gives x y low_x low_y nonzero =
    let inverse = inverse_of y (λ z. nonzero (sym (mod-eq_of_lt low_y) ∙ z)) in
    let q : ℕ = field_mul x inverse.0 in
    let gives : field_mul q y ≡ x = quotient_is x y inverse.0 low_x (in_words y inverse.0 inverse.2) in
    let is : field_quotient x y ≡ q = field_quotient_is x y q low_x low_y nonzero (field_mul_below x inverse.0) gives in
    ap (λ n. field_mul (n % prime) y) is ∙ (ap (λ n. field_mul n y) (mod-eq_of_lt (field_mul_below x inverse.0)) ∙ gives)

pub quotient_relocates : (sizes : List ℕ) (a b : Value) → IfOk (value_quotient a b) (λ v. field_mul (relocated sizes v) (relocated sizes b) ≡ relocated sizes a)
unfolding value_quotient relocated
quotient_relocates sizes (Num x) (Num y) =
    elim (nat_eq y.number 0) as (λ b. nat_eq y.number 0 ≡ b → IfOk {E = ArithFault} (cond b (Err DivByZero) (Ok (number (field_quotient x.number y.number)))) (λ v. field_mul (relocated sizes v) y.number ≡ x.number)) [
      | true ↦ λ e. tt
      | false ↦ λ e.
          let nonzero : y.number ≢ 0 = grind (arith, nat_tests) in
          ap (λ n. field_mul n y.number) (relocated-number sizes (field_quotient x.number y.number))
          ∙ quotient_gives x.number y.number x.in_field y.in_field nonzero
    ] refl
quotient_relocates sizes (Num x) (Ptr q) = tt
quotient_relocates sizes (Ptr p) b = tt
