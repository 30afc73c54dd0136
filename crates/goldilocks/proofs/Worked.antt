-- Three uses of the normal form. docs/FIELD.md goes through them.
use Rattle.std.proofs.Common.{◌≡◌, ℕ, ◌%◌, ◌∷◌, [], refl}
use Rattle.goldilocks.specs.Field.{prime, field_add, field_sub, field_mul}
use Rattle.goldilocks.proofs.FieldLaws.{flags}
use Rattle.goldilocks.proofs.Polynomials.{var, num, plus, minus, times, nothing, known, done, given, identity, follows_mod}

-- an identity: (a + b) (a - b) = a a - b b
difference_of_squares : (a b : ℕ) → field_mul (field_add a b) (field_sub a b) ≡ field_sub (field_mul a a) (field_mul b b)
difference_of_squares a b =
    identity (a ∷ b ∷ []) (times (plus (var 0) (var 1)) (minus (var 0) (var 1))) (minus (times (var 0) (var 0)) (times (var 1) (var 1))) refl refl refl

-- a choice by flags: where f is 1 and g is 0, and f x + g y + (1 - f - g) z = w, then w is x
chosen : (f g x y z w : ℕ) → f ≡ 1 → g ≡ 0 → field_add (field_add (field_mul f x) (field_mul g y)) (field_mul (field_sub (field_sub 1 f) g) z) ≡ w → w % prime ≡ x % prime
chosen f g x y z w p q e =
    follows_mod (f ∷ g ∷ x ∷ y ∷ z ∷ w ∷ []) (known 0 1 (known 1 0 nothing)) (p, (q, tt))
    (given (num 18446744069414584320) (plus (plus (times (var 0) (var 2)) (times (var 1) (var 3))) (times (minus (minus (num 1) (var 0)) (var 1)) (var 4))) (var 5) done) (e, tt)
    (var 5) (var 2) refl

-- what follows from two equations: where t d = 1 and d x = 0, x is 0, since x = t (d x) - x (t d - 1)
zero_behind_inverse : (d t x : ℕ) → field_mul t d ≡ 1 → field_mul d x ≡ 0 → x % prime ≡ 0
zero_behind_inverse d t x e h =
    follows_mod (d ∷ t ∷ x ∷ []) nothing tt
    (given (minus (num 0) (var 2)) (times (var 1) (var 0)) (num 1) (given (var 1) (times (var 0) (var 2)) (num 0) done)) (e, (h, tt))
    (var 2) (num 0) refl

-- flags that stand as 1 and 0: the choice is what the rules for them leave
chosen_by_rules : (x y : ℕ) → field_add (field_mul 1 x) (field_mul (field_sub 1 1) y) ≡ x % prime
chosen_by_rules x y = simp flags
