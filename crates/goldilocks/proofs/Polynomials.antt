-- Polynomial identities of the field, and what follows from equations, by computation. An expression is data with
-- a meaning, and its normal form is a list of terms. An equation holds where each coefficient of the difference is
-- a multiple of p.
use Rattle.std.proofs.Common.{◌≡◌, ℕ, ◌+◌, ◌*◌, ◌%◌, ◌<◌, ◌∙◌, Bool, true, false, cond, ◌&&◌, eqb, leb, ltb, List, [], ◌∷◌, get_or, sym, ap, refl, arith}
use Rattle.std.proofs.Math.Nat.{mul_assoc, mul_left_comm, mul-mul-mul_comm, mul-add, add-mul, mod-mod, mod-eq_of_lt, one-mul, zero-mul, mul-zero}
use Rattle.std.proofs.lemmas.Nat.{mul-mod}
use Rattle.std.proofs.lemmas.Bool.{cond_both, and_parts, eqb-true, ltb-true, false≢true}
use Rattle.goldilocks.specs.Field.{prime, field_add, field_sub, field_mul, field_neg}
use Rattle.goldilocks.proofs.FieldLaws.{field_add_below, field_sub_below, field_mul_below, field_neg_below, field_sub_self, field_mul_zero, field_add_zero, field_sub_zero, equal_from_difference}

-- an expression over variables with numbers
pub data Expr : Type 0 where
  var : ℕ → Expr
  num : ℕ → Expr
  plus : Expr → Expr → Expr
  minus : Expr → Expr → Expr
  times : Expr → Expr → Expr
  negate : Expr → Expr

-- its value, where the list has the value of each variable
abbrev pub value : List ℕ → Expr → ℕ
value env (var i) = get_or env i 0
value env (num n) = n
value env (plus a b) = field_add (value env a) (value env b)
value env (minus a b) = field_sub (value env a) (value env b)
value env (times a b) = field_mul (value env a) (value env b)
value env (negate a) = field_neg (value env a)

-- a sum of terms, each a coefficient and the variables of a product in ascending order
pub data Terms : Type 0 where
  none : Terms
  term : ℕ → List ℕ → Terms → Terms

abbrev pub product_value : List ℕ → List ℕ → ℕ
product_value env [] = 1
product_value env (i ∷ m) = get_or env i 0 * product_value env m

abbrev pub terms_value : List ℕ → Terms → ℕ
terms_value env none = 0
terms_value env (term c m p) = c * product_value env m + terms_value env p

abbrev pub with_variable : ℕ → List ℕ → List ℕ
with_variable i [] = i ∷ []
with_variable i (j ∷ m) = let r = j ∷ with_variable i m in cond (leb i j) (i ∷ j ∷ m) r

abbrev pub joined : List ℕ → List ℕ → List ℕ
joined [] n = n
joined (i ∷ m) n = with_variable i (joined m n)

abbrev pub same : List ℕ → List ℕ → Bool
same [] [] = true
same [] (j ∷ n) = false
same (i ∷ m) [] = false
same (i ∷ m) (j ∷ n) = eqb i j && same m n

abbrev pub with_term : ℕ → List ℕ → Terms → Terms
with_term c m none = term c m none
with_term c m (term d n p) = let r = term d n (with_term c m p) in cond (same m n) (term (c + d) n p) r

abbrev pub sum_terms : Terms → Terms → Terms
sum_terms none q = q
sum_terms (term c m p) q = with_term c m (sum_terms p q)

abbrev pub scaled : ℕ → Terms → Terms
scaled k none = none
scaled k (term c m p) = term (k * c) m (scaled k p)

abbrev pub by_term : ℕ → List ℕ → Terms → Terms
by_term c m none = none
by_term c m (term d n p) = term (c * d) (joined m n) (by_term c m p)

abbrev pub product_terms : Terms → Terms → Terms
product_terms none q = none
product_terms (term c m p) q = sum_terms (by_term c m q) (product_terms p q)

-- the normal form
abbrev pub terms_of : Expr → Terms
terms_of (var i) = term 1 (i ∷ []) none
terms_of (num n) = term n [] none
terms_of (plus a b) = sum_terms (terms_of a) (terms_of b)
terms_of (minus a b) = sum_terms (terms_of a) (scaled 18446744069414584320 (terms_of b))
terms_of (times a b) = product_terms (terms_of a) (terms_of b)
terms_of (negate a) = scaled 18446744069414584320 (terms_of a)

-- each coefficient is a multiple of p
abbrev pub is_zero : Terms → Bool
is_zero none = true
is_zero (term c m p) = eqb (c % prime) 0 && is_zero p

module _ (env : List ℕ) where
  with_variable_value : (i : ℕ) (m : List ℕ) → product_value env (with_variable i m) ≡ get_or env i 0 * product_value env m
  with_variable_value i [] = refl
  with_variable_value i (j ∷ m) =
      cond_both (leb i j) (i ∷ j ∷ m) (j ∷ with_variable i m) (λ l. product_value env l ≡ get_or env i 0 * (get_or env j 0 * product_value env m))
      (λ e. refl)
      (λ e. ap (λ x. get_or env j 0 * x) (with_variable_value i m) ∙ mul_left_comm (get_or env j 0) (get_or env i 0) (product_value env m))

  joined_value : (m n : List ℕ) → product_value env (joined m n) ≡ product_value env m * product_value env n
  joined_value [] n = sym (one-mul (product_value env n))
  joined_value (i ∷ m) n =
      with_variable_value i (joined m n)
      ∙ (ap (λ x. get_or env i 0 * x) (joined_value m n) ∙ sym (mul_assoc (get_or env i 0) (product_value env m) (product_value env n)))

  same_value : (m n : List ℕ) → same m n ≡ true → product_value env m ≡ product_value env n
  same_value [] [] e = refl
  same_value [] (j ∷ n) e = cc
  same_value (i ∷ m) [] e = cc
  same_value (i ∷ m) (j ∷ n) e =
      let h = and_parts (eqb i j) (same m n) e in
      ap (λ x. get_or env x 0 * product_value env m) (eqb-true i j h.0) ∙ ap (λ x. get_or env j 0 * x) (same_value m n h.1)

  with_term_value : (c : ℕ) (m : List ℕ) (p : Terms) → terms_value env (with_term c m p) ≡ c * product_value env m + terms_value env p
  with_term_value c m none = refl
  with_term_value c m (term d n p) =
      cond_both (same m n) (term (c + d) n p) (term d n (with_term c m p)) (λ t. terms_value env t ≡ c * product_value env m + (d * product_value env n + terms_value env p))
      (λ e.
      let f : c * product_value env m ≡ c * product_value env n = ap (λ x. c * x) (same_value m n e) in
      let g : (c + d) * product_value env n ≡ c * product_value env n + d * product_value env n = add-mul c d (product_value env n) in
      omega arith)
      (λ e. let f : terms_value env (with_term c m p) ≡ c * product_value env m + terms_value env p = with_term_value c m p in omega arith)

  sum_terms_value : (p q : Terms) → terms_value env (sum_terms p q) ≡ terms_value env p + terms_value env q
  sum_terms_value none q = omega arith
  sum_terms_value (term c m p) q =
      let e : terms_value env (with_term c m (sum_terms p q)) ≡ c * product_value env m + terms_value env (sum_terms p q) = with_term_value c m (sum_terms p q) in
      let f : terms_value env (sum_terms p q) ≡ terms_value env p + terms_value env q = sum_terms_value p q in
      omega arith

  scaled_value : (k : ℕ) (p : Terms) → terms_value env (scaled k p) ≡ k * terms_value env p
  scaled_value k none = sym (mul-zero k)
  scaled_value k (term c m p) =
      ap (λ x. k * c * product_value env m + x) (scaled_value k p)
      ∙ (ap (λ x. x + k * terms_value env p) (mul_assoc k c (product_value env m))
      ∙ sym (mul-add k (c * product_value env m) (terms_value env p)))

  by_term_value : (c : ℕ) (m : List ℕ) (p : Terms) → terms_value env (by_term c m p) ≡ c * product_value env m * terms_value env p
  by_term_value c m none = sym (mul-zero (c * product_value env m))
  by_term_value c m (term d n p) =
      ap (λ x. c * d * product_value env (joined m n) + x) (by_term_value c m p)
      ∙ (ap (λ x. c * d * x + c * product_value env m * terms_value env p) (joined_value m n)
      ∙ (ap (λ x. x + c * product_value env m * terms_value env p) (mul-mul-mul_comm c d (product_value env m) (product_value env n))
      ∙ sym (mul-add (c * product_value env m) (d * product_value env n) (terms_value env p))))

  product_terms_value : (p q : Terms) → terms_value env (product_terms p q) ≡ terms_value env p * terms_value env q
  product_terms_value none q = sym (zero-mul (terms_value env q))
  product_terms_value (term c m p) q =
      sum_terms_value (by_term c m q) (product_terms p q)
      ∙ (ap (λ x. x + terms_value env (product_terms p q)) (by_term_value c m q)
      ∙ (ap (λ x. c * product_value env m * terms_value env q + x) (product_terms_value p q)
      ∙ sym (add-mul (c * product_value env m) (terms_value env p) (terms_value env q))))

  zero_value : (p : Terms) → is_zero p ≡ true → terms_value env p % prime ≡ 0
  zero_value none e = refl
  zero_value (term c m p) e =
      let h = and_parts (eqb (c % prime) 0) (is_zero p) e in
      let f : c % prime ≡ 0 = eqb-true (c % prime) 0 h.0 in
      let g : (c * product_value env m) % prime ≡ 0 = mul-mod c (product_value env m) prime ∙ (ap (λ x. (x * (product_value env m % prime)) % prime) f ∙ ap (λ x. x % prime) (zero-mul (product_value env m % prime))) in
      let k : terms_value env p % prime ≡ 0 = zero_value p h.1 in
      omega arith

-- one step of the meaning, over plain numbers
sum_mod : (a b x y : ℕ) → a % prime ≡ x % prime → b % prime ≡ y % prime → field_add a b % prime ≡ (x + y) % prime
unfolding field_add
sum_mod a b x y e f = omega arith

difference_mod : (a b x y : ℕ) → a % prime ≡ x % prime → b % prime ≡ y % prime → field_sub a b % prime ≡ (x + 18446744069414584320 * y) % prime
unfolding field_sub
difference_mod a b x y e f = omega arith

negative_mod : (a x : ℕ) → a % prime ≡ x % prime → field_neg a % prime ≡ (18446744069414584320 * x) % prime
unfolding field_neg
negative_mod a x e = omega arith

product_mod : (a b x y : ℕ) → a % prime ≡ x % prime → b % prime ≡ y % prime → field_mul a b % prime ≡ (x * y) % prime
unfolding field_mul
product_mod a b x y e f =
    mod-mod (a * b) prime
    ∙ (mul-mod a b prime ∙ (ap (λ t. (t * (b % prime)) % prime) e ∙ (ap (λ t. (x % prime * t) % prime) f ∙ sym (mul-mod x y prime))))

module _ (env : List ℕ) where
  terms_of_value : (e : Expr) → value env e % prime ≡ terms_value env (terms_of e) % prime
  terms_of_value (var i) = ap (λ x. x % prime) (let f : get_or env i 0 ≡ 1 * (get_or env i 0 * 1) + 0 = omega arith in f)
  terms_of_value (num n) = ap (λ x. x % prime) (let f : n ≡ n * 1 + 0 = omega arith in f)
  terms_of_value (plus a b) =
      sum_mod (value env a) (value env b) (terms_value env (terms_of a)) (terms_value env (terms_of b)) (terms_of_value a) (terms_of_value b)
      ∙ ap (λ x. x % prime) (sym (sum_terms_value env (terms_of a) (terms_of b)))
  terms_of_value (minus a b) =
      difference_mod (value env a) (value env b) (terms_value env (terms_of a)) (terms_value env (terms_of b)) (terms_of_value a) (terms_of_value b)
      ∙ (ap (λ x. (terms_value env (terms_of a) + x) % prime) (sym (scaled_value env 18446744069414584320 (terms_of b)))
      ∙ ap (λ x. x % prime) (sym (sum_terms_value env (terms_of a) (scaled 18446744069414584320 (terms_of b)))))
  terms_of_value (times a b) =
      product_mod (value env a) (value env b) (terms_value env (terms_of a)) (terms_value env (terms_of b)) (terms_of_value a) (terms_of_value b)
      ∙ ap (λ x. x % prime) (sym (product_terms_value env (terms_of a) (terms_of b)))
  terms_of_value (negate a) =
      negative_mod (value env a) (terms_value env (terms_of a)) (terms_of_value a)
      ∙ ap (λ x. x % prime) (sym (scaled_value env 18446744069414584320 (terms_of a)))

-- the result of an operation, or a number below p
abbrev pub is_reduced : Expr → Bool
is_reduced (var i) = false
is_reduced (num n) = ltb n prime
is_reduced (plus a b) = true
is_reduced (minus a b) = true
is_reduced (times a b) = true
is_reduced (negate a) = true

-- variables that are known to be numbers
pub data Known : Type 0 where
  nothing : Known
  known : ℕ → ℕ → Known → Known

abbrev pub IsKnown : List ℕ → Known → Type 0
IsKnown env nothing = Unit {0}
IsKnown env (known i n ks) = (get_or env i 0 ≡ n) × IsKnown env ks

abbrev pub found : Known → ℕ → Expr
found nothing i = var i
found (known j n ks) i = let r = found ks i in cond (eqb i j) (num n) r

-- the expression with the known numbers in place of their variables
abbrev pub put : Known → Expr → Expr
put ks (var i) = found ks i
put ks (num n) = num n
put ks (plus a b) = plus (put ks a) (put ks b)
put ks (minus a b) = minus (put ks a) (put ks b)
put ks (times a b) = times (put ks a) (put ks b)
put ks (negate a) = negate (put ks a)

-- equations, each with the factor that it is taken with
pub data Given : Type 0 where
  done : Given
  given : Expr → Expr → Expr → Given → Given

abbrev pub AllHold : List ℕ → Given → Type 0
AllHold env done = Unit {0}
AllHold env (given k l r hs) = (value env l ≡ value env r) × AllHold env hs

-- the sum of the differences, each times its factor
abbrev pub combined : Given → Expr
combined done = num 0
combined (given k l r hs) = plus (times k (minus l r)) (combined hs)

-- the test: the difference of two expressions is that sum, once the known numbers are put in
abbrev pub is_combined : Known → Given → Expr → Expr → Bool
is_combined ks hs l r = is_zero (terms_of (put ks (minus (minus l r) (combined hs))))

module _ (env : List ℕ) where
  found_value : (ks : Known) (i : ℕ) → IsKnown env ks → value env (found ks i) ≡ get_or env i 0
  found_value nothing i h = refl
  found_value (known j n ks) i h =
      cond_both (eqb i j) (num n) (found ks i) (λ e. value env e ≡ get_or env i 0)
      (λ e. sym h.0 ∙ ap (λ x. get_or env x 0) (sym (eqb-true i j e)))
      (λ e. found_value ks i h.1)

  put_value : (ks : Known) (e : Expr) → IsKnown env ks → value env (put ks e) ≡ value env e
  put_value ks (var i) h = found_value ks i h
  put_value ks (num n) h = refl
  put_value ks (plus a b) h = ap (λ x. field_add x (value env (put ks b))) (put_value ks a h) ∙ ap (λ x. field_add (value env a) x) (put_value ks b h)
  put_value ks (minus a b) h = ap (λ x. field_sub x (value env (put ks b))) (put_value ks a h) ∙ ap (λ x. field_sub (value env a) x) (put_value ks b h)
  put_value ks (times a b) h = ap (λ x. field_mul x (value env (put ks b))) (put_value ks a h) ∙ ap (λ x. field_mul (value env a) x) (put_value ks b h)
  put_value ks (negate a) h = ap field_neg (put_value ks a h)

  combined_value : (hs : Given) → AllHold env hs → value env (combined hs) ≡ 0
  combined_value done h = refl
  combined_value (given k l r hs) h =
      let e : field_sub (value env l) (value env r) ≡ 0 = ap (λ x. field_sub x (value env r)) h.0 ∙ field_sub_self (value env r) in
      let f : field_mul (value env k) (field_sub (value env l) (value env r)) ≡ 0 = ap (λ x. field_mul (value env k) x) e ∙ field_mul_zero (value env k) in
      ap (λ x. field_add x (value env (combined hs))) f ∙ (ap (λ x. field_add 0 x) (combined_value hs h.1) ∙ (field_add_zero 0))

  reduced_value : (e : Expr) → is_reduced e ≡ true → value env e < prime
  reduced_value (var i) h = absurd (false≢true h)
  reduced_value (num n) h = ltb-true n prime h
  reduced_value (plus a b) h = field_add_below (value env a) (value env b)
  reduced_value (minus a b) h = field_sub_below (value env a) (value env b)
  reduced_value (times a b) h = field_mul_below (value env a) (value env b)
  reduced_value (negate a) h = field_neg_below (value env a)

  -- the one law: what passes the test holds, wherever the known numbers and the equations do
  pub follows_mod : (ks : Known) → IsKnown env ks → (hs : Given) → AllHold env hs → (l r : Expr) → is_combined ks hs l r ≡ true → value env l % prime ≡ value env r % prime
  follows_mod ks k hs h l r t =
      let whole : Expr = minus (minus l r) (combined hs) in
      let a : value env (put ks (minus (minus l r) (combined hs))) % prime ≡ 0 =
      terms_of_value env (put ks (minus (minus l r) (combined hs))) ∙ zero_value env (terms_of (put ks (minus (minus l r) (combined hs)))) t in
      let b : value env (put ks (minus (minus l r) (combined hs))) ≡ field_sub (field_sub (value env l) (value env r)) (value env (combined hs)) =
      put_value ks (minus (minus l r) (combined hs)) k in
      let c : field_sub (field_sub (value env l) (value env r)) (value env (combined hs)) ≡ field_sub (value env l) (value env r) =
      ap (λ x. field_sub (field_sub (value env l) (value env r)) x) (combined_value hs h)
      ∙ (field_sub_zero (field_sub (value env l) (value env r)) ∙ mod-eq_of_lt (field_sub_below (value env l) (value env r))) in
      equal_from_difference (value env l) (value env r)
      (sym (mod-eq_of_lt (field_sub_below (value env l) (value env r))) ∙ (ap (λ x. x % prime) (sym c) ∙ (ap (λ x. x % prime) (sym b) ∙ a)))

  -- the same of two results of operations
  pub follows : (ks : Known) → IsKnown env ks → (hs : Given) → AllHold env hs → (l r : Expr) → is_combined ks hs l r ≡ true → is_reduced l ≡ true → is_reduced r ≡ true → value env l ≡ value env r
  follows ks k hs h l r t p q =
      sym (mod-eq_of_lt (reduced_value l p)) ∙ (follows_mod ks k hs h l r t ∙ mod-eq_of_lt (reduced_value r q))

  -- and of two expressions whose values are known to be below p, as those of variables of the field
  pub follows_below : (ks : Known) → IsKnown env ks → (hs : Given) → AllHold env hs → (l r : Expr) → is_combined ks hs l r ≡ true → value env l < prime → value env r < prime → value env l ≡ value env r
  follows_below ks k hs h l r t p q = sym (mod-eq_of_lt p) ∙ (follows_mod ks k hs h l r t ∙ mod-eq_of_lt q)

  -- an identity, with nothing known and nothing given
  pub identity : (l r : Expr) → is_combined nothing done l r ≡ true → is_reduced l ≡ true → is_reduced r ≡ true → value env l ≡ value env r
  identity l r t p q = follows nothing tt done tt l r t p q
