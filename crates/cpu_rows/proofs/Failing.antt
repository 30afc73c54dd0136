-- The first equation of a list that fails, part by part.
use Rattle.std.proofs.Common.{◌≡◌, ◌≢◌, ◌↔◌, ℕ, zero, suc, below_none, below_more, get_or-set_other, get_or-set_same, ◌+◌, ◌<◌, ◌≤◌, ◌∙◌, Bool, true, false, not, ◌==◌, List, [], ◌∷◌, ◌++◌, length, get_or, take, Option, Some, None, refl, sym, ap, arith, inl, inr}
use Rattle.std.specs.Bool.{if◌then◌else◌}
use Rattle.std.specs.List.{All, Any, AllByRecursion}
use Rattle.std.proofs.lemmas.List.Elements.{All-from_recursion, recursion_from_All, All-cons}
use Rattle.std.specs.Option.{option_map, option_or}
use Rattle.std.specs.Prelude.{find}
use Rattle.std.proofs.Math.ListN.{set as put}
use Rattle.std.proofs.Math.Nat.{mod-eq_of_lt}
use Rattle.std.proofs.lemmas.Bool.Decides.{eqb_tells}
use Rattle.goldilocks.specs.declared.Felt.{Felt}
use Rattle.goldilocks.specs.Field.{prime, field_add, field_mul}
use Rattle.goldilocks.proofs.FieldLaws.{field_one_mul, field_zero_mul, flag_from_product}
use Rattle.casm_word.specs.declared.Flags.{Flags}
use Rattle.casm_word.specs.declared.Shape.{Shape}
use Rattle.casm_word.specs.Word.{breaks}
use Rattle.casm_word.specs.Transition.{Registers}
use Rattle.cpu_rows.specs.Columns.{Columns}
use Rattle.goldilocks.specs.Felts.{numbers}
use Rattle.cpu_rows.proofs.EachEquation.{flag_low, flag_product}
use Rattle.cpu_rows.specs.Equations.{Equation, ◌⊕◌, ◌⊖◌, ◌⊙◌, ◌≐◌, C, flag, equations, EquationHolds, holds, failing_number, IsLeastFailing}
use Rattle.cpu_rows.specs.Steps.{zero_or_one, equation_of}
use Rattle.cpu_rows.proofs.Numbers.{number_at}

-- a flag's product
pub product_of_set : (b : Bool) (x : ℕ) → x < prime → b ≡ true → zero_or_one b ⊙ x ≡ x
product_of_set b x low e = rw e (field_one_mul x ∙ mod-eq_of_lt low)

pub product_of_clear : (b : Bool) (x : ℕ) → b ≡ false → zero_or_one b ⊙ x ≡ 0
product_of_clear b x e = rw e (field_zero_mul x)

-- what is found first in two lists joined is found in the first, or else in the second
found-append : {X : Type 0} (g : X → ℕ) (p : X → Bool) (xs ys : List X) → option_map g (find p (xs ++ ys)) ≡ option_or (option_map g (find p xs)) (option_map g (find p ys))
found-append g p [] ys = refl
found-append {X} g p (x ∷ xs) ys = by (p x) (found-append g p xs ys)
  where
    by : (h : Bool) → option_map g (find p (xs ++ ys)) ≡ option_or (option_map g (find p xs)) (option_map g (find p ys)) → option_map g (if h then Some x else find p (xs ++ ys)) ≡ option_or (option_map g (if h then Some x else find p xs)) (option_map g (find p ys))
    by true rest = refl
    by false rest = rest

-- ---- equations

pub joined : (found first second : Option ℕ) (es gs : List Equation) → found ≡ option_or first second → first ≡ failing_number es → second ≡ failing_number gs → found ≡ failing_number (es ++ gs)
unfolding failing_number
joined found first second es gs e p q = e ∙ (rw (p, q) refl ∙ sym (found-append (λ (e : Equation). e.number) (λ e. not (holds e)) es gs))

-- an equation whose sides are known in another form
pub unmet_is : (found : Option ℕ) (k l r l' r' : ℕ) → found ≡ failing_number (C k (l ≐ r) ∷ []) → l ≡ l' → r ≡ r' → found ≡ failing_number (C k (l' ≐ r') ∷ [])
unmet_is found k l r l' r' e p q = e ∙ rw (p, q) refl

-- ---- shapes

abbrev pub broken_in : Flags → List Shape → Option ℕ
broken_in f ss = option_map equation_of (find (λ s. breaks s f) ss)

pub shapes_joined : (f : Flags) (found first second : Option ℕ) (ss ts : List Shape) → found ≡ option_or first second → first ≡ broken_in f ss → second ≡ broken_in f ts → found ≡ broken_in f (ss ++ ts)
shapes_joined f found first second ss ts e p q = e ∙ (rw (p, q) refl ∙ sym (found-append equation_of (λ s. breaks s f) ss ts))

pub shape_is : (f : Flags) (s : Shape) (found : Option ℕ) (b : Bool) → found ≡ (if b then Some (equation_of s) else None) → b ≡ breaks s f → found ≡ broken_in f (s ∷ [])
shape_is f s found b e p = e ∙ (rw p refl ∙ by (breaks s f))
  where
    by : (h : Bool) → (if h then Some (equation_of s) else None) ≡ option_map equation_of (if h then Some s else None)
    by true = refl
    by false = refl

-- ---- flags

double : (x : ℕ) → x ⊕ x ≡ 2 ⊙ x
unfolding field_add field_mul
double x = omega arith

-- a flag as the code finds it
pub flag_is : (xs : List Felt) (k sum found : ℕ) (d e : Felt) → k + 1 < length xs → sum ≡ (get_or xs (k + 1) d).number ⊕ (get_or xs (k + 1) d).number → found ≡ (get_or xs k e).number ⊖ sum → get_or (numbers xs) k 0 ⊖ 2 ⊙ get_or (numbers xs) (k + 1) 0 ≡ found
flag_is xs k sum found d e h p q =
    let a : get_or (numbers xs) k 0 ≡ (get_or xs k e).number = number_at xs k e (omega arith) in
    let b : get_or (numbers xs) (k + 1) 0 ≡ (get_or xs (k + 1) d).number = number_at xs (k + 1) d h in
    rw (a, b, ← double (get_or xs (k + 1) d).number, ← p) (sym q)

pub small_number : (x : ℕ) → x ≤ 1 → x ≡ zero_or_one (x == 1)
small_number x h = elim (eqb_tells x 1) [ inl z ↦ rw z.0 z.1 | inr z ↦ rw z.0 (omega (arith, z.1)) ]

-- a number above 1 is no flag
pub no_flag : (x : ℕ) → x < prime → 1 < x → x ⊙ (x ⊖ 1) ≢ 0
no_flag x low above h =
    elim (flag_from_product x h) [
      | inl z ↦ let e : x ≡ 0 = sym (mod-eq_of_lt low) ∙ z in omega arith
      | inr z ↦ let e : x ≡ 1 = sym (mod-eq_of_lt low) ∙ z in omega arith
    ]

-- the first that fails, by its place
failing_at : (es : List Equation) (j : ℕ) (d : Equation) → j < length es → ((k : ℕ) → k < j → EquationHolds (get_or es k d)) → (EquationHolds (get_or es j d) → ⊥) → failing_number es ≡ Some (get_or es j d).number
unfolding failing_number holds EquationHolds
failing_at [] j d below before here = absurd (omega arith)
failing_at (e ∷ es) zero d below before here =
    elim (eqb_tells e.left e.right) [ inl z ↦ absurd (here z.1) | inr z ↦ rw z.0 refl ]
failing_at (e ∷ es) (suc j) d below before here =
    let first : e.left ≡ e.right = before 0 (omega arith) in
    let rest : option_map (λ e. e.number) (find (λ e. not (holds e)) es) ≡ Some (get_or es j d).number =
    failing_at es j d (omega arith) (λ k h. before (suc k) (omega arith)) here in
    elim (eqb_tells e.left e.right) [ inl z ↦ rw z.0 rest | inr z ↦ absurd (z.1 first) ]

-- the first fifteen equations, each by its flag
fifteen : (r : Columns) (after : Registers) (d : Equation) (k : ℕ) → k < 15 → get_or (take 15 (equations r after)) k d ≡ C (k + 1) (flag r k ⊙ (flag r k ⊖ 1) ≐ 0)
unfolding equations
fifteen r after d =
    let P : ℕ → Type 0 = λ k. get_or (take 15 (equations r after)) k d ≡ C (k + 1) (flag r k ⊙ (flag r k ⊖ 1) ≐ 0) in
    below_more P 14 (below_more P 13 (below_more P 12 (below_more P 11 (below_more P 10 (below_more P 9 (below_more P 8 (below_more P 7 (below_more P 6 (below_more P 5 (below_more P 4 (below_more P 3 (below_more P 2 (below_more P 1 (below_more P 0 (below_none P) refl) refl) refl) refl) refl) refl) refl) refl) refl) refl) refl) refl) refl) refl) refl

-- a flag that is no flag, behind others that are
pub bad_flag : (r : Columns) (after : Registers) (set : List Bool) (j : ℕ) → j < 15 → ((k : ℕ) → k < j → flag r k ≡ zero_or_one (get_or set k false)) → 1 < flag r j → failing_number (take 15 (equations r after)) ≡ Some (j + 1)
unfolding EquationHolds equations
bad_flag r after set j below before above =
    let d : Equation = C 0 (0 ≐ 0) in
    let here : get_or (take 15 (equations r after)) j d ≡ C (j + 1) (flag r j ⊙ (flag r j ⊖ 1) ≐ 0) = fifteen r after d j below in
    failing_at (take 15 (equations r after)) j d below
    (λ k h. rw (fifteen r after d k (omega arith)) (flag_product (flag r k) (get_or set k false) (before k h)))
    (λ h. no_flag (flag r j) (flag_low r j) above (rw here at h))
    ∙ ap (λ (e : Equation). Some e.number) here

-- one flag more
pub more_flags : (r : Columns) (set : List Bool) (j : ℕ) (b : Bool) → j < length set → ((k : ℕ) → k < j → flag r k ≡ zero_or_one (get_or set k false)) → flag r j ≡ zero_or_one b → (k : ℕ) → k < j + 1 → flag r k ≡ zero_or_one (get_or (put set j b) k false)
more_flags r set j b inside before here =
    below_more _ _
    (λ k h. let ne : k ≢ j = omega arith in rw get_or-set_other (before k h))
    (rw (get_or-set_same set j b false inside) here)

-- ---- the whole list

Any-here : {X : Type 0} (P : X → Type 0) (x : X) (xs : List X) → P x → Any P (x ∷ xs)
Any-here P x xs p = (0, x, omega arith, refl, p)

Any-cons : {X : Type 0} (P : X → Type 0) (x : X) (xs : List X) → Any P xs → Any P (x ∷ xs)
Any-cons P x xs a = (suc a.0, a.1, omega (arith, a.2), a.3, a.4)

some_is_none : {k : ℕ} → Some k ≡ None → ⊥
some_is_none h = cc

-- none fails exactly where each holds
pub failing_number-None : (es : List Equation) → (failing_number es ≡ None) ↔ All EquationHolds es
unfolding failing_number holds EquationHolds
failing_number-None es = ((λ e. All-from_recursion EquationHolds es (to es e)), (λ h. from es (recursion_from_All EquationHolds es h)))
  where
    to : (es : List Equation) → option_map (λ e. e.number) (find (λ e. not (holds e)) es) ≡ None → AllByRecursion EquationHolds es
    to [] e = tt
    to (x ∷ xs) e =
        elim (eqb_tells x.left x.right) [ inl z ↦ (z.1, to xs (rw z.0 at e)) | inr z ↦ absurd (some_is_none (rw z.0 at e)) ]

    from : (es : List Equation) → AllByRecursion EquationHolds es → option_map (λ e. e.number) (find (λ e. not (holds e)) es) ≡ None
    from [] h = refl
    from (x ∷ xs) h =
        elim (eqb_tells x.left x.right) [ inl z ↦ rw z.0 (from xs h.1) | inr z ↦ absurd (z.1 h.0) ]

-- the equations of the list are numbered on from n
abbrev pub IsNumberedFrom : ℕ → List Equation → Type 0
IsNumberedFrom n [] = Unit {0}
IsNumberedFrom n (e ∷ es) = (e.number ≡ n) × IsNumberedFrom (n + 1) es

numbered_above : (n : ℕ) (es : List Equation) → IsNumberedFrom n es → AllByRecursion (λ e. n ≤ e.number) es
numbered_above n [] h = tt
numbered_above n (e ∷ es) h = (omega (arith, h.0), above es (numbered_above (n + 1) es h.1))
  where
    above : (gs : List Equation) → AllByRecursion (λ e. n + 1 ≤ e.number) gs → AllByRecursion (λ e. n ≤ e.number) gs
    above [] k = tt
    above (g ∷ gs) k = (omega (arith, k.0), above gs k.1)

-- the first that fails is the least, where the numbers ascend
pub IsLeastFailing-from_first : (n : ℕ) (es : List Equation) (k : ℕ) → IsNumberedFrom n es → failing_number es ≡ Some k → IsLeastFailing es k
unfolding failing_number holds EquationHolds
IsLeastFailing-from_first n [] k h e = absurd (some_is_none (sym e))
IsLeastFailing-from_first n (x ∷ xs) k h e =
    elim (eqb_tells x.left x.right) [
      | inl z ↦
          let rest : IsLeastFailing xs k = IsLeastFailing-from_first (n + 1) xs k h.1 (rw z.0 at e) in
          let P : Equation → Type 0 = λ e. (e.number ≡ k) × (EquationHolds e → ⊥) in
          record {
            fails = Any-cons P x xs rest.fails;
            lesser = All-cons (λ e. e.number < k → EquationHolds e) x xs (λ _. z.1) rest.lesser;
          }
      | inr z ↦
          let same : Some x.number ≡ Some k = rw z.0 at e in
          let number : x.number ≡ k = cc in
          let P : Equation → Type 0 = λ e. (e.number ≡ k) × (EquationHolds e → ⊥) in
          record {
            fails = Any-here P x xs (number, z.1);
            lesser = All-cons (λ e. e.number < k → EquationHolds e) x xs (λ below. absurd (omega arith)) (All-from_recursion (λ e. e.number < k → EquationHolds e) xs (none_below (omega arith) xs (numbered_above (n + 1) xs h.1)));
          }
    ]
  where
    none_below : k ≡ n → (gs : List Equation) → AllByRecursion (λ e. n + 1 ≤ e.number) gs → AllByRecursion (λ e. e.number < k → EquationHolds e) gs
    none_below same [] a = tt
    none_below same (g ∷ gs) a = ((λ below. absurd (omega (arith, a.0))), none_below same gs a.1)

-- the numbers by their places
pub numbered-at : (n : ℕ) (es : List Equation) (d : Equation) → IsNumberedFrom n es → (k : ℕ) → k < length es → (get_or es k d).number ≡ n + k
numbered-at n [] d h k below = absurd (omega arith)
numbered-at n (e ∷ es) d h zero below = omega (arith, h.0)
numbered-at n (e ∷ es) d h (suc k) below = let rest = numbered-at (n + 1) es d h.1 k (omega arith) in omega (arith, rest)
