-- A value of the field is its number, and cells are ordered by address and then by value.
use Rattle.std.proofs.Common.{◌≡◌, ◌↔◌, ℕ, ◌<◌, ◌⊎◌, ◌&&◌, IsTrue, nat_eq, refl, ap, subst, arith, inl, inr, Ordering, nat_cmp}
use Rattle.std.proofs.Math.Nat.{mod-eq_of_lt}
use Rattle.std.proofs.Props.{props}
use Rattle.std.proofs.lemmas.Bool.Decides.{nat_tests}
use Rattle.std.proofs.lemmas.Cmp.{ranked}
use Rattle.std.specs.Ordering.{MatchOrdering, ordering_then}
use Rattle.std.specs.declared.cmp.Ordering.TheVariants.{Less, Equal, Greater}
use Rattle.goldilocks.specs.declared.Felt.{Felt}
use Rattle.goldilocks.specs.declared.Pair.{Pair}
use Rattle.goldilocks.specs.Felts.{felt}
use Rattle.goldilocks.specs.Field.{prime}
use Rattle.goldilocks.specs.Pairs.{IsBefore}

-- equal numbers make equal values of the field
pub same_felt : (x y : Felt) → x.number ≡ y.number → x ≡ y
same_felt x y e =
    let unique : IsProp (x.number < prime) = hlevel props in
    let P : ℕ → Type 0 = λ n. (below : n < prime) → x ≡ record { number = n; in_field = below } in
    let at_x : P x.number = λ below. ap (λ (h : x.number < prime). record { number = x.number; in_field = h }) (unique x.in_field below) in
    subst P e at_x y.in_field

-- a value of the field is that of its number
pub felt-number : (x : Felt) → felt x.number ≡ x
felt-number x = same_felt (felt x.number) x (mod-eq_of_lt x.in_field)

-- and a number below p is that of its value
pub number-felt : (n : ℕ) → n < prime → (felt n).number ≡ n
number-felt n low = mod-eq_of_lt low

-- equal numbers make equal cells
pub same_pair : (x y : Pair) → x.addr.number ≡ y.addr.number → x.value.number ≡ y.value.number → x ≡ y
same_pair x y a v =
    let e : x.addr ≡ y.addr = same_felt x.addr y.addr a in
    let f : x.value ≡ y.value = same_felt x.value y.value v in
    let P : Felt → Type 0 = λ t. x ≡ record { addr = t; value = y.value } in
    subst P e (ap (λ (t : Felt). record { addr = x.addr; value = t }) f)

-- what two orders, one after the other, answer
less_in_turn : (r s : Ordering) (a b u v : ℕ) → MatchOrdering r (a < b) (a ≡ b) (b < a) → MatchOrdering s (u < v) (u ≡ v) (v < u) → (ordering_then r s ≡ Less) ↔ ((a < b) ⊎ ((a ≡ b) × (u < v)))
less_in_turn Less s a b u v h k = (λ _. inl h, λ _. refl)
less_in_turn Equal Less a b u v h k = (λ _. inr (h, k), λ _. refl)
less_in_turn Equal Equal a b u v h k = (λ e. absurd (cc), λ o. absurd (elim o [ inl l ↦ omega arith | inr p ↦ let l = p.1 in omega arith ]))
less_in_turn Equal Greater a b u v h k = (λ e. absurd (cc), λ o. absurd (elim o [ inl l ↦ omega arith | inr p ↦ let l = p.1 in omega arith ]))
less_in_turn Greater s a b u v h k = (λ e. absurd (cc), λ o. absurd (elim o [ inl l ↦ omega arith | inr p ↦ let l = p.0 in omega arith ]))

equal_in_turn : (r s : Ordering) (a b u v : ℕ) → MatchOrdering r (a < b) (a ≡ b) (b < a) → MatchOrdering s (u < v) (u ≡ v) (v < u) → (ordering_then r s ≡ Equal) ↔ ((a ≡ b) × (u ≡ v))
equal_in_turn Less s a b u v h k = (λ e. absurd (cc), λ p. absurd (let l = p.0 in omega arith))
equal_in_turn Equal Less a b u v h k = (λ e. absurd (cc), λ p. absurd (let l = p.1 in omega arith))
equal_in_turn Equal Equal a b u v h k = (λ _. (h, k), λ _. refl)
equal_in_turn Equal Greater a b u v h k = (λ e. absurd (cc), λ p. absurd (let l = p.1 in omega arith))
equal_in_turn Greater s a b u v h k = (λ e. absurd (cc), λ p. absurd (let l = p.0 in omega arith))

pub cmp-less : (x y : Pair) → (ordering_then (nat_cmp x.addr.number y.addr.number) (nat_cmp x.value.number y.value.number) ≡ Less) ↔ IsBefore x y
unfolding IsBefore
cmp-less x y =
    less_in_turn (nat_cmp x.addr.number y.addr.number) (nat_cmp x.value.number y.value.number) x.addr.number y.addr.number x.value.number y.value.number
    (ranked x.addr.number y.addr.number (nat_cmp x.addr.number y.addr.number) refl)
    (ranked x.value.number y.value.number (nat_cmp x.value.number y.value.number) refl)

pub cmp-equal : (x y : Pair) → (ordering_then (nat_cmp x.addr.number y.addr.number) (nat_cmp x.value.number y.value.number) ≡ Equal) ↔ (x ≡ y)
cmp-equal x y =
    let both = equal_in_turn (nat_cmp x.addr.number y.addr.number) (nat_cmp x.value.number y.value.number) x.addr.number y.addr.number x.value.number y.value.number
    (ranked x.addr.number y.addr.number (nat_cmp x.addr.number y.addr.number) refl)
    (ranked x.value.number y.value.number (nat_cmp x.value.number y.value.number) refl) in
    (λ e. same_pair x y (both.0 e).0 (both.0 e).1, λ e. both.1 (ap (λ (p : Pair). p.addr.number) e, ap (λ (p : Pair). p.value.number) e))

both_equal : (a b u v : ℕ) → IsTrue (nat_eq a b && nat_eq u v) ↔ ((a ≡ b) × (u ≡ v))
both_equal a b u v = grind (arith, nat_tests)

pub eq-same : (x y : Pair) → IsTrue (nat_eq x.addr.number y.addr.number && nat_eq x.value.number y.value.number) ↔ (x ≡ y)
eq-same x y =
    let both = both_equal x.addr.number y.addr.number x.value.number y.value.number in
    (λ e. same_pair x y (both.0 e).0 (both.0 e).1, λ e. both.1 (ap (λ (p : Pair). p.addr.number) e, ap (λ (p : Pair). p.value.number) e))
