-- Sizes, bases and addresses: held places lie one after another, so no two of them share an address.
use Rattle.std.proofs.Common.{◌≡◌, ℕ, zero, suc, ◌+◌, ◌<◌, ◌≤◌, List, [], ◌∷◌, length, get_or, take, ap, arith, inl, inr}
use Rattle.std.specs.Prelude.{sum, slice_set}
use Rattle.std.proofs.lemmas.Bool.{cases_order}
use Rattle.std.proofs.lemmas.List.Sums.{sum_by-cons, sum_by-set}
use Rattle.segments.specs.declared.Place.{Place}
use Rattle.segments.specs.Values.{place}
use Rattle.segments.specs.Relocation.{base, address}

sum-cons : (x : ℕ) (sizes : List ℕ) → sum (x ∷ sizes) ≡ x + sum sizes
sum-cons x sizes = sum_by-cons (λ n. n) x sizes

-- the sizes before a segment, and its own, are among those before a later one
pub sums_before : (sizes : List ℕ) (g h : ℕ) → g < h → sum (take g sizes) + get_or sizes g 0 ≤ sum (take h sizes)
sums_before sizes g zero later = absurd (omega arith)
sums_before [] zero (suc h) later = omega arith
sums_before [] (suc g) (suc h) later = omega arith
sums_before (x ∷ sizes) zero (suc h) later = rw (sum-cons x (take h sizes)) (omega arith)
sums_before (x ∷ sizes) (suc g) (suc h) later =
    rw (sum-cons x (take h sizes), sum-cons x (take g sizes)) (omega (arith, sums_before sizes g h (omega arith)))

-- and among all
pub sums_within : (sizes : List ℕ) (g : ℕ) → sum (take g sizes) + get_or sizes g 0 ≤ sum sizes
sums_within [] zero = omega arith
sums_within [] (suc g) = omega arith
sums_within (x ∷ sizes) zero = rw (sum-cons x sizes) (omega arith)
sums_within (x ∷ sizes) (suc g) = rw (sum-cons x sizes, sum-cons x (take g sizes)) (omega (arith, sums_within sizes g))

-- the sum once one size is another
pub sum-set : (sizes : List ℕ) (g n : ℕ) → g < length sizes → sum (slice_set sizes g n) + get_or sizes g 0 ≡ sum sizes + n
sum-set sizes g n inside = sum_by-set (λ k. k) sizes g n 0 inside

-- the base of any segment is from 1 to one more than the sum of all sizes
pub base_within : (sizes : List ℕ) (g : ℕ) → base sizes g ≤ sum sizes + 1
unfolding base
base_within sizes g = omega (arith, sums_within sizes g)

pub base_positive : (sizes : List ℕ) (g : ℕ) → 1 ≤ base sizes g
unfolding base
base_positive sizes g = omega arith

pub address_positive : (sizes : List ℕ) (p : Place) → 1 ≤ address sizes p
unfolding address
address_positive sizes p = omega (arith, base_positive sizes p.seg)

-- a cell below a segment's size lies before the cells of later segments
pub address_before : (sizes : List ℕ) (p q : Place) → p.off < get_or sizes p.seg 0 → p.seg < q.seg → address sizes p < address sizes q
unfolding address base
address_before sizes p q inside later = omega (arith, sums_before sizes p.seg q.seg later)

pub address_within : (sizes : List ℕ) (p : Place) → p.off < get_or sizes p.seg 0 → address sizes p ≤ sum sizes
unfolding address base
address_within sizes p inside = omega (arith, sums_within sizes p.seg)

-- in one segment the offset tells the address
pub address_in_segment : (sizes : List ℕ) (p q : Place) → p.seg ≡ q.seg → address sizes p ≡ address sizes q → p.off ≡ q.off
unfolding address
address_in_segment sizes p q same e =
    let bases : base sizes p.seg ≡ base sizes q.seg = ap (base sizes) same in
    omega arith

-- two cells below their segments' sizes that share an address are one
pub one_address : (sizes : List ℕ) (p q : Place) → p.off < get_or sizes p.seg 0 → q.off < get_or sizes q.seg 0 → address sizes p ≡ address sizes q → p ≡ q
one_address sizes p q inside_p inside_q e =
    elim (cases_order p.seg q.seg) [
      | inl same ↦ let same_off : p.off ≡ q.off = address_in_segment sizes p q same e in λ i. place (same i) (same_off i)
      | inr apart ↦ elim apart [
        | inl before ↦ absurd (omega (arith, address_before sizes p q inside_p before))
        | inr after ↦ absurd (omega (arith, address_before sizes q p inside_q after))
      ]
    ]
