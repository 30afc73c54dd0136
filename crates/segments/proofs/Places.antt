-- The order of places, and the cells of a memory by their places.
use Rattle.std.proofs.Common.{◌≡◌, ◌≢◌, ◌↔◌, ℕ, ◌<◌, ◌⊎◌, inl, inr, IsTrue, Ordering, nat_cmp, ◌&&◌, Bool, true, false, cond, nat_eq, Some, refl, sym, ◌∙◌, ap, arith}
use Rattle.std.proofs.lemmas.Bool.Decides.{nat_tests}
use Rattle.std.proofs.lemmas.Cmp.{ranked}
use Rattle.std.specs.Ordering.{is_eq, eq_by_cmp, MatchOrdering, ordering_then}
use Rattle.std.specs.declared.cmp.Ordering.TheVariants.{Less, Equal, Greater}
use Rattle.std.specs.Cmp.{IsTotalOrder, nat_cmp_total, on_total, then_total}
use Rattle.std.specs.FinMap.{IsAntisymmetric, get-insert, same_map}
use Rattle.segments.specs.declared.Place.{Place}
use Rattle.segments.specs.declared.Value.{Value}
use Rattle.segments.specs.Values.{place_cmp, place, IsBefore}
use Rattle.segments.specs.Memory.{RunMemory, cell, with_cell}

pub place_cmp_total : IsTotalOrder place_cmp
place_cmp_total = then_total (on_total (λ (p : Place). p.seg) nat_cmp_total) (on_total (λ (p : Place). p.off) nat_cmp_total)

-- whether two places tie in the order: their segments and offsets are equal
pub place_test : (p q : Place) → eq_by_cmp place_cmp p q ≡ (nat_eq p.seg q.seg && nat_eq p.off q.off)
place_test p q = grind (arith, nat_tests)

pub place_cmp-IsAntisymmetric : IsAntisymmetric place_cmp
place_cmp-IsAntisymmetric p q e =
    let tied : (nat_eq p.seg q.seg && nat_eq p.off q.off) ≡ true = sym (place_test p q) ∙ ap is_eq e in
    let same_seg : p.seg ≡ q.seg = grind (arith, nat_tests) in
    let same_off : p.off ≡ q.off = grind (arith, nat_tests) in
    λ i. place (same_seg i) (same_off i)

-- a place ties with itself
pub place_same : (p : Place) → eq_by_cmp place_cmp p p ≡ true
place_same p = place_test p p ∙ grind (arith, nat_tests)

-- places in two segments do not tie
pub place_other_segment : (p q : Place) → p.seg ≢ q.seg → eq_by_cmp place_cmp p q ≡ false
place_other_segment p q apart = place_test p q ∙ grind (arith, nat_tests)

-- places at two offsets do not tie
pub place_other_offset : (p q : Place) → p.off ≢ q.off → eq_by_cmp place_cmp p q ≡ false
place_other_offset p q apart = place_test p q ∙ grind (arith, nat_tests)

-- places that tie are one place
pub place_tied : (p q : Place) → eq_by_cmp place_cmp p q ≡ true → p ≡ q
place_tied p q e =
    let tied : (nat_eq p.seg q.seg && nat_eq p.off q.off) ≡ true = sym (place_test p q) ∙ e in
    let same_seg : p.seg ≡ q.seg = grind (arith, nat_tests) in
    let same_off : p.off ≡ q.off = grind (arith, nat_tests) in
    λ i. place (same_seg i) (same_off i)

-- what two orders, one after the other, answer
less_in_turn : (r s : Ordering) (a b u v : ℕ) → MatchOrdering r (a < b) (a ≡ b) (b < a) → MatchOrdering s (u < v) (u ≡ v) (v < u) → (ordering_then r s ≡ Less) ↔ ((a < b) ⊎ ((a ≡ b) × (u < v)))
less_in_turn Less s a b u v h k = (λ _. inl h, λ _. refl)
less_in_turn Equal Less a b u v h k = (λ _. inr (h, k), λ _. refl)
less_in_turn Equal Equal a b u v h k = (λ e. absurd (cc), λ o. absurd (elim o [ inl l ↦ omega arith | inr p ↦ let l = p.1 in omega arith ]))
less_in_turn Equal Greater a b u v h k = (λ e. absurd (cc), λ o. absurd (elim o [ inl l ↦ omega arith | inr p ↦ let l = p.1 in omega arith ]))
less_in_turn Greater s a b u v h k = (λ e. absurd (cc), λ o. absurd (elim o [ inl l ↦ omega arith | inr p ↦ let l = p.0 in omega arith ]))

pub cmp-less : (p q : Place) → (place_cmp p q ≡ Less) ↔ IsBefore p q
unfolding IsBefore
cmp-less p q =
    less_in_turn (nat_cmp p.seg q.seg) (nat_cmp p.off q.off) p.seg q.seg p.off q.off
    (ranked p.seg q.seg (nat_cmp p.seg q.seg) refl) (ranked p.off q.off (nat_cmp p.off q.off) refl)

pub cmp-equal : (p q : Place) → (place_cmp p q ≡ Equal) ↔ (p ≡ q)
cmp-equal p q = (place_cmp-IsAntisymmetric p q, λ same. ap (place_cmp p) (sym same) ∙ cmp-same p)
  where
    cmp-same : (p : Place) → place_cmp p p ≡ Equal
    cmp-same p = grind (arith, nat_tests)

pub eq-same : (p q : Place) → IsTrue (nat_eq p.seg q.seg && nat_eq p.off q.off) ↔ (p ≡ q)
eq-same p q = (λ tied. place_tied p q (place_test p q ∙ tied), λ same. sym (place_test p q) ∙ (ap (eq_by_cmp place_cmp p) (sym same) ∙ place_same p))

-- two memories with the same sizes and the same cells are one
pub same_memory : (m n : RunMemory) → m.sizes ≡ n.sizes → ((p : Place) → cell m p ≡ cell n p) → m ≡ n
unfolding cell
same_memory m n sizes cells =
    let maps : m.cells ≡ n.cells = same_map place_cmp_total place_cmp-IsAntisymmetric m.cells n.cells cells in
    λ i. record { sizes = sizes i; cells = maps i }

-- the cells of a memory once one is written
pub cell-with_cell : (m : RunMemory) (p : Place) (v : Value) (q : Place) → cell (with_cell m p v) q ≡ cond (eq_by_cmp place_cmp q p) (Some v) (cell m q)
unfolding cell with_cell
cell-with_cell m p v q = get-insert place_cmp_total m.cells p v q

pub cell-written : (m : RunMemory) (p : Place) (v : Value) → cell (with_cell m p v) p ≡ Some v
cell-written m p v = cell-with_cell m p v p ∙ ap (λ b. cond b (Some v) (cell m p)) (place_same p)

pub cell-other : (m : RunMemory) (p q : Place) (v : Value) → q ≢ p → cell (with_cell m p v) q ≡ cell m q
cell-other m p q v apart =
    let test : eq_by_cmp place_cmp q p ≡ false = differs (eq_by_cmp place_cmp q p) (λ e. apart (place_tied q p e)) in
    cell-with_cell m p v q ∙ ap (λ b. cond b (Some v) (cell m q)) test
  where
    differs : (b : Bool) → (b ≡ true → ⊥) → b ≡ false
    differs true is_not = absurd (is_not refl)
    differs false is_not = refl
