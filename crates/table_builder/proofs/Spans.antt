-- Cells have one least and one greatest address, and values lie where their least and their greatest do.
use Rattle.std.proofs.Common.{◌≡◌, ℕ, zero, suc, ◌<◌, ◌≤◌, List, [], ◌∷◌, map, length, sym, subst, arith}
use Rattle.std.specs.Prelude.{All, Any}
use Rattle.std.proofs.lemmas.List.{length-map}
use Rattle.std.proofs.lemmas.List.Elements.{All-map}
use Rattle.goldilocks.specs.declared.Felt.{Felt}
use Rattle.goldilocks.specs.declared.Pair.{Pair}
use Rattle.goldilocks.specs.Felts.{numbers}
use Rattle.memory_columns.specs.Filling.{Spans}
use Rattle.range_columns.specs.Equations.{IsWithin}
use Rattle.goldilocks.specs.Cells.{addresses}
use Rattle.table_builder.specs.Columns.{least_of, greatest_of}
use Rattle.table_builder.proofs.LeastGreatest.{any-here, any-later, any-and_all, least-is, least-reached, greatest-is, greatest-reached}

-- some item, made another
pub any_map : {X : Type 0} (f : X → ℕ) (P : ℕ → Type 0) (xs : List X) → Any (λ x. P (f x)) xs → Any P (map f xs)
any_map f P [] (k, x, within, at, p) = absurd (omega (arith, within))
any_map f P (y ∷ xs) (zero, x, within, at, p) = any-here P (f y) (map f xs) (subst (λ z. P (f z)) (sym at) p)
any_map f P (y ∷ xs) (suc k, x, within, at, p) = any-later P (f y) (map f xs) (any_map f P xs (k, x, omega (arith, within), at, p))

-- ---- the least and the greatest address

pub spans_least : (cells : List Pair) (low high : ℕ) → Spans cells low high → least_of (addresses cells) ≡ low
spans_least cells low high s =
    let address : Pair → ℕ = λ x. x.addr.number in
    least-is (addresses cells) low (any_map address (λ n. n ≡ low) cells s.has_least)
    (All-map (λ n. low ≤ n) address cells (λ k d within. (s.within k d within).0))

pub spans_greatest : (cells : List Pair) (low high : ℕ) → Spans cells low high → greatest_of (addresses cells) ≡ high
spans_greatest cells low high s =
    let address : Pair → ℕ = λ x. x.addr.number in
    greatest-is (addresses cells) high (any_map address (λ n. n ≡ high) cells s.has_greatest)
    (All-map (λ n. n ≤ high) address cells (λ k d within. (s.within k d within).1))

-- ---- the least and the greatest small value

pub within_least : (values : List Felt) (low high : ℕ) → 0 < length values → All (IsWithin low high) values → (low ≤ least_of (numbers values)) × (greatest_of (numbers values) ≤ high)
unfolding IsWithin
within_least values low high some all =
    let number : Felt → ℕ = λ x. x.number in
    let some_number : 0 < length (numbers values) = omega (arith, length-map values number) in
    let within : All (λ n. (low ≤ n) × (n ≤ high)) (numbers values) = All-map (λ n. (low ≤ n) × (n ≤ high)) number values all in
    let l = any-and_all (λ n. n ≡ least_of (numbers values)) (λ n. (low ≤ n) × (n ≤ high)) (numbers values) (least-reached (numbers values) some_number) within in
    let g = any-and_all (λ n. n ≡ greatest_of (numbers values)) (λ n. (low ≤ n) × (n ≤ high)) (numbers values) (greatest-reached (numbers values) some_number) within in
    (omega (arith, l.1, l.2.0), omega (arith, g.1, g.2.1))
