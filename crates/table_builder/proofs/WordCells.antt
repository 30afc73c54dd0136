-- The cells of values that lie one after another, by their places.
use Rattle.std.proofs.Common.{◌≡◌, ℕ, ◌+◌, ◌%◌, ◌<◌, List, length, get_or, sym, ap, ◌∙◌, arith}
use Rattle.std.specs.List.{enumerate_from}
use Rattle.std.proofs.lemmas.List.{get_or-map}
use Rattle.std.proofs.lemmas.List.FromFn.{length-enumerate_from, get_or-enumerate_from}
use Rattle.goldilocks.specs.Field.{prime}
use Rattle.goldilocks.specs.declared.Felt.{Felt}
use Rattle.goldilocks.proofs.Pairs.{same_felt}
use Rattle.goldilocks.specs.Felts.{felt}
use Rattle.goldilocks.specs.Cells.{cell, cells_from}

-- the cell at a place, whose address is counted up to it
pub cells_from-at : (address : ℕ) (values : List Felt) (i : ℕ) (addr value : Felt) → i < length values → value ≡ get_or values i value → addr.number ≡ (address + i) % prime → cell addr value ≡ get_or (cells_from address values) i (cell addr value)
unfolding cells_from
cells_from-at address values i addr value within at address_is =
    let there : get_or (enumerate_from address values) i (address, value) ≡ (address + i, get_or values i value) = get_or-enumerate_from address values i (address, value) within in
    let made : get_or (cells_from address values) i (cell addr value) ≡ cell (felt (address + i)) (get_or values i value) =
    get_or-map (λ (p : ℕ × Felt). cell (felt p.0) p.1) (enumerate_from address values) i (address, value) (cell addr value) (omega (arith, length-enumerate_from address values)) ∙ ap (λ (p : ℕ × Felt). cell (felt p.0) p.1) there in
    ap (λ a. cell a value) (same_felt addr (felt (address + i)) address_is)
    ∙ (ap (λ v. cell (felt (address + i)) v) at ∙ sym made)
