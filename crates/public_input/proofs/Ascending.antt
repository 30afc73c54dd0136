-- Addresses that ascend, one cell after another.
use Rattle.std.proofs.Common.{◌≡◌, ℕ, ◌+◌, ◌-◌, ◌<◌, true, List, [], ◌∷◌, ◌++◌, length, length-append, get_or, Option, Some, None, refl, ap, sym, ◌∙◌, arith, subst}
use Rattle.std.proofs.lemmas.Bool.{ltb-true, lt-ltb}
use Rattle.std.proofs.lemmas.Grind.{common_steps}
use Rattle.std.proofs.lemmas.List.{length-map, map-append, get_or-map}
use Rattle.std.proofs.Math.ListN.{get_or-append}
use Rattle.std.proofs.Math.Seq.{get_or-append_seam}
use Rattle.std.proofs.lemmas.Option.{slice_get-get_or}
use Rattle.std.specs.List.{slice_get, slice_index}
use Rattle.std.specs.List.Sorted.{IsStrictlyIncreasing}
use Rattle.goldilocks.specs.declared.Pair.{Pair}
use Rattle.goldilocks.specs.Cells.{addresses}
use Rattle.public_input.specs.Reading.{is_above}

-- a number above the last one may follow
pub IsStrictlyIncreasing-push : (xs : List ℕ) (x : ℕ) → IsStrictlyIncreasing xs → ((k : ℕ) → k + 1 ≡ length xs → slice_index xs k < x) → IsStrictlyIncreasing (xs ++ x ∷ [])
IsStrictlyIncreasing-push xs x rises below = λ k within. grind (arith, common_steps, rises k, below k)

-- the last address
abbrev last_cell : List Pair → Option Pair
last_cell cells = slice_get cells (length cells - 1)

above_reads : (o : Option Pair) (a : ℕ) (x : Pair) → is_above a o ≡ true → o ≡ Some x → x.addr.number < a
unfolding is_above
above_reads None a x holds e = cc
above_reads (Some y) a x holds e = ltb-true _ _ (subst (λ (o : Option Pair). is_above a o ≡ true) e holds)

above_last : (cells : List Pair) (a k : ℕ) → is_above a (last_cell cells) ≡ true → k + 1 ≡ length (addresses cells) → slice_index (addresses cells) k < a
above_last [] a k holds at = absurd (omega arith)
above_last (x ∷ rest) a k holds at =
    let within : k < length (x ∷ rest) = omega (arith, length-map (x ∷ rest) (λ (c : Pair). c.addr.number)) in
    let last : length (x ∷ rest) - 1 ≡ k = omega (arith, length-map (x ∷ rest) (λ (c : Pair). c.addr.number)) in
    let is_last : last_cell (x ∷ rest) ≡ Some (get_or (x ∷ rest) k x) = ap (λ n. slice_get (x ∷ rest) n) last ∙ slice_get-get_or (x ∷ rest) k x within in
    let there : slice_index (addresses (x ∷ rest)) k ≡ (get_or (x ∷ rest) k x).addr.number = get_or-map (λ (c : Pair). c.addr.number) (x ∷ rest) k x 0 within in
    rw there (above_reads _ a _ holds is_last)

pub addresses-push : (cells : List Pair) (c : Pair) → IsStrictlyIncreasing (addresses cells) → is_above c.addr.number (last_cell cells) ≡ true → IsStrictlyIncreasing (addresses (cells ++ c ∷ []))
addresses-push cells c rises above =
    subst IsStrictlyIncreasing (sym (map-append (λ x. x.addr.number) cells (c ∷ [])))
    (IsStrictlyIncreasing-push (addresses cells) c.addr.number rises (λ k at. above_last cells c.addr.number k above at))

-- the address of each cell is above that of the cell before
pub above_before : (cells : List Pair) (c : Pair) (more : List Pair) → IsStrictlyIncreasing (addresses (cells ++ c ∷ more)) → is_above c.addr.number (last_cell cells) ≡ true
unfolding is_above
above_before [] c more rises = refl
above_before (x ∷ cells) c more rises =
    let n = length cells in
    let all = (x ∷ cells) ++ (c ∷ more) in
    let inside : n < length (x ∷ cells) = omega arith in
    let long : n + 1 < length all = omega (arith, length-append (x ∷ cells) (c ∷ more)) in
    let last : length (x ∷ cells) - 1 ≡ n = omega arith in
    let is_last : last_cell (x ∷ cells) ≡ Some (get_or (x ∷ cells) n x) = ap (λ k. slice_get (x ∷ cells) k) last ∙ slice_get-get_or (x ∷ cells) n x inside in
    let here : slice_index (addresses all) n ≡ (get_or (x ∷ cells) n x).addr.number =
    get_or-map (λ (c : Pair). c.addr.number) all n x 0 (omega arith) ∙ ap (λ (p : Pair). p.addr.number) (get_or-append (x ∷ cells) (c ∷ more) x n inside) in
    let seam : n + 1 ≡ length (x ∷ cells) = omega arith in
    let next : slice_index (addresses all) (n + 1) ≡ c.addr.number =
    get_or-map (λ (c : Pair). c.addr.number) all (n + 1) x 0 long ∙ ap (λ (p : Pair). p.addr.number) (ap (λ k. get_or all k x) seam ∙ get_or-append_seam (x ∷ cells) c more x) in
    let below : (get_or (x ∷ cells) n x).addr.number < c.addr.number = rw (here, next) at (rises n (simp length-map (omega arith))) in
    rw is_last (lt-ltb _ _ below)
