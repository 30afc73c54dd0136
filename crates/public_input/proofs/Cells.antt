-- The cells that are read one entry after another.
use Rattle.std.proofs.Common.{◌≡◌, ◌-◌, true, List, [], ◌∷◌, ◌++◌, length, map, Some, Result, Ok, refl, ap, ap₂, sym, ◌∙◌, subst, append_assoc, append-nil}
use Rattle.std.specs.List.{slice_get}
use Rattle.std.specs.List.Sorted.{IsStrictlyIncreasing}
use Rattle.goldilocks.specs.declared.Pair.{Pair}
use Rattle.serde_json.specs.Data.{Data}
use Rattle.json_fields.specs.Values.{pair_in}
use Rattle.json_fields.specs.Faults.{in_turn}
use Rattle.goldilocks.specs.Cells.{addresses}
use Rattle.public_input.specs.Reading.{is_above, next_cell}
use Rattle.json_fields.proofs.Steps.{needed_then, demand_then, ok_then}
use Rattle.public_input.proofs.Ascending.{addresses-push, above_before}

pub same_Ok : {A F : Type 0} (x y : A) → ◌≡◌ {A = Result A F} (Ok x) (Ok y) → x ≡ y
same_Ok x y e = cc

-- the entry is this cell, and its address is above the one before
pub record IsNext (before : List Pair) (entry : Data) (cell : Pair) : Type 0 where
  pub is : pair_in entry ≡ Some cell
  pub above : is_above cell.addr.number (slice_get before (length before - 1)) ≡ true

next_cell-ok : (before : List Pair) (entry : Data) (cell : Pair) → next_cell before entry ≡ Ok cell → IsNext before entry cell
unfolding next_cell
next_cell-ok before entry cell e =
    let found = needed_then _ _ _ _ e in
    let higher = demand_then _ _ _ _ found.2 in
    let same : found.0 ≡ cell = same_Ok _ _ higher.1 in
    record {
      is = found.1 ∙ ap Some same;
      above = subst (λ (c : Pair). is_above c.addr.number (slice_get before (length before - 1)) ≡ true) same higher.0;
    }

next_cell-back : (before : List Pair) (entry : Data) (cell : Pair) → IsNext before entry cell → next_cell before entry ≡ Ok cell
unfolding next_cell
next_cell-back before entry cell next = rw (next.is, next.above) refl

-- the entries are these cells, which come after those before and ascend with them
pub record AreNext (before : List Pair) (entries : List Data) (cells : List Pair) : Type 0 where
  pub more : List Pair
  pub are : map pair_in entries ≡ map Some more
  pub whole : cells ≡ before ++ more
  pub ascending : IsStrictlyIncreasing (addresses cells)

pub in_turn-ok : (before : List Pair) (entries : List Data) (cells : List Pair) → IsStrictlyIncreasing (addresses before) → in_turn next_cell before entries ≡ Ok cells → AreNext before entries cells
unfolding in_turn
in_turn-ok before [] cells rises e = record {
  more = [];
  are = refl;
  whole = sym (same_Ok _ _ e) ∙ sym (append-nil before);
  ascending = subst (λ (cs : List Pair). IsStrictlyIncreasing (addresses cs)) (same_Ok _ _ e) rises;
}
in_turn-ok before (entry ∷ entries) cells rises e =
    let first = ok_then _ _ _ e in
    let next = next_cell-ok before entry first.0 first.1 in
    let rest = in_turn-ok (before ++ first.0 ∷ []) entries cells (addresses-push before first.0 rises next.above) first.2 in
    record {
      more = first.0 ∷ rest.more;
      are = ap₂ (λ x xs. x ∷ xs) next.is rest.are;
      whole = rest.whole ∙ append_assoc before (first.0 ∷ []) rest.more;
      ascending = rest.ascending;
    }

-- the entries before the rest are read, too
pub in_turn-back : (before : List Pair) (entries : List Data) (more : List Pair) → map pair_in entries ≡ map Some more → IsStrictlyIncreasing (addresses (before ++ more)) → in_turn next_cell before entries ≡ Ok (before ++ more)
unfolding in_turn
in_turn-back before [] [] are rises = ap Ok (sym (append-nil before))
in_turn-back before [] (cell ∷ more) are rises = cc
in_turn-back before (entry ∷ entries) [] are rises = cc
in_turn-back before (entry ∷ entries) (cell ∷ more) are rises =
    let is : pair_in entry ≡ Some cell = cc in
    let others : map pair_in entries ≡ map Some more = cc in
    let here : next_cell before entry ≡ Ok cell = next_cell-back before entry cell (record { is = is; above = above_before before cell more rises }) in
    let joined : (before ++ cell ∷ []) ++ more ≡ before ++ cell ∷ more = append_assoc before (cell ∷ []) more in
    rw here (in_turn-back (before ++ cell ∷ []) entries more others (subst (λ (cs : List Pair). IsStrictlyIncreasing (addresses cs)) (sym joined) rises) ∙ ap Ok joined)
