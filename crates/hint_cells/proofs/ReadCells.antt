-- The segments and offsets of a cell that is read are below 2^32.
use Rattle.std.proofs.Common.{◌≡◌, ℕ, ◌<◌, Bool, true, false, nat_lt, List, [], ◌∷◌, map, Option, Some, None, option_and_then, All, cond, refl, subst, ltb-true}
use Rattle.std.proofs.lemmas.List.Elements.{All-nil, All-cons}
use Rattle.serde_json.specs.Data.{Data}
use Rattle.goldilocks.specs.declared.Felt.{Felt}
use Rattle.segments.specs.declared.Place.{Place}
use Rattle.segments.specs.declared.Value.{Value}
use Rattle.segments.specs.Values.{place}
use Rattle.json_fields.specs.Values.{list_in, whole_in, felt_in}
use Rattle.hint_cells.specs.declared.HintCell.{HintCell}
use Rattle.hint_cells.specs.Limits.{index_limit}
use Rattle.hint_cells.specs.Fits.{FitsPlace, FitsValue, FitsPlaces}
use Rattle.hint_cells.specs.Cells.{index_of, index_in, place_with, place_of, pointer_of, pointer_in, number_or_pointer, value_in, cell_with, cell_of, cell_in}

below : (m n : ℕ) (b : Bool) → nat_lt m index_limit ≡ b → cond b (Some m) None ≡ Some n → n < index_limit
below m n true low e = let same : m ≡ n = cc in subst (λ k. k < index_limit) same (ltb-true _ _ low)
below m n false low e = absurd (cc)

some_below : (o : Option ℕ) (n : ℕ) → option_and_then index_of o ≡ Some n → n < index_limit
some_below None n e = absurd (cc)
some_below (Some m) n e = below m n (nat_lt m index_limit) refl e

index_fits : (d : Data) (n : ℕ) → index_in d ≡ Some n → n < index_limit
unfolding index_in
index_fits d n e = some_below (whole_in d) n e

both_fit : (s o : Option ℕ) → ((n : ℕ) → s ≡ Some n → n < index_limit) → ((n : ℕ) → o ≡ Some n → n < index_limit) → (p : Place) → place_with s o ≡ Some p → FitsPlace p
both_fit None o low_s low_o p e = absurd (cc)
both_fit (Some s) None low_s low_o p e = absurd (cc)
both_fit (Some s) (Some o) low_s low_o p e = let same : place s o ≡ p = cc in subst FitsPlace same (low_s s refl, low_o o refl)

place_fits : (s o : Data) (p : Place) → place_of s o ≡ Some p → FitsPlace p
unfolding place_of
place_fits s o p e = both_fit (index_in s) (index_in o) (index_fits s) (index_fits o) p e

listed_pointer_fits : (o : Option (List Data)) (p : Place) → option_and_then pointer_of o ≡ Some p → FitsPlace p
listed_pointer_fits None p e = absurd (cc)
listed_pointer_fits (Some []) p e = absurd (cc)
listed_pointer_fits (Some (s ∷ [])) p e = absurd (cc)
listed_pointer_fits (Some (s ∷ o ∷ [])) p e = place_fits s o p e
listed_pointer_fits (Some (s ∷ o ∷ more ∷ rest)) p e = absurd (cc)

pointer_fits : (d : Data) (p : Place) → pointer_in d ≡ Some p → FitsPlace p
unfolding pointer_in
pointer_fits d p e = listed_pointer_fits (list_in d) p e

either_fits : (x : Option Felt) (q : Option Place) → ((p : Place) → q ≡ Some p → FitsPlace p) → (v : Value) → number_or_pointer x q ≡ Some v → FitsValue v
either_fits (Some x) q fits v e = λ p is. absurd (cc)
either_fits None (Some q) fits v e = λ p is. let same : q ≡ p = cc in subst FitsPlace same (fits q refl)
either_fits None None fits v e = absurd (cc)

value_fits : (d : Data) (v : Value) → value_in d ≡ Some v → FitsValue v
unfolding value_in
value_fits d v e = either_fits (felt_in d) (pointer_in d) (pointer_fits d) v e

joined_fits : (o : Option Place) (u : Option Value) → ((p : Place) → o ≡ Some p → FitsPlace p) → ((v : Value) → u ≡ Some v → FitsValue v) → (c : HintCell) → cell_with o u ≡ Some c → FitsPlaces c
joined_fits None u fits_o fits_u c e = absurd (cc)
joined_fits (Some p) None fits_o fits_u c e = absurd (cc)
joined_fits (Some p) (Some v) fits_o fits_u c e =
    let cell : HintCell = record { place = p; value = v } in
    let same : cell ≡ c = cc in
    subst FitsPlaces same (fits_o p refl, fits_u v refl)

listed_cell_fits : (o : Option (List Data)) (c : HintCell) → option_and_then cell_of o ≡ Some c → FitsPlaces c
listed_cell_fits None c e = absurd (cc)
listed_cell_fits (Some []) c e = absurd (cc)
listed_cell_fits (Some (s ∷ [])) c e = absurd (cc)
listed_cell_fits (Some (s ∷ o ∷ [])) c e = absurd (cc)
listed_cell_fits (Some (s ∷ o ∷ v ∷ [])) c e = joined_fits (place_of s o) (value_in v) (place_fits s o) (value_fits v) c e
listed_cell_fits (Some (s ∷ o ∷ v ∷ more ∷ rest)) c e = absurd (cc)

cell_fits : (d : Data) (c : HintCell) → cell_in d ≡ Some c → FitsPlaces c
unfolding cell_in
cell_fits d c e = listed_cell_fits (list_in d) c e

-- all cells of a list of entries
pub cells_fit : (ds : List Data) (cs : List HintCell) → map cell_in ds ≡ map Some cs → All FitsPlaces cs
cells_fit ds [] e = All-nil FitsPlaces
cells_fit [] (c ∷ cs) e = absurd (cc)
cells_fit (d ∷ ds) (c ∷ cs) e =
    let first : cell_in d ≡ Some c = cc in
    let others : map cell_in ds ≡ map Some cs = cc in
    All-cons FitsPlaces c cs (cell_fits d c first) (cells_fit ds cs others)
