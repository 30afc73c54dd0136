-- What is written for hints spells them.
use Rattle.std.proofs.Common.{◌≡◌, ℕ, ◌+◌, ◌^◌, ◌<◌, ◌≤◌, List, [], ◌∷◌, ◌++◌, length, get_or, take, map, Some, None, Ok, Err, OnOk, Result, All, codes, refl, sym, ap, ap₂, ◌∙◌, subst, arith, append_assoc, decimal, lt-ltb}
use Rattle.std.proofs.lemmas.List.{take_more, take_all}
use Rattle.std.proofs.lemmas.List.Elements.{All-nil, All-cons, All-append, All-same, All-head, All-tail}
use Rattle.json.specs.Token as token
use Rattle.json.specs.Token.{Token}
use Rattle.json.specs.Tree.{json_tokens}
use Rattle.json.specs.Written.{Written, Writes}
use Rattle.json.proofs.Printed.Utf8.{IsUtf8-are_ascii}
use Rattle.serde_json.specs.Data.{Data, depth}
use Rattle.serde_json.specs.Read.{max_depth}
use Rattle.serde_json.specs.View.{items_of}
use Rattle.serde_json.specs.Written.{outline}
use Rattle.segments.specs.declared.Place.{Place}
use Rattle.segments.specs.declared.Value.{Value}
use Rattle.segments.specs.declared.Value.TheVariants.{Num, Ptr}
use Rattle.json_fields.specs.Values.{list_at, whole_at, felt_in}
use Rattle.json_fields.specs.Plain.{IsPlain, ArePlain}
use Rattle.json_fields.specs.Encoding.{list_json, whole_json, WritesValue}
use Rattle.json_fields.proofs.ReadBack.{json_of-compact_text}
use Rattle.json_fields.proofs.Parts.{items_depth-items_of, list_in-list_json, whole_in-whole_json, felt_in-felt_json, IsPlain-felt_json}
use Rattle.json_fields.proofs.WrittenTokens.{Adds, and_then, value_written}
use Rattle.hint_cells.specs.declared.HintCell.{HintCell}
use Rattle.hint_cells.specs.Limits.{index_limit}
use Rattle.hint_cells.specs.Fits.{FitsPlace, FitsValue, FitsPlaces}
use Rattle.hint_cells.specs.HintList.{HintList, AreHints}
use Rattle.hint_cells.specs.Cells.{index_in, place_of, pointer_in, value_in, cell_in}
use Rattle.hint_cells.specs.Format.{SpellsHints, place_json, value_json, cell_json, hints_json, written}

-- ---- each part is read back

index_back : (n : ℕ) → n < index_limit → index_in (whole_json n) ≡ Some n
unfolding index_in
index_back n low = rw (whole_in-whole_json n, lt-ltb n index_limit low) refl

place_back : (p : Place) → FitsPlace p → place_of (whole_json p.seg) (whole_json p.off) ≡ Some p
unfolding place_of
place_back p fits = rw (index_back p.seg fits.0, index_back p.off fits.1) refl

pointer_back : (p : Place) → FitsPlace p → pointer_in (place_json p) ≡ Some p
unfolding pointer_in
pointer_back p fits = rw (list_in-list_json (whole_json p.seg ∷ whole_json p.off ∷ [])) (place_back p fits)

no_number : (p : Place) → felt_in (place_json p) ≡ None
unfolding felt_in
no_number p = refl

value_back : (v : Value) → FitsValue v → value_in (value_json v) ≡ Some v
unfolding value_in
value_back (Num x) fits = rw (felt_in-felt_json x) refl
value_back (Ptr p) fits = rw (no_number p, pointer_back p (fits p refl)) refl

cell_back : (c : HintCell) → FitsPlaces c → cell_in (cell_json c) ≡ Some c
unfolding cell_in
cell_back c fits =
    rw (list_in-list_json (whole_json c.place.seg ∷ whole_json c.place.off ∷ value_json c.value ∷ []), place_back c.place fits.0, value_back c.value fits.1) refl

cells_back : (cs : List HintCell) → All FitsPlaces cs → map cell_in (map cell_json cs) ≡ map Some cs
cells_back [] fit = refl
cells_back (c ∷ cs) fit = ap₂ (λ o os. o ∷ os) (cell_back c (All-head FitsPlaces c cs fit)) (cells_back cs (All-tail FitsPlaces c cs fit))

-- ---- the value that is written is plain and lies flat

plain_value : (v : Value) → FitsValue v → IsPlain (value_json v)
plain_value (Num x) fits = IsPlain-felt_json x
plain_value (Ptr p) fits =
    let low : FitsPlace p = fits p refl in
    let seg : p.seg < 2 ^ 64 = omega (arith, low.0) in
    let off : p.off < 2 ^ 64 = omega (arith, low.1) in
    (seg, (off, tt))

plain_cell : (c : HintCell) → FitsPlaces c → IsPlain (cell_json c)
plain_cell c fits =
    let seg : c.place.seg < 2 ^ 64 = omega (arith, fits.0.0) in
    let off : c.place.off < 2 ^ 64 = omega (arith, fits.0.1) in
    (seg, (off, (plain_value c.value fits.1, tt)))

plain_cells : (cs : List HintCell) → All FitsPlaces cs → ArePlain (items_of (map cell_json cs))
plain_cells [] fit = tt
plain_cells (c ∷ cs) fit = (plain_cell c (All-head FitsPlaces c cs fit), plain_cells cs (All-tail FitsPlaces c cs fit))

flat_value : (v : Value) → depth (value_json v) ≤ 1
flat_value (Num x) = omega arith
flat_value (Ptr p) = omega arith

flat_cell : (c : HintCell) → depth (cell_json c) ≤ 2
flat_cell c = omega (arith, flat_value c.value)

module _ (h : HintList) where
  plain : AreHints h → IsPlain (hints_json h)
  unfolding hints_json
  plain is =
      let extra : h.extra < 2 ^ 64 = omega (arith, is.few_extra) in
      (tt, IsUtf8-are_ascii (codes "cells") refl, plain_cells h.cells is.fit, ((refl, tt), IsUtf8-are_ascii (codes "extra") refl, extra, tt))

  shallow : depth (hints_json h) ≤ max_depth
  unfolding hints_json
  shallow = omega (arith, items_depth-items_of cell_json 2 flat_cell h.cells)

  pub SpellsHints-written : AreHints h → SpellsHints (written h) h
  unfolding hints_json written list_at whole_at
  SpellsHints-written is = record {
    top = hints_json h;
    is_json = json_of-compact_text (hints_json h) (plain is) shallow;
    extra_is = whole_in-whole_json h.extra;
    entries = map cell_json h.cells;
    entries_are = list_in-list_json (map cell_json h.cells);
    cells_are = cells_back h.cells is.fit;
    hints = is;
  }

-- ---- the tokens in the order in which they are written

abbrev number_tokens : ℕ → List Token
number_tokens n = token.number (decimal n) ∷ []

pub place_tokens : (p : Place) → (((token.begin_array ∷ [] ++ number_tokens p.seg) ++ number_tokens p.off) ++ token.end_array ∷ []) ≡ json_tokens (outline (place_json p))
place_tokens p = refl

pub cell_tokens : (c : HintCell) → ((((token.begin_array ∷ [] ++ number_tokens c.place.seg) ++ number_tokens c.place.off) ++ json_tokens (outline (value_json c.value))) ++ token.end_array ∷ []) ≡ json_tokens (outline (cell_json c))
cell_tokens c = refl

pub hints_tokens : (h : HintList) → (((((token.begin_object ∷ [] ++ token.key (codes "cells") ∷ []) ++ json_tokens (outline (list_json (map cell_json h.cells)))) ++ token.key (codes "extra") ∷ []) ++ number_tokens h.extra) ++ token.end_object ∷ []) ≡ json_tokens (outline (hints_json h))
unfolding hints_json
hints_tokens h = simp append_assoc

-- what a writer has written where its last step succeeded
pub when_ended : {E : Type 0} (r : Result (Unit {0}) E) (a b c : Written) (ts : List Token) (t : Token) (d : Data) → Adds a b ts → Writes r b c t → ts ++ t ∷ [] ≡ json_tokens (outline d) → OnOk r (WritesValue a c d)
when_ended (Ok u) a b c ts t d before w e = value_written a c d (ts ++ t ∷ []) (and_then before (record { tokens = w.ok; rest = w.room.0 })) e
when_ended (Err x) a b c ts t d before w e = tt

pub same_value : {a b : Written} {d e : Data} → d ≡ e → WritesValue a b d → WritesValue a b e
same_value {a = a} {b = b} same w = subst (WritesValue a b) same w

pub same_added : {a b : Written} {ts us : List Token} → ts ≡ us → Adds a b ts → Adds a b us
same_added {a = a} {b = b} same w = subst (Adds a b) same w

-- ---- the cells that were written are cells of the code

pub fit_more : (cs : List HintCell) (i : ℕ) (c : HintCell) → i < length cs → get_or cs i c ≡ c → All FitsPlaces (take i cs) → FitsPlaces c → All FitsPlaces (take (i + 1) cs)
fit_more cs i c within is before fits =
    All-same FitsPlaces _ _ (take_more cs i c within ∙ ap (λ d. take i cs ++ d ∷ []) is)
    (All-append FitsPlaces (take i cs) (c ∷ []) before (All-cons FitsPlaces c [] fits (All-nil FitsPlaces)))

pub fit_all : {E : Type 0} (r : Result (Unit {0}) E) (cs : List HintCell) (count : ℕ) → length cs ≤ count → All FitsPlaces (take count cs) → OnOk r (All FitsPlaces cs)
fit_all (Ok u) cs count all fit = All-same FitsPlaces cs (take count cs) (sym (take_all count cs all)) fit
fit_all (Err e) cs count all fit = tt

-- what holds anyway holds where a step succeeded
pub if_ok : {E : Type 0} {P : Type 0} (r : Result (Unit {0}) E) → P → OnOk r P
if_ok (Ok u) p = p
if_ok (Err e) p = tt
