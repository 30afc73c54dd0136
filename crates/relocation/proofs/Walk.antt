-- Going over all places in their order meets each held cell once.
use Rattle.std.proofs.Common.{◌≡◌, ℕ, ◌+◌, ◌<◌, Bool, true, false, cond, ◌&&◌, nat_eq, List, [], ◌∷◌, ◌++◌, length, Option, Some, None, Ordering, refl, sym, ◌∙◌, ap, subst, arith, inl, inr}
use Rattle.std.specs.Prelude.{T, IsSome}
use Rattle.std.specs.List.{AllByRecursion}
use Rattle.std.specs.Ordering.{is_lt, is_eq, eq_by_cmp}
use Rattle.std.specs.declared.cmp.Ordering.TheVariants.{Less, Equal, Greater}
use Rattle.std.specs.FinMap.{entries, entries_sorted, get-entries}
use Rattle.std.specs.FinMap.Entries.{find, below_all, is_sorted}
use Rattle.std.proofs.lemmas.Bool.Decides.{nat_tests}
use Rattle.segments.specs.declared.Place.{Place}
use Rattle.segments.specs.declared.Value.{Value}
use Rattle.segments.specs.Values.{place_cmp, place, IsBefore}
use Rattle.segments.specs.Memory.{RunMemory, IsMemory, cell, size}
use Rattle.segments.proofs.Places.{place_tied, place_same, cmp-less}
use Rattle.segments.proofs.Memories.{held_there}
use Rattle.relocation.specs.Walk.{comes_before, held_before}

-- held cells by their places
abbrev pub Held : Type 0
Held = List (Place × Value)

pub both_parts : (a b : Bool) → T (a && b) → T a × T b
both_parts true b h = (tt, h)
both_parts false b h = absurd h

is_less : (o : Ordering) → T (is_lt o) → o ≡ Less
is_less Less h = refl
is_less Equal h = absurd h
is_less Greater h = absurd h

pub each : {A : Type 0} {P Q : A → Type 0} → ((a : A) → P a → Q a) → (xs : List A) → AllByRecursion P xs → AllByRecursion Q xs
each give [] all = tt
each give (x ∷ xs) all = (give x all.0, each give xs all.1)

-- ---- lists in order

-- the keys behind one come after it
pub all_later : (p : Place) (held : Held) → T (below_all place_cmp p held) → AllByRecursion (λ c. IsBefore p c.0) held
all_later p [] below = tt
all_later p (c ∷ held) below =
    let parts = both_parts (is_lt (place_cmp p c.0)) (below_all place_cmp p held) below in
    ((cmp-less p c.0).0 (is_less (place_cmp p c.0) parts.0), all_later p held parts.1)

-- a place before all of them has no value
absent : (p : Place) (held : Held) → T (below_all place_cmp p held) → find place_cmp p held ≡ None
absent p [] below = refl
absent p (c ∷ held) below =
    let parts = both_parts (is_lt (place_cmp p c.0)) (below_all place_cmp p held) below in
    let test : eq_by_cmp place_cmp p c.0 ≡ false = ap is_eq (is_less (place_cmp p c.0) parts.0) in
    ap (λ t. cond t (Some c.1) (find place_cmp p held)) test ∙ absent p held parts.1

found_first : (c : Place × Value) (held : Held) → find place_cmp c.0 (c ∷ held) ≡ Some c.1
found_first c held = ap (λ t. cond t (Some c.1) (find place_cmp c.0 held)) (place_same c.0)

found_later : (c : Place × Value) (held : Held) (p : Place) (v : Value) → T (below_all place_cmp c.0 held) → find place_cmp p held ≡ Some v → find place_cmp p (c ∷ held) ≡ Some v
found_later c held p v below found =
    elim (eq_by_cmp place_cmp p c.0) as (λ t. eq_by_cmp place_cmp p c.0 ≡ t → cond t (Some c.1) (find place_cmp p held) ≡ Some v) [
      | true ↦ λ e.
          let none : find place_cmp p held ≡ None = ap (λ (q : Place). find place_cmp q held) (place_tied p c.0 e) ∙ absent c.0 held below in
          absurd (cc)
      | false ↦ λ e. found
    ] refl

-- what is found in a list in order is what its entries say
entries_found : (value : Place → Option Value) (held : Held) → T (is_sorted place_cmp held) → ((p : Place) (v : Value) → find place_cmp p held ≡ Some v → value p ≡ Some v) → AllByRecursion (λ c. value c.0 ≡ Some c.1) held
entries_found value [] sorted has = tt
entries_found value (c ∷ held) sorted has =
    let parts = both_parts (below_all place_cmp c.0 held) (is_sorted place_cmp held) sorted in
    (has c.0 c.1 (found_first c held), entries_found value held parts.1 (λ p v found. has p v (found_later c held p v parts.0 found)))

-- the entries of a memory are its held cells
pub entries_held : (m : RunMemory) → AllByRecursion (λ c. cell m c.0 ≡ Some c.1) (entries m.cells)
unfolding cell
entries_held m = entries_found (cell m) (entries m.cells) (entries_sorted m.cells) (λ p v found. get-entries m.cells p ∙ found)

pub found_held : (m : RunMemory) (p : Place) → find place_cmp p (entries m.cells) ≡ cell m p
unfolding cell
found_held m p = sym (get-entries m.cells p)

-- ---- those that lie before a place

same_before : (p q : Place) (held : Held) → AllByRecursion (λ c. comes_before c.0 p ≡ comes_before c.0 q) held → held_before p held ≡ held_before q held
same_before p q [] same = refl
same_before p q (c ∷ held) same =
    let rest : held_before p held ≡ held_before q held = same_before p q held same.1 in
    λ i. cond (same.0 i) (c ∷ rest i) (rest i)

none_before : (p : Place) (held : Held) → AllByRecursion (λ c. comes_before c.0 p ≡ false) held → held_before p held ≡ []
none_before p [] none = refl
none_before p (c ∷ held) none =
    ap (λ t. cond t (c ∷ held_before p held) (held_before p held)) none.0 ∙ none_before p held none.1

all_before : (p : Place) (held : Held) → AllByRecursion (λ c. comes_before c.0 p ≡ true) held → held_before p held ≡ held
all_before p [] all = refl
all_before p (c ∷ held) all =
    ap (λ t. cond t (c ∷ held_before p held) (held_before p held)) all.0 ∙ ap (λ rest. c ∷ rest) (all_before p held all.1)

-- the place one cell further on
abbrev pub next_place : Place → Place
next_place p = place p.seg (p.off + 1)

-- the cell at a place, if it is held
abbrev pub cell_there : Place → Option Value → Held
cell_there p None = []
cell_there p (Some v) = (p, v) ∷ []

later_not_before : (p q : Place) → IsBefore p q → (comes_before q p ≡ false) × (comes_before q (next_place p) ≡ false)
unfolding IsBefore
later_not_before p q (inl later) = (grind (arith, nat_tests), grind (arith, nat_tests))
later_not_before p q (inr later) =
    let same : p.seg ≡ q.seg = later.0 in
    let above : p.off < q.off = later.1 in
    (grind (arith, nat_tests), grind (arith, nat_tests))

at_next : (p : Place) → (comes_before p (next_place p) ≡ true) × (comes_before p p ≡ false)
at_next p = (grind (arith, nat_tests), grind (arith, nat_tests))

-- only the place itself lies between it and the next
elsewhere : (p q : Place) → eq_by_cmp place_cmp p q ≡ false → comes_before q (next_place p) ≡ comes_before q p
elsewhere p q apart = grind (arith, nat_tests)

-- one place further on, the cell there is one more
pub held_before-more : (p : Place) (held : Held) → T (is_sorted place_cmp held) → held_before (next_place p) held ≡ held_before p held ++ cell_there p (find place_cmp p held)
held_before-more p [] sorted = refl
held_before-more p (c ∷ held) sorted =
    let parts = both_parts (below_all place_cmp c.0 held) (is_sorted place_cmp held) sorted in
    elim (eq_by_cmp place_cmp p c.0) as (λ t. eq_by_cmp place_cmp p c.0 ≡ t → held_before (next_place p) (c ∷ held) ≡ held_before p (c ∷ held) ++ cell_there p (cond t (Some c.1) (find place_cmp p held))) [
      | true ↦ λ e. here parts.0 (place_tied p c.0 e)
      | false ↦ λ e. there (elsewhere p c.0 e) (held_before-more p held parts.1)
    ] refl
  where
    here : T (below_all place_cmp c.0 held) → p ≡ c.0 → held_before (next_place p) (c ∷ held) ≡ held_before p (c ∷ held) ++ (p, c.1) ∷ []
    here below same =
        let tests = at_next c.0 in
        let later = all_later c.0 held below in
        let next : held_before (next_place c.0) (c ∷ held) ≡ c ∷ [] =
        ap (λ t. cond t (c ∷ held_before (next_place c.0) held) (held_before (next_place c.0) held)) tests.0
        ∙ ap (λ rest. c ∷ rest) (none_before (next_place c.0) held (each (λ d after. (later_not_before c.0 d.0 after).1) held later)) in
        let now : held_before c.0 (c ∷ held) ≡ [] =
        ap (λ t. cond t (c ∷ held_before c.0 held) (held_before c.0 held)) tests.1
        ∙ none_before c.0 held (each (λ d after. (later_not_before c.0 d.0 after).0) held later) in
        subst (λ (q : Place). held_before (next_place q) (c ∷ held) ≡ held_before q (c ∷ held) ++ (q, c.1) ∷ []) (sym same)
        (next ∙ ap (λ (front : Held). front ++ c ∷ []) (sym now))

    there : comes_before c.0 (next_place p) ≡ comes_before c.0 p → held_before (next_place p) held ≡ held_before p held ++ cell_there p (find place_cmp p held) → held_before (next_place p) (c ∷ held) ≡ held_before p (c ∷ held) ++ cell_there p (find place_cmp p held)
    there test rest =
        let next : Held = held_before (next_place p) held in
        let now : Held = held_before p held in
        let more : Held = cell_there p (find place_cmp p held) in
        ap (λ t. cond t (c ∷ next) next) test
        ∙ elim (comes_before c.0 p) as (λ t. cond t (c ∷ next) next ≡ cond t (c ∷ now) now ++ more) [
          | true ↦ ap (λ front. c ∷ front) rest
          | false ↦ rest
        ]

-- no place lies before the first
pub held_before-first : (held : Held) → held_before (place 0 0) held ≡ []
held_before-first [] = refl
held_before-first (c ∷ held) =
    let test : comes_before c.0 (place 0 0) ≡ false = grind (arith, nat_tests) in
    ap (λ t. cond t (c ∷ held_before (place 0 0) held) (held_before (place 0 0) held)) test ∙ held_before-first held

some_held : (m : RunMemory) (p : Place) (v : Value) → cell m p ≡ Some v → IsSome (cell m p)
some_held m p v held = subst (λ (o : Option Value). IsSome o) (sym held) refl

-- no held cell lies between the end of a segment and the next segment
segment_end : (m : RunMemory) (seg : ℕ) (q : Place) → (q.off < size m q.seg) → comes_before q (place (seg + 1) 0) ≡ comes_before q (place seg (size m seg))
segment_end m seg q inside =
    elim (nat_eq q.seg seg) as (λ t. nat_eq q.seg seg ≡ t → comes_before q (place (seg + 1) 0) ≡ comes_before q (place seg (size m seg))) [
      | true ↦ λ e.
          let same : q.seg ≡ seg = grind (arith, nat_tests) in
          let below : q.off < size m seg = subst (λ (s : ℕ). q.off < size m s) same inside in
          grind (arith, nat_tests)
      | false ↦ λ e. grind (arith, nat_tests)
    ] refl

pub held_before-segment : (m : RunMemory) (seg : ℕ) → IsMemory m → held_before (place (seg + 1) 0) (entries m.cells) ≡ held_before (place seg (size m seg)) (entries m.cells)
held_before-segment m seg is =
    same_before (place (seg + 1) 0) (place seg (size m seg)) (entries m.cells)
    (each (λ c held. segment_end m seg c.0 (is.inside c.0 (some_held m c.0 c.1 held))) (entries m.cells) (entries_held m))

-- every held cell lies before the end of the last segment
pub held_before-all : (m : RunMemory) (count : ℕ) → IsMemory m → count ≡ length m.sizes → held_before (place count 0) (entries m.cells) ≡ entries m.cells
held_before-all m count is whole =
    all_before (place count 0) (entries m.cells)
    (each (λ c held.
    let there : c.0.seg < length m.sizes = held_there m c.0 is (some_held m c.0 c.1 held) in
    before_end c.0 (omega arith)) (entries m.cells) (entries_held m))
  where
    before_end : (q : Place) → q.seg < count → comes_before q (place count 0) ≡ true
    before_end q below = grind (arith, nat_tests)
