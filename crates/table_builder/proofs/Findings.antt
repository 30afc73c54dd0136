-- The first thing that is found in a list of findings, and what follows where nothing is found.
use Rattle.std.proofs.Common.{◌≡◌, ℕ, zero, suc, take, slice_get, Bool, true, false, nat_eq, if◌then◌else◌, List, [], ◌∷◌, ◌++◌, map, Option, Some, None, Ok, Err, refl, sym, ap, ◌∙◌, arith}
use Rattle.std.specs.Prelude.{All}
use Rattle.std.specs.Option.{option_or}
use Rattle.std.proofs.lemmas.Bool.{eqb-true, eq-eqb}
use Rattle.std.proofs.lemmas.List.Elements.{All-cons, All-head, All-tail, All-map}
use Rattle.table_file.specs.Tables.{Contents}
use Rattle.table_builder.specs.declared.faults.Field.{Field}
use Rattle.table_builder.specs.Findings.{Finding, Mismatch, FoundFirst, first_found, differs}
use Rattle.table_builder.specs.Building.{unless_found}

pub first_found-append : (xs ys : List (Option Finding)) → first_found (xs ++ ys) ≡ option_or (first_found xs) (first_found ys)
first_found-append [] ys = refl
first_found-append (Some found ∷ xs) ys = refl
first_found-append (None ∷ xs) ys = first_found-append xs ys

-- neither finds anything
no_option : (o p : Option Finding) → option_or o p ≡ None → (o ≡ None) × (p ≡ None)
no_option None p none = (refl, none)
no_option (Some found) p none = cc

pub first_found-none : (xs ys : List (Option Finding)) → first_found (xs ++ ys) ≡ None → (first_found xs ≡ None) × (first_found ys ≡ None)
first_found-none xs ys none = no_option (first_found xs) (first_found ys) (sym (first_found-append xs ys) ∙ none)

pub first_found-none_append : (xs ys : List (Option Finding)) → first_found xs ≡ None → first_found ys ≡ None → first_found (xs ++ ys) ≡ None
first_found-none_append xs ys left right = first_found-append xs ys ∙ (ap (λ o. option_or o (first_found ys)) left ∙ right)

-- the first of a list, and the rest
pub first_found-none_cons : (x : Option Finding) (xs : List (Option Finding)) → first_found (x ∷ xs) ≡ None → (x ≡ None) × (first_found xs ≡ None)
first_found-none_cons None xs none = (refl, none)
first_found-none_cons (Some found) xs none = cc

pub first_found-cons_none : (x : Option Finding) (xs : List (Option Finding)) → x ≡ None → first_found xs ≡ None → first_found (x ∷ xs) ≡ None
first_found-cons_none None xs here later = later
first_found-cons_none (Some found) xs here later = cc

-- nothing is found exactly where each finding is none
pub all_none : (xs : List (Option Finding)) → first_found xs ≡ None → All (λ o. o ≡ None) xs
all_none [] none = λ k d within. absurd (omega arith)
all_none (x ∷ xs) none =
    let parts = first_found-none_cons x xs none in
    All-cons (λ o. o ≡ None) x xs parts.0 (all_none xs parts.1)

pub first_found-all_none : (xs : List (Option Finding)) → All (λ o. o ≡ None) xs → first_found xs ≡ None
first_found-all_none [] all = refl
first_found-all_none (x ∷ xs) all =
    first_found-cons_none x xs (All-head (λ o. o ≡ None) x xs all) (first_found-all_none xs (All-tail (λ o. o ≡ None) x xs all))

-- findings that are made of items
pub map-all_none : {X : Type 0} (f : X → Option Finding) (xs : List X) → first_found (map f xs) ≡ None → All (λ x. f x ≡ None) xs
map-all_none f [] none = λ k d within. absurd (omega arith)
map-all_none f (x ∷ xs) none =
    let parts = first_found-none_cons (f x) (map f xs) none in
    All-cons (λ y. f y ≡ None) x xs parts.0 (map-all_none f xs parts.1)

pub first_found-map_none : {X : Type 0} (f : X → Option Finding) (xs : List X) → All (λ x. f x ≡ None) xs → first_found (map f xs) ≡ None
first_found-map_none f xs all = first_found-all_none (map f xs) (All-map (λ o. o ≡ None) f xs all)

-- ---- what is built where nothing is found, and what is found where nothing is built

pub building-ok : (o : Option Finding) (made tables : Contents) → unless_found o made ≡ Ok tables → (o ≡ None) × (tables ≡ made)
building-ok None made tables built = (refl, cc)
building-ok (Some found) made tables built = cc

pub building-err : (o : Option Finding) (made : Contents) (found : Finding) → unless_found o made ≡ Err found → o ≡ Some found
building-err None made found built = cc
building-err (Some other) made found built = cc

pub building-found : (o : Option Finding) (made : Contents) (found : Finding) → o ≡ Some found → unless_found o made ≡ Err found
building-found o made found is = ap (λ p. unless_found p made) is

-- ---- what is found first, by its place

pub FoundFirst-from : (asked : List (Option Finding)) (found : Finding) → first_found asked ≡ Some found → FoundFirst asked found
FoundFirst-from [] found e = cc
FoundFirst-from (Some other ∷ later) found e = record { place = zero; here = ap Some e; before = λ k d within. absurd (omega arith) }
FoundFirst-from (None ∷ later) found e =
    let behind = FoundFirst-from later found e in
    record { place = suc behind.place; here = behind.here; before = All-cons (λ o. o ≡ None) None (take behind.place later) refl behind.before }

found_at : (asked : List (Option Finding)) (found : Finding) (n : ℕ) → slice_get asked n ≡ Some (Some found) → All (λ o. o ≡ None) (take n asked) → first_found asked ≡ Some found
found_at [] found n here before = cc
found_at (Some other ∷ later) found zero here before = let same : Some other ≡ Some found = cc in same
found_at (Some other ∷ later) found (suc n) here before =
    let none : Some other ≡ None = All-head (λ o. o ≡ None) (Some other) (take n later) before in
    cc
found_at (None ∷ later) found zero here before = cc
found_at (None ∷ later) found (suc n) here before = found_at later found n here (All-tail (λ o. o ≡ None) None (take n later) before)

pub FoundFirst-found : (asked : List (Option Finding)) (found : Finding) → FoundFirst asked found → first_found asked ≡ Some found
FoundFirst-found asked found first = found_at asked found first.place first.here first.before

-- what is stated is what is found
pub differs-none : (field : Field) (stated found : ℕ) → differs field stated found ≡ None → stated ≡ found
differs-none field stated found none = eqb-true stated found (same (nat_eq stated found) none)
  where
    same : (b : Bool) → (if b then None else Some (Mismatch field stated found)) ≡ None → b ≡ true
    same true e = refl
    same false e = cc

pub differs-same : (field : Field) (stated found : ℕ) → stated ≡ found → differs field stated found ≡ None
differs-same field stated found same = ap (λ b. if b then None else Some (Mismatch field stated found)) (eq-eqb stated found same)
