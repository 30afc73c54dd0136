-- Lists of items of one width, one after another in a list of bytes.
use Rattle.std.proofs.Common.{◌≡◌, ℕ, zero, suc, ◌+◌, ◌*◌, ◌<◌, ◌≤◌, List, [], ◌∷◌, ◌++◌, length, take, drop, map, get_or, refl, sym, ap, ◌∙◌, append_assoc, arith, length-append}
use Rattle.std.proofs.Common.{take-add, zero-add}
use Rattle.std.proofs.Math.Seq.{take-append_seam, drop-append_seam}
use Rattle.std.proofs.lemmas.List.{drop-drop, map-append}
use Rattle.std.proofs.lemmas.List.FromFn.{map-range_with_len_more}
use Rattle.std.specs.List.{flat_map, range_with_len, AllByRecursion}
use Rattle.file_records.specs.Records.{records_in}

-- An item has `w` bytes, and one that is spelled at a place is read there.
pub record IsLayout {X : Type 0} (w : ℕ) (item : List ℕ → ℕ → X) (spell : X → List ℕ) (Fits : X → Type 0) : Type 0 where
  pub width : (x : X) → length (spell x) ≡ w
  pub finds : (front : List ℕ) (x : X) (rest : List ℕ) (i : ℕ) → Fits x → length front ≡ w * i → item (front ++ (spell x ++ rest)) i ≡ x

-- so many items have so many bytes
pub length-spelled : {X : Type 0} (w : ℕ) (spell : X → List ℕ) → ((x : X) → length (spell x) ≡ w) → (xs : List X) → length (flat_map spell xs) ≡ w * length xs
length-spelled w spell width [] = omega arith
length-spelled w spell width (x ∷ xs) =
    omega (arith, length-append (spell x) (flat_map spell xs), width x, length-spelled w spell width xs)

-- an item's bytes stand at its place
pub item_there : {X : Type 0} (w : ℕ) (spell : X → List ℕ) → ((x : X) → length (spell x) ≡ w) → (xs : List X) (i : ℕ) (d : X) → i < length xs → take w (drop (w * i) (flat_map spell xs)) ≡ spell (get_or xs i d)
item_there w spell width [] i d within = absurd (omega arith)
item_there w spell width (x ∷ xs) zero d within =
    let none : w * zero ≡ zero = omega arith in
    rw none (ap (λ n. take n (spell x ++ flat_map spell xs)) (sym (width x)) ∙ take-append_seam (spell x) (flat_map spell xs))
item_there w spell width (x ∷ xs) (suc i) d within =
    let place : w * suc i ≡ length (spell x) + w * i = omega (arith, width x) in
    let behind : drop (length (spell x) + w * i) (spell x ++ flat_map spell xs) ≡ drop (w * i) (flat_map spell xs) = sym (drop-drop (w * i) (length (spell x)) (spell x ++ flat_map spell xs)) ∙ ap (λ ys. drop (w * i) ys) (drop-append_seam (spell x) (flat_map spell xs)) in
    ap (λ n. take w (drop n (spell x ++ flat_map spell xs))) place ∙ ap (λ ys. take w ys) behind ∙ item_there w spell width xs i d (omega arith)

-- what is read at the places of the bytes spells these bytes, where each item does
pub spelled_back : {X : Type 0} (w : ℕ) (item : List ℕ → ℕ → X) (spell : X → List ℕ) (bytes : List ℕ) → ((i : ℕ) → w * i + w ≤ length bytes → spell (item bytes i) ≡ take w (drop (w * i) bytes)) → (a n : ℕ) → w * a + w * n ≤ length bytes → flat_map spell (map (item bytes) (range_with_len a n)) ≡ take (w * n) (drop (w * a) bytes)
spelled_back w item spell bytes reads a zero fits =
    let none : w * zero ≡ zero = omega arith in
    rw none refl
spelled_back w item spell bytes reads a (suc n) fits =
    let here = reads a (omega arith) in
    let behind = spelled_back w item spell bytes reads (a + 1) n (omega arith) in
    let sizes : w * suc n ≡ w + w * n = omega arith in
    let place : w * (a + 1) ≡ w * a + w = omega arith in
    rw (here, behind, sizes, place, take-add, drop-drop) refl

-- items that are spelled are read again
pub found_again : {X : Type 0} (w : ℕ) (item : List ℕ → ℕ → X) (spell : X → List ℕ) (Fits : X → Type 0) → IsLayout w item spell Fits → (front : List ℕ) (a : ℕ) (xs : List X) → AllByRecursion Fits xs → length front ≡ w * a → map (item (front ++ flat_map spell xs)) (range_with_len a (length xs)) ≡ xs
found_again w item spell Fits layout front a [] fit at = refl
found_again w item spell Fits layout front a (x ∷ xs) fit at =
    let here = layout.finds front x (flat_map spell xs) a fit.0 at in
    let place : length (front ++ spell x) ≡ w * (a + 1) = omega (arith, length-append front (spell x), layout.width x) in
    let behind = rw append_assoc at (found_again w item spell Fits layout (front ++ spell x) (a + 1) xs fit.1 place) in
    rw (here, behind) refl

-- what holds at each place holds of each item
pub AllByRecursion-map_range : {X : Type 0} (P : X → Type 0) (item : ℕ → X) (a n : ℕ) → ((i : ℕ) → a ≤ i → i < a + n → P (item i)) → AllByRecursion P (map item (range_with_len a n))
AllByRecursion-map_range P item a zero all = tt
AllByRecursion-map_range P item a (suc n) all =
    (all a (omega arith) (omega arith), AllByRecursion-map_range P item (a + 1) n (λ i from within. all i (omega arith) (omega arith)))

-- one more item in a list that is read from its front
pub items_more : {X Y : Type 0} (view : X → Y) (item : ℕ → Y) (xs : List X) (x : X) (i : ℕ) → map view xs ≡ map item (range_with_len 0 i) → view x ≡ item i → map view (xs ++ x ∷ []) ≡ map item (range_with_len 0 (i + 1))
items_more view item xs x i before here =
    rw (map-append, map-range_with_len_more item 0 i i (zero-add i), before, here) refl

-- records that are read one after another are those at their places
pub records_at : {X : Type 0} (w : ℕ) (item : List ℕ → X) (n a : ℕ) (bytes : List ℕ) → records_in w item n (drop (w * a) bytes) ≡ map (λ i. item (take w (drop (w * i) bytes))) (range_with_len a n)
unfolding records_in
records_at w item zero a bytes = refl
records_at w item (suc n) a bytes =
    let place : w * a + w ≡ w * (a + 1) = omega arith in
    let behind : drop w (drop (w * a) bytes) ≡ drop (w * (a + 1)) bytes = drop-drop w (w * a) bytes ∙ ap (λ k. drop k bytes) place in
    ap (λ rest. item (take w (drop (w * a) bytes)) ∷ records_in w item n rest) behind
    ∙ ap (λ items. item (take w (drop (w * a) bytes)) ∷ items) (records_at w item n (a + 1) bytes)

-- what is the same at each place is the same list
pub same_map_range : {X : Type 0} (f g : ℕ → X) (a n : ℕ) → ((i : ℕ) → a ≤ i → i < a + n → f i ≡ g i) → map f (range_with_len a n) ≡ map g (range_with_len a n)
same_map_range f g a zero same = refl
same_map_range f g a (suc n) same =
    ap (λ x. x ∷ map f (range_with_len (a + 1) n)) (same a (omega arith) (omega arith))
    ∙ ap (λ xs. g a ∷ xs) (same_map_range f g (a + 1) n (λ i from within. same i (omega arith) (omega arith)))
