-- Lists of records of one size, one after another in a list of bytes.
use Rattle.std.proofs.Common.{◌≡◌, ℕ, zero, suc, ◌+◌, ◌-◌, ◌*◌, ◌<◌, ◌≤◌, List, [], ◌∷◌, ◌++◌, length, take, drop, map, get_or, refl, sym, ap, ◌∙◌, append_assoc, arith, length-append}
use Rattle.std.proofs.lemmas.List.{take_at, drop_at, take_more, flat_map_more, append-nil, length-drop}
use Rattle.std.proofs.lemmas.List.Concat.{flat_map-append}
use Rattle.std.proofs.lemmas.List.Elements.{All-head, All-tail, All-nil, All-cons}
use Rattle.std.specs.List.{flat_map, All}
use Rattle.file_records.specs.Records.{records_in}

module _ {X : Type 0} (size : ℕ) (item : List ℕ → X) where
  pub records_in-zero : (bytes : List ℕ) → records_in size item 0 bytes ≡ []
  unfolding records_in
  records_in-zero bytes = refl

  pub records_in-suc : (n : ℕ) (bytes : List ℕ) → records_in size item (suc n) bytes ≡ item (take size bytes) ∷ records_in size item n (drop size bytes)
  unfolding records_in
  records_in-suc n bytes = refl

  pub length-records_in : (n : ℕ) (bytes : List ℕ) → length (records_in size item n bytes) ≡ n
  unfolding records_in
  length-records_in zero bytes = refl
  length-records_in (suc n) bytes = ap suc (length-records_in n (drop size bytes))

  -- what a property of each item gives for all of them
  pub All-records_in : (P : X → Type 0) → ((bytes : List ℕ) → P (item bytes)) → (n : ℕ) (bytes : List ℕ) → All P (records_in size item n bytes)
  unfolding records_in
  All-records_in P each zero bytes = All-nil P
  All-records_in P each (suc n) bytes = All-cons P _ _ (each (take size bytes)) (All-records_in P each n (drop size bytes))

  -- one more item is read from the front of what is left
  pub items_more : (whole done : List X) (n k : ℕ) (rest : List ℕ) → k < n → whole ≡ done ++ records_in size item (n - k) rest → whole ≡ (done ++ item (take size rest) ∷ []) ++ records_in size item (n - (k + 1)) (drop size rest)
  items_more whole done n k rest inside before =
      let left : n - k ≡ suc (n - (k + 1)) = omega arith in
      before
      ∙ (ap (λ m. done ++ records_in size item m rest) left
      ∙ (ap (λ xs. done ++ xs) (records_in-suc (n - (k + 1)) rest)
      ∙ sym (append_assoc done (item (take size rest) ∷ []) (records_in size item (n - (k + 1)) (drop size rest)))))

  -- at the end all items are read
  pub items_all : (whole done : List X) (n k : ℕ) (rest : List ℕ) → n ≤ k → whole ≡ done ++ records_in size item (n - k) rest → done ≡ whole
  items_all whole done n k rest end before =
      let left : n - k ≡ 0 = omega arith in
      sym (before ∙ (ap (λ m. done ++ records_in size item m rest) left ∙ (ap (λ xs. done ++ xs) (records_in-zero rest) ∙ append-nil done)))

-- what is left has room for what is to come
pub room_more : (size n k : ℕ) (rest : List ℕ) → k < n → size * (n - k) ≤ length rest → (size ≤ length rest) × (size * (n - (k + 1)) ≤ length (drop size rest))
room_more size n k rest inside room =
    let left : n - k ≡ (n - (k + 1)) + 1 = omega arith in
    let more : size * (n - k) ≡ size * (n - (k + 1)) + size = ap (λ m. size * m) left ∙ omega arith in
    (omega arith, omega (arith, length-drop size rest))

module _ {X : Type 0} (size : ℕ) (item : List ℕ → X) (spell : X → List ℕ) (Fits : X → Type 0) where
  -- items that are spelled are read again
  pub found_again : ((x : X) → Fits x → length (spell x) ≡ size) → ((x : X) → Fits x → item (spell x) ≡ x) → (xs : List X) (rest : List ℕ) → All Fits xs → records_in size item (length xs) (flat_map spell xs ++ rest) ≡ xs
  unfolding records_in
  found_again width finds [] rest fit = refl
  found_again width finds (x ∷ xs) rest fit =
      let fits = All-head Fits x xs fit in
      let apart : flat_map spell (x ∷ xs) ++ rest ≡ spell x ++ (flat_map spell xs ++ rest) = append_assoc (spell x) (flat_map spell xs) rest in
      let here : take size (flat_map spell (x ∷ xs) ++ rest) ≡ spell x = ap (take size) apart ∙ take_at (spell x) (flat_map spell xs ++ rest) size (width x fits) in
      let behind : drop size (flat_map spell (x ∷ xs) ++ rest) ≡ flat_map spell xs ++ rest = ap (drop size) apart ∙ drop_at (spell x) (flat_map spell xs ++ rest) size (width x fits) in
      rw (here, behind, finds x fits, found_again width finds xs rest (All-tail Fits x xs fit)) refl

  -- so many items have so many bytes
  pub length-spelled : ((x : X) → Fits x → length (spell x) ≡ size) → (xs : List X) → All Fits xs → length (flat_map spell xs) ≡ size * length xs
  length-spelled width [] fit = omega arith
  length-spelled width (x ∷ xs) fit =
      omega (arith, length-append (spell x) (flat_map spell xs), width x (All-head Fits x xs fit), length-spelled width xs (All-tail Fits x xs fit))

-- the spelling of items by their numbers is that of all their numbers
pub flat_map-flat_map : {X : Type 0} (f : ℕ → List ℕ) (g : X → List ℕ) (xs : List X) → flat_map f (flat_map g xs) ≡ flat_map (λ x. flat_map f (g x)) xs
flat_map-flat_map f g [] = refl
flat_map-flat_map f g (x ∷ xs) =
    flat_map-append f (g x) (flat_map g xs) ∙ ap (λ ys. flat_map f (g x) ++ ys) (flat_map-flat_map f g xs)

pub flat_map-map : {X : Type 0} (f : ℕ → List ℕ) (g : X → ℕ) (xs : List X) → flat_map f (map g xs) ≡ flat_map (λ x. f (g x)) xs
flat_map-map f g [] = refl
flat_map-map f g (x ∷ xs) = ap (λ ys. f (g x) ++ ys) (flat_map-map f g xs)

-- one more number is written
pub numbers_more : (f : ℕ → List ℕ) (before now : List ℕ) (ns : List ℕ) (i n : ℕ) → i < length ns → n ≡ get_or ns i 0 → now ≡ before ++ flat_map f (take i ns) → now ++ f n ≡ before ++ flat_map f (take (i + 1) ns)
numbers_more f before now ns i n inside here written =
    ap (λ xs. xs ++ f n) written
    ∙ (flat_map_more f before (take i ns) n
    ∙ ap (λ xs. before ++ flat_map f xs) (ap (λ m. take i ns ++ m ∷ []) here ∙ sym (take_more ns i 0 inside)))
