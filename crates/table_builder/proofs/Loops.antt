-- What is found of items that are looked at one after another.
use Rattle.std.proofs.Common.{◌≡◌, ℕ, ◌+◌, ◌<◌, ◌≤◌, List, [], ◌∷◌, ◌++◌, length, get_or, take, drop, map, Option, Some, None, refl, sym, ap, ◌∙◌}
use Rattle.std.proofs.lemmas.List.{map-append, map_more, take_all, take-append-drop}
use Rattle.table_builder.specs.Findings.{Finding, first_found}
use Rattle.table_builder.proofs.Findings.{first_found-none_append, first_found-cons_none}
use Rattle.table_builder.proofs.Told.{found_later, found_sooner}

module _ {X : Type 0} (f : X → Option Finding) (xs : List X) (i : ℕ) (x : X) (within : i < length xs) (at : x ≡ get_or xs i x) (so_far : first_found (map f (take i xs)) ≡ None) where
  with_item : map f (take (i + 1) xs) ≡ map f (take i xs) ++ f x ∷ []
  with_item = map_more f xs i x within ∙ ap (λ y. map f (take i xs) ++ f y ∷ []) (sym at)

  -- nothing is found of one more item
  pub nothing_more : f x ≡ None → first_found (map f (take (i + 1) xs)) ≡ None
  nothing_more none =
      ap first_found with_item
      ∙ first_found-none_append (map f (take i xs)) (f x ∷ []) so_far (first_found-cons_none (f x) [] none refl)

  -- something is found of the item, so it is the first of all
  pub found_here : (told : Finding) → f x ≡ Some told → first_found (map f xs) ≡ Some told
  found_here told found =
      ap (λ ys. first_found (map f ys)) (sym (take-append-drop (i + 1) xs))
      ∙ (ap first_found (map-append f (take (i + 1) xs) (drop (i + 1) xs))
      ∙ found_sooner (map f (take (i + 1) xs)) (map f (drop (i + 1) xs)) told
      (ap first_found with_item ∙ found_later (map f (take i xs)) (f x ∷ []) told so_far (ap (λ o. first_found (o ∷ [])) found)))

-- no item is left
pub nothing_found : {X : Type 0} (f : X → Option Finding) (xs : List X) (i : ℕ) → length xs ≤ i → first_found (map f (take i xs)) ≡ None → first_found (map f xs) ≡ None
nothing_found f xs i past so_far = ap (λ ys. first_found (map f ys)) (sym (take_all i xs past)) ∙ so_far
