-- Readings line by line: from what a reading gives to what each line found, and back.
use Rattle.std.proofs.Common.{◌≡◌, ℕ, Bool, true, false, List, [], ◌∷◌, ◌++◌, length, map, Option, Some, None, Result, Ok, Err, refl, sym, ap, ◌∙◌, append_assoc, append-nil}
use Rattle.std.specs.Prelude.{⊤}
use Rattle.json_fields.specs.Faults.{◌>>=◌, needed, demand, in_turn}

-- a line that gave a value was there
pub needed_then : {A B F : Type 0} (fault : F) (o : Option A) (k : A → Result B F) (r : B) → needed fault o >>= k ≡ Ok r → (a : A) × (o ≡ Some a) × (k a ≡ Ok r)
needed_then fault None k r e = absurd (cc)
needed_then fault (Some a) k r e = (a, refl, e)

-- a test that was passed holds
pub demand_then : {B F : Type 0} (fault : F) (b : Bool) (k : ⊤ → Result B F) (r : B) → demand fault b >>= k ≡ Ok r → (b ≡ true) × (k tt ≡ Ok r)
demand_then fault true k r e = (refl, e)
demand_then fault false k r e = absurd (cc)

pub ok_then : {A B F : Type 0} (m : Result A F) (k : A → Result B F) (r : B) → m >>= k ≡ Ok r → (a : A) × (m ≡ Ok a) × (k a ≡ Ok r)
ok_then (Ok a) k r e = (a, refl, e)
ok_then (Err f) k r e = absurd (cc)

-- a value that was given was there
pub needed_ok : {A F : Type 0} (fault : F) (o : Option A) (a : A) → needed fault o ≡ Ok a → o ≡ Some a
needed_ok fault None a e = absurd (cc)
needed_ok fault (Some b) a e = let same : b ≡ a = cc in ap Some same

-- entries that are each read by themselves
module _ {A B F : Type 0} (step : List B → A → Result B F) (fault : ℕ → F) (give : A → Option B) (alone : (before : List B) (d : A) → step before d ≡ needed (fault (length before)) (give d)) where
  pub in_turn_ok : (before : List B) (ds : List A) (all : List B) → in_turn step before ds ≡ Ok all → (bs : List B) × (all ≡ before ++ bs) × (map give ds ≡ map Some bs)
  unfolding in_turn
  in_turn_ok before [] all e = let is : before ≡ all = cc in ([], sym is ∙ sym (append-nil before), refl)
  in_turn_ok before (d ∷ ds) all e =
      let first = ok_then (step before d) (λ b. in_turn step (before ++ b ∷ []) ds) all e in
      let found = needed_ok (fault (length before)) (give d) first.0 (sym (alone before d) ∙ first.1) in
      let rest = in_turn_ok (before ++ first.0 ∷ []) ds all first.2 in
      (first.0 ∷ rest.0, rest.1 ∙ append_assoc before (first.0 ∷ []) rest.0, ap (λ o. o ∷ map give ds) found ∙ ap (λ os. Some first.0 ∷ os) rest.2)

  pub in_turn_back : (before : List B) (ds : List A) (bs : List B) → map give ds ≡ map Some bs → in_turn step before ds ≡ Ok (before ++ bs)
  unfolding in_turn
  in_turn_back before [] [] e = ap Ok (sym (append-nil before))
  in_turn_back before [] (b ∷ bs) e = absurd (cc)
  in_turn_back before (d ∷ ds) [] e = absurd (cc)
  in_turn_back before (d ∷ ds) (b ∷ bs) e =
      let found : give d ≡ Some b = cc in
      let others : map give ds ≡ map Some bs = cc in
      rw (alone before d, found) (in_turn_back (before ++ b ∷ []) ds bs others ∙ ap Ok (append_assoc before (b ∷ []) bs))
