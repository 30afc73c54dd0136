-- The first place where two lists differ.
use Rattle.std.proofs.Common.{◌≡◌, ℕ, suc, ◌+◌, Bool, true, false, not, cond, eqb, List, [], ◌∷◌, length, take, ltb, inl, inr, ◌↔◌, ◌≢◌, one-add, Option, Some, None, refl, sym, ap, ◌∙◌, arith}
use Prim.Native.Nat.{min}
use Rattle.std.specs.Prelude.{position}
use Rattle.std.specs.List.{zip, slice_get, position_or_len}
use Rattle.std.specs.Option.{option_or, option_map, is_some}
use Rattle.std.proofs.lemmas.Bool.{eq-eqb, ne_eqb, lt-ltb, le-ltb, cases_lt, cases_eq}
use Rattle.sorted_lists.specs.Difference.{list_difference, shorter_end}

-- where the items differ somewhere, the lengths don't count
none_left : (r : Option ℕ) (other : Option ℕ) → is_some r ≡ false → option_or r other ≡ other
none_left None other e = refl
none_left (Some i) other e = cc

some_left : (r : Option ℕ) (other : Option ℕ) → is_some r ≡ true → option_or r other ≡ r
some_left None other e = cc
some_left (Some i) other e = refl

nothing_else : (r : Option ℕ) → option_or r None ≡ r
nothing_else None = refl
nothing_else (Some i) = refl

module _ {X : Type 0} (same : X → X → Bool) (xs ys : List X) (unequal : Option ℕ) (b : Bool) (found : unequal ≡ position (λ p. not (same p.0 p.1)) (zip xs ys)) (tested : is_some unequal ≡ not b) where
  -- what the comparison answers, by its branches
  pub difference-at_items : b ≡ false → unequal ≡ list_difference same xs ys
  unfolding list_difference
  difference-at_items e = rw (← found) (sym (some_left unequal (shorter_end xs ys) (tested ∙ ap not e)))

  pub difference-at_end : b ≡ true → (length xs ≡ length ys → ⊥) → (n : ℕ) → n ≡ min (length xs) (length ys) → Some n ≡ list_difference same xs ys
  unfolding list_difference shorter_end
  difference-at_end e apart n is =
      rw (← found) (rw (ne_eqb (length xs) (length ys) apart) (ap Some is) ∙ sym (none_left unequal (shorter_end xs ys) (tested ∙ ap not e)))

  pub difference-nowhere : b ≡ true → length xs ≡ length ys → unequal ≡ list_difference same xs ys
  unfolding list_difference shorter_end
  difference-nowhere e level = rw (← found) (rw (eq-eqb (length xs) (length ys) level) (sym (nothing_else unequal)))

-- item by item

place_shifted : (n m : ℕ) → cond (ltb (1 + n) (suc m)) (Some (1 + n)) None ≡ option_map suc (cond (ltb n m) (Some n) None)
place_shifted n m =
    elim (cases_lt n m) [
      | inl lt ↦ rw (lt-ltb (1 + n) (suc m) (omega arith), lt-ltb n m lt) (ap Some (one-add n))
      | inr ge ↦ rw (le-ltb (1 + n) (suc m) (omega arith), le-ltb n m ge) refl
    ]

end_shifted : (n m : ℕ) → cond (eqb (suc n) (suc m)) None (Some (min (suc n) (suc m))) ≡ option_map suc (cond (eqb n m) None (Some (min n m)))
end_shifted n m =
    let least : min (suc n) (suc m) ≡ suc (min n m) = omega arith in
    elim (cases_eq n m) [
      | inl e ↦ rw (eq-eqb (suc n) (suc m) (ap suc e), eq-eqb n m e) refl
      | inr ne ↦ rw (ne_eqb (suc n) (suc m) (λ e. ne (omega arith)), ne_eqb n m ne) (ap Some least)
    ]

or_shifted : (a b : Option ℕ) → option_or (option_map suc a) (option_map suc b) ≡ option_map suc (option_or a b)
or_shifted None b = refl
or_shifted (Some i) b = refl

module _ {X : Type 0} (same : X → X → Bool) where
  differs_first : (x y : X) (xs ys : List X) → same x y ≡ false → list_difference same (x ∷ xs) (y ∷ ys) ≡ Some 0
  unfolding list_difference shorter_end
  differs_first x y xs ys e =
      rw e (rw (lt-ltb 0 (suc (length (zip xs ys))) (omega arith)) refl)

  differs_later : (x y : X) (xs ys : List X) → same x y ≡ true → list_difference same (x ∷ xs) (y ∷ ys) ≡ option_map suc (list_difference same xs ys)
  unfolding list_difference shorter_end
  differs_later x y xs ys e =
      rw e (rw (place_shifted (position_or_len (λ p. not (same p.0 p.1)) (zip xs ys)) (length (zip xs ys)), end_shifted (length xs) (length ys))
      (or_shifted (position (λ p. not (same p.0 p.1)) (zip xs ys)) (shorter_end xs ys)))

  ends_first : (y : X) (ys : List X) → list_difference same [] (y ∷ ys) ≡ Some 0
  unfolding list_difference shorter_end
  ends_first y ys = rw (ne_eqb 0 (suc (length ys)) (λ e. omega arith)) (ap Some (let least : min 0 (suc (length ys)) ≡ 0 = omega arith in least))

  ends_second : (x : X) (xs : List X) → list_difference same (x ∷ xs) [] ≡ Some 0
  unfolding list_difference shorter_end
  ends_second x xs = rw (ne_eqb (suc (length xs)) 0 (λ e. omega arith)) (ap Some (let least : min (suc (length xs)) 0 ≡ 0 = omega arith in least))

  both_end : list_difference same [] [] ≡ None
  unfolding list_difference shorter_end
  both_end = refl

  -- what the answer says
  module _ (tells : (x y : X) → (same x y ≡ true) ↔ (x ≡ y)) where
    abbrev FirstAt : ℕ → List X → List X → Type 0
    FirstAt r xs ys = (take r xs ≡ take r ys) × (slice_get xs r ≢ slice_get ys r)

    abbrev Tells : Option ℕ → List X → List X → Type 0
    Tells None xs ys = xs ≡ ys
    Tells (Some r) xs ys = FirstAt r xs ys

    one_on : (d : Option ℕ) (x y : X) (xs ys : List X) → x ≡ y → Tells d xs ys → Tells (option_map suc d) (x ∷ xs) (y ∷ ys)
    one_on None x y xs ys e t = cc
    one_on (Some r) x y xs ys e t = (cc (t.0), t.1)

    difference_tells : (xs ys : List X) → Tells (list_difference same xs ys) xs ys
    difference_tells [] [] = rw both_end refl
    difference_tells [] (y ∷ ys) = rw (ends_first y ys) (refl, λ e. cc)
    difference_tells (x ∷ xs) [] = rw (ends_second x xs) (refl, λ e. cc)
    difference_tells (x ∷ xs) (y ∷ ys) =
        let P : Bool → Type 0 = λ t. same x y ≡ t → Tells (list_difference same (x ∷ xs) (y ∷ ys)) (x ∷ xs) (y ∷ ys) in
        let both : (t : Bool) → P t = elim [
          | true ↦ λ e. rw (differs_later x y xs ys e) (one_on (list_difference same xs ys) x y xs ys ((tells x y).0 e) (difference_tells xs ys))
          | false ↦ λ e. rw (differs_first x y xs ys e) (refl, λ h. let q : same x y ≡ true = (tells x y).1 (cc) in cc)
        ] in
        both (same x y) refl

    pub difference-itself : (xs : List X) → list_difference same xs xs ≡ None
    difference-itself [] = both_end
    difference-itself (x ∷ xs) = differs_later x x xs xs ((tells x x).1 refl) ∙ rw (difference-itself xs) refl

    pub difference-none : (xs ys : List X) → (list_difference same xs ys ≡ None) ↔ (xs ≡ ys)
    difference-none xs ys = (λ e. rw e at (difference_tells xs ys), λ e. rw (← e) (difference-itself xs))

    pub difference-some : (xs ys : List X) (r : ℕ) → list_difference same xs ys ≡ Some r → FirstAt r xs ys
    difference-some xs ys r e = rw e at (difference_tells xs ys)
