-- The least and the greatest of some numbers: one of them, and a bound of all.
use Rattle.std.proofs.Common.{◌≡◌, ℕ, suc, ◌<◌, ◌≤◌, min, max, fold, ◌⊎◌, inl, inr, List, [], ◌∷◌, length, refl, sym, ◌∙◌, subst, arith}
use Rattle.std.specs.Prelude.{All, Any}
use Rattle.std.proofs.lemmas.Bool.{cases_lt}
use Rattle.std.proofs.lemmas.List.Elements.{All-cons}
use Rattle.table_builder.specs.Columns.{least_of, greatest_of}

-- ---- some item of a list

pub any-here : {X : Type 0} (P : X → Type 0) (x : X) (xs : List X) → P x → Any P (x ∷ xs)
any-here P x xs p = (0, x, omega arith, refl, p)

pub any-later : {X : Type 0} (P : X → Type 0) (x : X) (xs : List X) → Any P xs → Any P (x ∷ xs)
any-later P x xs (k, y, within, at, p) = (suc k, y, omega (arith, within), at, p)

-- what holds of some item and with each item holds of one
pub any-and_all : {X : Type 0} (P Q : X → Type 0) (xs : List X) → Any P xs → All Q xs → (x : X) × P x × Q x
any-and_all P Q xs (k, x, within, at, p) all = (x, p, subst Q at (all k x within))

pub any-some : {X : Type 0} (P : X → Type 0) (xs : List X) → Any P xs → 0 < length xs
any-some P xs (k, x, within, at, p) = omega (arith, within)

-- ---- a fold that picks one of two numbers

module _ (f : ℕ → ℕ → ℕ) (picks : (a b : ℕ) → (f a b ≡ a) ⊎ (f a b ≡ b)) where
  fold-picks : (a : ℕ) (xs : List ℕ) → (a ≡ fold f a xs) ⊎ Any (λ x. x ≡ fold f a xs) xs
  fold-picks a [] = inl refl
  fold-picks a (x ∷ xs) =
      elim (fold-picks (f a x) xs) [
        | inl first ↦ elim (picks a x) [
          | inl left ↦ inl (sym left ∙ first)
          | inr right ↦ inr (any-here (λ y. y ≡ fold f (f a x) xs) x xs (sym right ∙ first))
        ]
        | inr later ↦ inr (any-later (λ y. y ≡ fold f (f a x) xs) x xs later)
      ]

  fold-reached : (a : ℕ) (xs : List ℕ) → Any (λ x. x ≡ fold f a xs) (a ∷ xs)
  fold-reached a xs =
      elim (fold-picks a xs) [
        | inl first ↦ any-here (λ x. x ≡ fold f a xs) a xs first
        | inr later ↦ any-later (λ x. x ≡ fold f a xs) a xs later
      ]

min-picks : (a b : ℕ) → (min a b ≡ a) ⊎ (min a b ≡ b)
min-picks a b = elim (cases_lt a b) [ inl below ↦ inl (omega arith) | inr above ↦ inr (omega arith) ]

max-picks : (a b : ℕ) → (max a b ≡ a) ⊎ (max a b ≡ b)
max-picks a b = elim (cases_lt a b) [ inl below ↦ inr (omega arith) | inr above ↦ inl (omega arith) ]

-- ---- the least

fold_min-bounds : (a : ℕ) (xs : List ℕ) → (fold min a xs ≤ a) × All (λ x. fold min a xs ≤ x) xs
fold_min-bounds a [] = (omega arith, λ k d within. absurd (omega arith))
fold_min-bounds a (x ∷ xs) =
    let behind = fold_min-bounds (min a x) xs in
    (omega (arith, behind.0), All-cons (λ y. fold min (min a x) xs ≤ y) x xs (omega (arith, behind.0)) behind.1)

pub least-reached : (xs : List ℕ) → 0 < length xs → Any (λ x. x ≡ least_of xs) xs
unfolding least_of
least-reached [] some = absurd (omega arith)
least-reached (x ∷ xs) some = fold-reached min min-picks x xs

pub least-bounds : (xs : List ℕ) → All (λ x. least_of xs ≤ x) xs
unfolding least_of
least-bounds [] = λ k d within. absurd (omega arith)
least-bounds (x ∷ xs) =
    let both = fold_min-bounds x xs in
    All-cons (λ y. fold min x xs ≤ y) x xs both.0 both.1

-- a bound of all that one of them is
pub least-is : (xs : List ℕ) (l : ℕ) → Any (λ x. x ≡ l) xs → All (λ x. l ≤ x) xs → least_of xs ≡ l
least-is xs l reached bounds =
    let there = any-and_all (λ x. x ≡ l) (λ x. least_of xs ≤ x) xs reached (least-bounds xs) in
    let here = any-and_all (λ x. x ≡ least_of xs) (λ x. l ≤ x) xs (least-reached xs (any-some (λ x. x ≡ l) xs reached)) bounds in
    omega (arith, there.1, there.2, here.1, here.2)

-- ---- the greatest

fold_max-bounds : (a : ℕ) (xs : List ℕ) → (a ≤ fold max a xs) × All (λ x. x ≤ fold max a xs) xs
fold_max-bounds a [] = (omega arith, λ k d within. absurd (omega arith))
fold_max-bounds a (x ∷ xs) =
    let behind = fold_max-bounds (max a x) xs in
    (omega (arith, behind.0), All-cons (λ y. y ≤ fold max (max a x) xs) x xs (omega (arith, behind.0)) behind.1)

pub greatest-reached : (xs : List ℕ) → 0 < length xs → Any (λ x. x ≡ greatest_of xs) xs
unfolding greatest_of
greatest-reached [] some = absurd (omega arith)
greatest-reached (x ∷ xs) some = fold-reached max max-picks x xs

pub greatest-bounds : (xs : List ℕ) → All (λ x. x ≤ greatest_of xs) xs
unfolding greatest_of
greatest-bounds [] = λ k d within. absurd (omega arith)
greatest-bounds (x ∷ xs) =
    let both = fold_max-bounds x xs in
    All-cons (λ y. y ≤ fold max x xs) x xs both.0 both.1

pub greatest-is : (xs : List ℕ) (l : ℕ) → Any (λ x. x ≡ l) xs → All (λ x. x ≤ l) xs → greatest_of xs ≡ l
greatest-is xs l reached bounds =
    let there = any-and_all (λ x. x ≡ l) (λ x. x ≤ greatest_of xs) xs reached (greatest-bounds xs) in
    let here = any-and_all (λ x. x ≡ greatest_of xs) (λ x. x ≤ l) xs (greatest-reached xs (any-some (λ x. x ≡ l) xs reached)) bounds in
    omega (arith, there.1, there.2, here.1, here.2)
