-- The first of the places at which a test fails.
use Rattle.std.proofs.Common.{◌≡◌, ℕ, zero, suc, ◌+◌, ◌<◌, ◌≤◌, Bool, true, false, not, cond, Option, Some, None, MatchOption, map, refl, sym, ap, ◌∙◌, subst, inl, inr, arith}
use Rattle.std.proofs.lemmas.Bool.{cases_lt, both_ways}
use Rattle.std.specs.List.{find, range_with_len}

-- the item with this number is the first, from a on, whose place fails the test
pub record FailsFirst (test : ℕ → Bool) (place : ℕ → ℕ) (a n k : ℕ) : Type 0 where
  pub from : a ≤ k
  pub within : k < a + n
  pub fails : test (place k) ≡ false
  pub before : (j : ℕ) → a ≤ j → j < k → test (place j) ≡ true

-- the items from a on pass the test
abbrev pub AllPass : (ℕ → Bool) → (ℕ → ℕ) → ℕ → ℕ → Type 0
AllPass test place a n = (j : ℕ) → a ≤ j → j < a + n → test (place j) ≡ true

-- what is found is the place of the first item that fails
abbrev pub FindsFirst : (ℕ → Bool) → (ℕ → ℕ) → ℕ → ℕ → Option ℕ → Type 0
FindsFirst test place a n found = MatchOption found (AllPass test place a n) (λ x. (k : ℕ) × (place k ≡ x) × FailsFirst test place a n k)

module _ (test : ℕ → Bool) (place : ℕ → ℕ) where
  -- the first item passes, so it is one of those behind it or of all
  passes_from : (a j : ℕ) (P : ℕ → Type 0) → P a → ((i : ℕ) → a + 1 ≤ i → P i) → a ≤ j → P j
  passes_from a j P here behind from =
      elim (cases_lt a j) [
        | inl later ↦ behind j (omega arith)
        | inr not_later ↦ let same : a ≡ j = omega arith in subst P same here
      ]

  found_step : (a n : ℕ) (b : Bool) → test (place a) ≡ b → (rest : Option ℕ) → FindsFirst test place (a + 1) n rest → FindsFirst test place a (suc n) (cond (not b) (Some (place a)) rest)
  found_step a n false fails rest behind = (
    a,
    refl,
    record { from = omega arith; within = omega arith; fails = fails; before = λ j from below. absurd (omega arith) },
  )
  found_step a n true passes None behind =
      λ j from below. passes_from a j (λ i. i < a + suc n → test (place i) ≡ true) (λ _. passes) (λ i later lower. behind i later (omega arith)) from below
  found_step a n true passes (Some x) behind = (
    behind.0,
    behind.1,
    record {
      from = omega (arith, behind.2.from);
      within = omega (arith, behind.2.within);
      fails = behind.2.fails;
      before = λ j from below. passes_from a j (λ i. i < behind.0 → test (place i) ≡ true) (λ _. passes) (λ i later lower. behind.2.before i later lower) from below;
    },
  )

  pub found : (a n : ℕ) → FindsFirst test place a n (find (λ p. not (test p)) (map place (range_with_len a n)))
  found a zero = λ j from below. absurd (omega arith)
  found a (suc n) = found_step a n (test (place a)) refl (find (λ p. not (test p)) (map place (range_with_len (a + 1) n))) (found (a + 1) n)

  -- where all pass, nothing is found
  pub none_found : (a n : ℕ) (o : Option ℕ) → FindsFirst test place a n o → AllPass test place a n → o ≡ None
  none_found a n None is all = refl
  none_found a n (Some x) is all = absurd (both_ways _ is.2.fails (all is.0 is.2.from is.2.within))

  -- only the first that fails is found
  pub first_found : (a n k : ℕ) (o : Option ℕ) → FindsFirst test place a n o → FailsFirst test place a n k → o ≡ Some (place k)
  first_found a n k None is fails = absurd (both_ways _ fails.fails (is k fails.from fails.within))
  first_found a n k (Some x) is fails =
      elim (cases_lt is.0 k) [
        | inl lower ↦ absurd (both_ways _ is.2.fails (fails.before is.0 is.2.from lower))
        | inr not_lower ↦ elim (cases_lt k is.0) [
          | inl lower ↦ absurd (both_ways _ fails.fails (is.2.before k fails.from lower))
          | inr not_greater ↦
              let same : is.0 ≡ k = omega arith in
              ap Some (sym is.1 ∙ ap place same)
        ]
      ]
