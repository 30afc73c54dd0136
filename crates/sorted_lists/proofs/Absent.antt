-- What is absent from a range of numbers, and lists in order that leave no number out.
use Rattle.std.proofs.Common.{◌≡◌, ℕ, zero, suc, ◌+◌, ◌-◌, ◌<◌, ◌≤◌, inl, inr, Bool, true, false, not, cond, eqb, List, [], ◌∷◌, ◌++◌, length, get_or, filter, map, refl, sym, ap, subst, ◌∙◌, arith, add-zero}
use Rattle.std.specs.List.{All, range_with_len, list_any}
use Rattle.std.specs.List.Sorted.{IsNonDecreasingBy}
use Rattle.std.proofs.lemmas.Bool.{cases_eq, cases_lt, eq-eqb, eqb-true, or_cases, or_left, or_right, ne_eqb}
use Rattle.std.proofs.lemmas.List.{map_push, append_assoc, append-nil, map-id, get_or_default, length-append}
use Rattle.std.proofs.lemmas.List.Elements.{filter-append}
use Rattle.std.proofs.lemmas.List.FromFn.{map-range_with_len_more, length-range_with_len}
use Rattle.std.proofs.lemmas.List.Sums.{length-filter, count_by-le-length}
use Rattle.goldilocks.specs.declared.Felt.{Felt}
use Rattle.sorted_lists.specs.Gaps.{absent, is_taken, gaps_between}

range-more : (low count : ℕ) → range_with_len low (count + 1) ≡ range_with_len low count ++ (low + count) ∷ []
range-more low count =
    sym (map-id (range_with_len low (count + 1)))
    ∙ (map-range_with_len_more (λ n. n) low count (low + count) refl ∙ ap (λ ns. ns ++ (low + count) ∷ []) (map-id (range_with_len low count)))

pub range_step : (from n : ℕ) → from ≤ n → range_with_len from (n + 1 - from) ≡ range_with_len from (n - from) ++ n ∷ []
range_step from n le =
    let e : n + 1 - from ≡ n - from + 1 = omega arith in
    let f : from + (n - from) ≡ n = omega arith in
    rw e (range-more from (n - from) ∙ ap (λ m. range_with_len from (n - from) ++ m ∷ []) f)

-- one number more was pushed
pub numbers_pushed : (before after start : List Felt) (x : Felt) (from n : ℕ) → after ≡ before ++ x ∷ [] → x.number ≡ n → from ≤ n → map (λ (y : Felt). y.number) before ≡ map (λ (y : Felt). y.number) start ++ range_with_len from (n - from) → map (λ (y : Felt). y.number) after ≡ map (λ (y : Felt). y.number) start ++ range_with_len from (n + 1 - from)
numbers_pushed before after start x from n e is le h =
    rw (e, map_push, h, is, range_step from n le) (append_assoc (map (λ (y : Felt). y.number) start) (range_with_len from (n - from)) (n ∷ []))

-- where a count from `from` to `to` stops
pub range_end : (from to n : ℕ) → (from ≤ to → n ≤ to) → (to < n → n ≡ from) → to ≤ n → n - from ≡ to - from
range_end from to n within empty past =
    elim (cases_lt to n) [
      | inl beyond ↦
          let e : n ≡ from = empty beyond in
          omega arith
      | inr level ↦ omega arith
    ]

module _ (taken : ℕ → Bool) where
  -- one number more
  pub absent-more_taken : (low count : ℕ) → taken (low + count) ≡ true → absent taken low (count + 1) ≡ absent taken low count
  unfolding absent
  absent-more_taken low count t =
      ap (filter (λ n. not (taken n))) (range-more low count)
      ∙ (filter-append (λ n. not (taken n)) (range_with_len low count) ((low + count) ∷ []) ∙ rw t (append-nil _))

  pub absent-more_free : (low count : ℕ) → taken (low + count) ≡ false → absent taken low (count + 1) ≡ absent taken low count ++ (low + count) ∷ []
  unfolding absent
  absent-more_free low count t =
      ap (filter (λ n. not (taken n))) (range-more low count)
      ∙ (filter-append (λ n. not (taken n)) (range_with_len low count) ((low + count) ∷ []) ∙ rw t refl)

  -- a run of numbers that aren't taken
  pub absent_run : (low count more : ℕ) → ((n : ℕ) → low + count ≤ n → n < low + count + more → taken n ≡ false) → absent taken low (count + more) ≡ absent taken low count ++ range_with_len (low + count) more
  absent_run low count zero free = ap (absent taken low) (add-zero count) ∙ sym (append-nil (absent taken low count))
  absent_run low count (suc more) free =
      let last : taken (low + (count + more)) ≡ false = free (low + (count + more)) (omega arith) (omega arith) in
      let before : absent taken low (count + more) ≡ absent taken low count ++ range_with_len (low + count) more = absent_run low count more (λ n lo hi. free n lo (omega arith)) in
      let e : count + suc more ≡ count + more + 1 = omega arith in
      let f : suc more ≡ more + 1 = omega arith in
      let g : low + (count + more) ≡ low + count + more = omega arith in
      ap (absent taken low) e ∙ (absent-more_free low (count + more) last ∙ (rw (before, g) (append_assoc (absent taken low count) (range_with_len (low + count) more) ((low + count + more) ∷ []))
      ∙ ap (λ ns. absent taken low count ++ ns) (sym (range-more (low + count) more) ∙ ap (range_with_len (low + count)) (sym f))))

  pub length-absent-le : (low count : ℕ) → length (absent taken low count) ≤ count
  unfolding absent
  length-absent-le low count =
      let shorter : length (absent taken low count) ≤ length (range_with_len low count) = rw (length-filter (λ n. not (taken n)) (range_with_len low count)) (count_by-le-length (λ n. not (taken n)) (range_with_len low count)) in
      omega (arith, length-range_with_len low count)

  pub absent_none : (low : ℕ) → absent taken low (low - low) ≡ []
  unfolding absent
  absent_none low = rw (let e : low - low ≡ 0 = omega arith in e) refl

  -- each number of the range that isn't taken is among them
  pub absent-has : (n low count : ℕ) → low ≤ n → n < low + count → taken n ≡ false → list_any (λ m. eqb m n) (absent taken low count) ≡ true
  unfolding absent
  absent-has n low zero lo hi free = absurd (omega arith)
  absent-has n low (suc count) lo hi free =
      let rest : List ℕ = absent taken (low + 1) count in
      elim (cases_eq low n) [
        | inl e ↦
            let here : taken low ≡ false = rw e free in
            rw here (rw (eq-eqb low n e) refl)
        | inr ne ↦
            let later : list_any (λ m. eqb m n) rest ≡ true = absent-has n (low + 1) count (omega arith) (omega arith) free in
            elim (taken low) as (λ t. list_any (λ m. eqb m n) (cond (not t) (low ∷ rest) rest) ≡ true) [
              | true ↦ later
              | false ↦ or_right (eqb low n) (list_any (λ m. eqb m n) rest) later
            ]
      ]

-- where some item passes

pub any_at : {X : Type 0} (f : X → ℕ) (n : ℕ) (xs : List X) (d : X) → list_any (λ x. eqb (f x) n) xs ≡ true → (k : ℕ) × (k < length xs) × (f (get_or xs k d) ≡ n)
any_at f n [] d e = cc
any_at f n (x ∷ xs) d e =
    elim (or_cases (eqb (f x) n) (list_any (λ x. eqb (f x) n) xs) e) [
      | inl here ↦ (0, omega arith, eqb-true (f x) n here)
      | inr later ↦
          let r : (k : ℕ) × (k < length xs) × (f (get_or xs k d) ≡ n) = any_at f n xs d later in
          (suc (r.0), omega (arith, r.1), r.2)
    ]

none_at : {X : Type 0} (f : X → ℕ) (n : ℕ) (xs : List X) → ((k : ℕ) (d : X) → k < length xs → f (get_or xs k d) ≡ n → ⊥) → list_any (λ x. eqb (f x) n) xs ≡ false
none_at f n [] apart = refl
none_at f n (x ∷ xs) apart =
    rw (ne_eqb (f x) n (apart 0 x (omega arith))) (none_at f n xs (λ k d lt e. apart (suc k) d (omega arith) e))

pub any_from : {X : Type 0} (f : X → ℕ) (n : ℕ) (xs : List X) (k : ℕ) (d : X) → k < length xs → f (get_or xs k d) ≡ n → list_any (λ x. eqb (f x) n) xs ≡ true
any_from f n [] k d lt e = absurd (omega arith)
any_from f n (x ∷ xs) zero d lt e = or_left (eqb (f x) n) (list_any (λ x. eqb (f x) n) xs) (eq-eqb (f x) n e)
any_from f n (x ∷ xs) (suc k) d lt e = or_right (eqb (f x) n) (list_any (λ x. eqb (f x) n) xs) (any_from f n xs k d (omega arith) e)

-- a list that never falls and has each number between two neighbours has no gap between them
pub no_gap : {X : Type 0} (f : X → ℕ) (xs : List X) (d : X) → IsNonDecreasingBy f xs → (i j : ℕ) → j ≡ i + 1 → j < length xs → ((n : ℕ) → f (get_or xs i d) < n → n < f (get_or xs j d) → list_any (λ x. eqb (f x) n) xs ≡ true) → f (get_or xs j d) ≤ f (get_or xs i d) + 1
no_gap f xs d up i j e lt has =
    elim (cases_lt (f (get_or xs i d) + 1) (f (get_or xs j d))) [
      | inl wide ↦
          let r : (k : ℕ) × (k < length xs) × (f (get_or xs k d) ≡ f (get_or xs i d) + 1) = any_at f (f (get_or xs i d) + 1) xs d (has (f (get_or xs i d) + 1) (omega arith) wide) in
          elim (cases_lt i (r.0)) [
            | inl after ↦ absurd (omega (arith, r.2, up j (r.0) d (omega arith) (r.1)))
            | inr before ↦ absurd (omega (arith, r.2, up (r.0) i d before (omega arith)))
          ]
      | inr close ↦ close
    ]

-- a walk over ordered items: `next` is the number after those of the items before i, or the low end
pub record Walked {X : Type 0} (key : X → ℕ) (xs : List X) (low i next : ℕ) : Type 0 where
  pub low_le : low ≤ next
  pub before : (k : ℕ) (d : X) → k < i → key (get_or xs k d) < next
  pub tight : (k : ℕ) (d : X) → i ≤ k → k < length xs → next ≤ key (get_or xs k d) + 1

module _ {X : Type 0} (key : X → ℕ) (xs : List X) (low : ℕ) where
  pub walked_start : All (λ x. low ≤ key x) xs → Walked key xs low 0 low
  walked_start within = record {
    low_le = omega arith;
    before = λ k d lt. absurd (omega arith);
    tight = λ k d le lt. omega (arith, within k d lt);
  }

  module _ (up : IsNonDecreasingBy key xs) where
    pub walked_more : (i next : ℕ) (d : X) → i < length xs → Walked key xs low i next → Walked key xs low (i + 1) (key (get_or xs i d) + 1)
    walked_more i next d lt w = record {
      low_le = omega (arith, w.low_le, w.tight i d (omega arith) lt);
      before = λ k e less. omega (arith, up k i e (omega arith) lt, ap key (get_or_default xs i d e lt));
      tight = λ k e le less. omega (arith, up i k d (omega arith) less, ap key (get_or_default xs k d e less));
    }

    -- between two items, and behind the last
    free_before : (i next : ℕ) (d : X) → i < length xs → Walked key xs low i next → (n : ℕ) → next ≤ n → n < key (get_or xs i d) → is_taken key xs n ≡ false
    free_before i next d lt w n lo hi =
        none_at key n xs (λ k e less is.
        elim (cases_lt k i) [
          | inl earlier ↦ omega (arith, w.before k e earlier)
          | inr later ↦ omega (arith, up i k e later less, ap key (get_or_default xs i d e lt))
        ])

    free_behind : (next : ℕ) → Walked key xs low (length xs) next → (n : ℕ) → next ≤ n → is_taken key xs n ≡ false
    free_behind next w n lo = none_at key n xs (λ k e less is. omega (arith, w.before k e less))

    -- what is absent so far, one item on
    pub absent_step : (i next : ℕ) (d : X) → i < length xs → Walked key xs low i next → absent (is_taken key xs) low (key (get_or xs i d) + 1 - low) ≡ absent (is_taken key xs) low (next - low) ++ range_with_len next (key (get_or xs i d) - next)
    absent_step i next d lt w =
        let p : ℕ = key (get_or xs i d) in
        let taken : ℕ → Bool = is_taken key xs in
        let last : next ≤ p + 1 = w.tight i d (omega arith) lt in
        elim (cases_lt p next) [
          | inl beyond ↦
              let e : p + 1 - low ≡ next - low = omega arith in
              let z : p - next ≡ 0 = omega arith in
              ap (absent taken low) e ∙ sym (ap (λ n. absent taken low (next - low) ++ range_with_len next n) z ∙ append-nil (absent taken low (next - low)))
          | inr within ↦
              let lo : low ≤ next = w.low_le in
              let start : low + (next - low) ≡ next = omega arith in
              let count : next - low + (p - next) ≡ p - low = omega arith in
              let here : low + (p - low) ≡ p = omega arith in
              let more : p + 1 - low ≡ p - low + 1 = omega arith in
              let run : absent taken low (next - low + (p - next)) ≡ absent taken low (next - low) ++ range_with_len (low + (next - low)) (p - next) =
              absent_run taken low (next - low) (p - next) (λ n a b. free_before i next d lt w n (omega arith) (omega arith)) in
              let at : taken p ≡ true = any_from key p xs i d lt refl in
              ap (absent taken low) more
              ∙ (absent-more_taken taken low (p - low) (ap taken here ∙ at)
              ∙ (ap (absent taken low) (sym count) ∙ (run ∙ ap (λ n. absent taken low (next - low) ++ range_with_len n (p - next)) start)))
        ]

    pub absent_end : (next high : ℕ) → next ≤ high + 1 → Walked key xs low (length xs) next → gaps_between key xs low high ≡ absent (is_taken key xs) low (next - low) ++ range_with_len next (high + 1 - next)
    unfolding gaps_between
    absent_end next high le w =
        let taken : ℕ → Bool = is_taken key xs in
        let lo : low ≤ next = w.low_le in
        let start : low + (next - low) ≡ next = omega arith in
        let count : high + 1 - low ≡ next - low + (high + 1 - next) = omega arith in
        let run : absent taken low (next - low + (high + 1 - next)) ≡ absent taken low (next - low) ++ range_with_len (low + (next - low)) (high + 1 - next) =
        absent_run taken low (next - low) (high + 1 - next) (λ n a b. free_behind next w n (omega arith)) in
        ap (absent taken low) count ∙ (run ∙ ap (λ n. absent taken low (next - low) ++ range_with_len n (high + 1 - next)) start)

-- the same at an item that stands at p
module _ {X : Type 0} (key : X → ℕ) (xs : List X) (low : ℕ) (up : IsNonDecreasingBy key xs) (i next p : ℕ) (d : X) (lt : i < length xs) (e : key (get_or xs i d) ≡ p) (w : Walked key xs low i next) where
  pub walked_at : Walked key xs low (i + 1) (p + 1)
  walked_at = let P : ℕ → Type 0 = λ n. Walked key xs low (i + 1) (n + 1) in subst P e (walked_more key xs low up i next d lt w)

  pub absent_at : absent (is_taken key xs) low (p + 1 - low) ≡ absent (is_taken key xs) low (next - low) ++ range_with_len next (p - next)
  absent_at =
      let P : ℕ → Type 0 = λ n. absent (is_taken key xs) low (n + 1 - low) ≡ absent (is_taken key xs) low (next - low) ++ range_with_len next (n - next) in
      subst P e (absent_step key xs low up i next d lt w)

  pub count_at : (count : ℕ) → count ≡ length (absent (is_taken key xs) low (next - low)) → count + (p - next) ≡ length (absent (is_taken key xs) low (p + 1 - low))
  count_at count h =
      let whole : length (absent (is_taken key xs) low (p + 1 - low)) ≡ length (absent (is_taken key xs) low (next - low)) + length (range_with_len next (p - next)) = ap length absent_at ∙ length-append (absent (is_taken key xs) low (next - low)) (range_with_len next (p - next)) in
      omega (arith, length-range_with_len next (p - next))

-- and behind the last
module _ {X : Type 0} (key : X → ℕ) (xs : List X) (low high : ℕ) (up : IsNonDecreasingBy key xs) (i next : ℕ) (all : length xs ≤ i) (le : next ≤ high + 1) (w : Walked key xs low i next) where
  -- a walk that has passed all items has passed each
  walked_all : Walked key xs low (length xs) next
  walked_all = record {
    low_le = w.low_le;
    before = λ k d lt. w.before k d (omega arith);
    tight = λ k d lo hi. absurd (omega arith);
  }

  pub gaps_end : gaps_between key xs low high ≡ absent (is_taken key xs) low (next - low) ++ range_with_len next (high + 1 - next)
  gaps_end = absent_end key xs low up next high le walked_all

  pub count_end : (count : ℕ) → count ≡ length (absent (is_taken key xs) low (next - low)) → count + (high + 1 - next) ≡ length (gaps_between key xs low high)
  count_end count h =
      let whole : length (gaps_between key xs low high) ≡ length (absent (is_taken key xs) low (next - low)) + length (range_with_len next (high + 1 - next)) = ap length gaps_end ∙ length-append (absent (is_taken key xs) low (next - low)) (range_with_len next (high + 1 - next)) in
      omega (arith, length-range_with_len next (high + 1 - next))

pub length-gaps-le : {X : Type 0} (key : X → ℕ) (xs : List X) (low high : ℕ) → length (gaps_between key xs low high) ≤ high + 1 - low
unfolding gaps_between
length-gaps-le key xs low high = length-absent-le (is_taken key xs) low (high + 1 - low)
