-- What a search by ascending addresses finds is what the memory has.
use Rattle.std.proofs.Common.{◌≡◌, ◌≢◌, Contains, ℕ, zero, suc, ◌<◌, ◌≤◌, List, [], ◌∷◌, length, get_or, Some, None, Result, Ok, Err, refl, sym, ap, ◌∙◌, arith}
use Rattle.std.specs.List.{slice_index}
use Rattle.std.specs.Result.{MatchResult}
use Rattle.std.specs.List.Sorted.{IsStrictlyIncreasing, IsSearchInRange, IsBinarySearchResult, IsNonDecreasingBy}
use Rattle.std.specs.Ordering.{nat_cmp, ordering_index}
use Rattle.std.proofs.lemmas.Cmp.{ranked}
use Rattle.std.proofs.Common.{inl, inr}
use Rattle.std.proofs.lemmas.Bool.{eq-eqb, ne_eqb, cases_lt}
use Rattle.std.proofs.lemmas.Bool.Decides.{nat_tests}
use Rattle.std.proofs.lemmas.Option.{slice_get-get_or}
use Rattle.std.proofs.lemmas.List.Kept.{AllPairs-from_increasing}
use Rattle.goldilocks.specs.declared.Pair.{Pair}
use Rattle.goldilocks.specs.Cells.{addresses, memory_of}
use Rattle.trace_files.proofs.MemoryFile.{address_of_pair, length-addresses}

-- the first of several cells, at its address and at another
memory_of-here : (c : Pair) (cells : List Pair) (a : ℕ) → c.addr.number ≡ a → memory_of (c ∷ cells) a ≡ Some c.value.number
unfolding memory_of
memory_of-here c cells a same = rw (eq-eqb c.addr.number a same) refl

memory_of-past : (c : Pair) (cells : List Pair) (a : ℕ) → c.addr.number ≢ a → memory_of (c ∷ cells) a ≡ memory_of cells a
unfolding memory_of
memory_of-past c cells a other = rw (ne_eqb c.addr.number a other) refl

memory_of-empty : (a : ℕ) → memory_of [] a ≡ None
unfolding memory_of
memory_of-empty a = refl

-- an address that no cell has
memory_of-absent : (pairs : List Pair) (a : ℕ) → ((j : ℕ) (d : Pair) → j < length pairs → (get_or pairs j d).addr.number ≢ a) → memory_of pairs a ≡ None
memory_of-absent [] a absent = memory_of-empty a
memory_of-absent (x ∷ xs) a absent =
    memory_of-past x xs a (absent 0 x (omega arith))
    ∙ memory_of-absent xs a (λ j d within. absent (suc j) d (omega arith))

-- the first cell that has the address
memory_of-present : (pairs : List Pair) (i : ℕ) (d : Pair) (a : ℕ) → i < length pairs → (get_or pairs i d).addr.number ≡ a → ((j : ℕ) → j < i → (get_or pairs j d).addr.number ≢ a) → memory_of pairs a ≡ Some (get_or pairs i d).value.number
memory_of-present [] i d a within here before = absurd (omega arith)
memory_of-present (x ∷ xs) zero d a within here before = memory_of-here x xs a here
memory_of-present (x ∷ xs) (suc i) d a within here before =
    memory_of-past x xs a (before 0 (omega arith))
    ∙ memory_of-present xs i d a (omega arith) here (λ j lower. before (suc j) (omega arith))

-- the address of an item
pub address_of_item : (pairs : List Pair) (i : ℕ) (d : Pair) → i < length pairs → slice_index (addresses pairs) i ≡ (get_or pairs i d).addr.number
address_of_item pairs i d within = address_of_pair pairs i (get_or pairs i d) (slice_get-get_or pairs i d within)

module _ (pairs : List Pair) (rises : IsStrictlyIncreasing (addresses pairs)) (a : ℕ) where
  lower_before : (i j : ℕ) (d : Pair) → i < j → j < length pairs → (get_or pairs i d).addr.number < (get_or pairs j d).addr.number
  lower_before i j d before within =
      let size = length-addresses pairs in
      let lower = AllPairs-from_increasing (addresses pairs) rises i j 0 before (omega arith) in
      omega (arith, lower, address_of_item pairs i d (omega arith), address_of_item pairs j d within)

  comparisons_rise : IsNonDecreasingBy (λ pair. ordering_index (nat_cmp pair.addr.number a)) pairs
  comparisons_rise = λ i j d le within.
      let at_most : (get_or pairs i d).addr.number ≤ (get_or pairs j d).addr.number = grind (arith, lower_before i j d, λ (same : i ≡ j). ap (λ k. (get_or pairs k d).addr.number) same) in
      grind (arith, nat_tests)

  pub looked_up : (r : Result ℕ ℕ) → IsSearchInRange r (length pairs) → IsBinarySearchResult (λ pair. nat_cmp pair.addr.number a) pairs r → MatchResult r (λ i. (d : Pair) → memory_of pairs a ≡ Some (get_or pairs i d).value.number) (λ _. memory_of pairs a ≡ None)
  looked_up (Ok i) in_range equal = λ d.
      let here : (get_or pairs i d).addr.number ≡ a = ranked _ a _ (sym (equal d)) in
      memory_of-present pairs i d a in_range here (λ j lower same. omega (arith, lower_before j i d lower in_range))
  looked_up (Err i) in_range parted =
      memory_of-absent pairs a (λ j d within same.
      elim (cases_lt j i) [
        | inl lower ↦ let less : (get_or pairs j d).addr.number < a = ranked _ a _ (sym ((parted comparisons_rise).0 j d (omega arith) lower)) in omega arith
        | inr upper ↦ let more : a < (get_or pairs j d).addr.number = ranked _ a _ (sym ((parted comparisons_rise).1 j d upper within)) in omega arith
      ])

  -- the value of a cell that has the address
  pub memory_of-member : (cell : Pair) → Contains pairs cell → cell.addr.number ≡ a → memory_of pairs a ≡ Some cell.value.number
  memory_of-member cell member here =
      let read : get_or pairs member.0 cell ≡ cell = member.2 in
      let at : (get_or pairs member.0 cell).addr.number ≡ a = ap (λ (pair : Pair). pair.addr.number) read ∙ here in
      memory_of-present pairs member.0 cell a member.1 at (λ j lower same. omega (arith, lower_before j member.0 cell lower member.1))
      ∙ ap (λ (pair : Pair). Some pair.value.number) read
