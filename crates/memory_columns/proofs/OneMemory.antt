-- Sorted pairs make one memory: the addresses go up by 0 or 1 modulo p, fewer than p times, so an address that was left
-- doesn't come again.
use Rattle.std.proofs.Common.{◌≡◌, ◌↔◌, ℕ, zero, suc, ◌+◌, ◌-◌, ◌%◌, ◌<◌, ◌≤◌, ◌⊎◌, inl, inr, false, List, [], ◌∷◌, length, get_or, Option, Some, None, IsSome, refl, sym, ap, ◌∙◌, subst, arith, lit<, add-one, IsPermutation, IfSome}
use Rattle.std.specs.Prelude.{slice_get}
use Rattle.std.specs.Option.{option_map, option_or, is_some}
use Rattle.std.proofs.lemmas.Bool.{cases_eq, eq-eqb, ne_eqb}
use Rattle.std.proofs.lemmas.Option.{get_or_from_slice_get, slice_get_within, same_Some}
use Rattle.std.proofs.lemmas.List.Elements.{All-contains}
use Rattle.std.proofs.lemmas.List.Sorted.{All-permutation, IsPermutation-sym}
use Rattle.std.specs.List.{AllAdjacentBelow}
use Rattle.goldilocks.specs.Field.{prime, field_sub}
use Rattle.goldilocks.specs.declared.Pair.{Pair}
use Rattle.casm_word.specs.Transition.{Memory}
use Rattle.sorted_lists.specs.Climbing.{climb, AllNeighbours, first_between}
use Rattle.sorted_lists.proofs.Steps.{distance-ascends, distance-reached, number_from_distance, from_distance}
use Rattle.sorted_lists.specs.Order.{in_order}
use Rattle.sorted_lists.specs.Difference.{list_difference}
use Rattle.sorted_lists.proofs.Neighbours.{none_between, some_between, first_between-none}
use Rattle.sorted_lists.proofs.Differences.{difference-none, difference-some}
use Rattle.sorted_lists.proofs.InOrder.{IsPermutation-from_in_order}
use Rattle.memory_columns.specs.declared.ListFault.{ListFault}
use Rattle.memory_columns.specs.Equations.{m1, m2, pair_cmp, is_same_pair, pair_fault, pair_difference, first_memory_fault, fault_at, M1, M2, M3, IsFirstFault}
use Rattle.memory_columns.specs.OneMemory.{Holds, OneValueEach, IsBetween, AreOneMemory}
use Rattle.goldilocks.specs.Cells.{memory_of}
use Rattle.memory_columns.proofs.Cells.{address_below, same_pair_tells}
use Rattle.memory_columns.proofs.PairFaults.{pair_fault_tells, value_stays, fault-none}

abbrev addr_of : Pair → ℕ
addr_of x = x.addr.number

-- the memory reads the first place of an address
pub read_first : (a : ℕ) (xs : List Pair) (k : ℕ) (d : Pair) → k < length xs → addr_of (get_or xs k d) ≡ a → (i : ℕ) × (i ≤ k) × (addr_of (get_or xs i d) ≡ a) × (memory_of xs a ≡ Some (get_or xs i d).value.number)
unfolding memory_of
read_first a [] k d lt e = absurd (omega arith)
read_first a (x ∷ xs) zero d lt e = (0, omega arith, e, rw (eq-eqb x.addr.number a e) refl)
read_first a (x ∷ xs) (suc k) d lt e =
    elim (cases_eq x.addr.number a) [
      | inl here ↦ (0, omega arith, here, rw (eq-eqb x.addr.number a here) refl)
      | inr apart ↦
          let r : (i : ℕ) × (i ≤ k) × (addr_of (get_or xs i d) ≡ a) × (memory_of xs a ≡ Some (get_or xs i d).value.number) = read_first a xs k d (omega arith) e in
          (suc (r.0), omega (arith, r.1), r.2, rw (ne_eqb x.addr.number a apart) (r.3))
    ]

-- and reads nothing elsewhere
pub read_somewhere : (a : ℕ) (xs : List Pair) (d : Pair) → IsSome (memory_of xs a) → (k : ℕ) × (k < length xs) × (addr_of (get_or xs k d) ≡ a)
unfolding memory_of
read_somewhere a [] d e = cc
read_somewhere a (x ∷ xs) d e =
    elim (cases_eq x.addr.number a) [
      | inl here ↦ (0, omega arith, here)
      | inr apart ↦
          let later : IsSome (memory_of xs a) = rw (ne_eqb x.addr.number a apart) at e in
          let r : (k : ℕ) × (k < length xs) × (addr_of (get_or xs k d) ≡ a) = read_somewhere a xs d later in
          (suc (r.0), omega (arith, r.1), r.2)
    ]

module _ (xs : List Pair) (up : AllNeighbours (λ x y. m1 x y ≡ 0) xs) (stay : AllNeighbours (λ x y. m2 x y ≡ 0) xs) (short : length xs < prime) where
  climbing : AllNeighbours (λ x y. climb (addr_of x) (addr_of y) ≡ 0) xs
  unfolding m1
  climbing = up

  -- between two places of an address the address stays, and so does the value
  same_value : (d : Pair) (i j : ℕ) → i ≤ j → j < length xs → addr_of (get_or xs i d) ≡ addr_of (get_or xs j d) → (get_or xs i d).value.number ≡ (get_or xs j d).value.number
  same_value d i zero le lt e =
      let z : i ≡ 0 = omega arith in
      rw z refl
  same_value d i (suc j) le lt e =
      elim (cases_eq i (suc j)) [
        | inl z ↦ rw z refl
        | inr ne ↦
            let first = addr_of (get_or xs 0 d) in
            let at_i = addr_of (get_or xs i d) in
            let at_j = addr_of (get_or xs j d) in
            let at_next = addr_of (get_or xs (suc j) d) in
            let same : field_sub at_i first ≡ field_sub at_next first = ap (λ n. field_sub n first) e in
            let before : field_sub at_i first ≤ field_sub at_j first = distance-ascends addr_of address_below xs d climbing short i j (omega arith) (omega arith) in
            let after : field_sub at_j first ≤ field_sub at_next first = distance-ascends addr_of address_below xs d climbing short j (suc j) (omega arith) lt in
            let level : field_sub at_i first ≡ field_sub at_j first = omega arith in
            let start : at_i ≡ (first + field_sub at_i first) % prime = number_from_distance addr_of address_below xs d i in
            let middle : at_j ≡ (first + field_sub at_j first) % prime = number_from_distance addr_of address_below xs d j in
            let here : at_i ≡ at_j = start ∙ (ap (λ n. (first + n) % prime) level ∙ sym middle) in
            let earlier : (get_or xs i d).value.number ≡ (get_or xs j d).value.number = same_value d i j (omega arith) (omega arith) here in
            let step : m2 (get_or xs j d) (get_or xs (suc j) d) ≡ 0 = simp add-one at (stay j d (omega arith)) in
            earlier ∙ value_stays (get_or xs j d) (get_or xs (suc j) d) (sym here ∙ e) step
      ]

  pub holds_itself : Holds (memory_of xs) xs
  unfolding Holds
  holds_itself k d lt =
      let r : (i : ℕ) × (i ≤ k) × (addr_of (get_or xs i d) ≡ addr_of (get_or xs k d)) × (memory_of xs (addr_of (get_or xs k d)) ≡ Some (get_or xs i d).value.number) = read_first (addr_of (get_or xs k d)) xs k d lt refl in
      r.3 ∙ ap (λ n. Some n) (same_value d (r.0) k (r.1) lt (r.2))

  pub between_itself : (first last : Pair) → slice_get xs 0 ≡ Some first → slice_get xs (length xs - 1) ≡ Some last → (a : ℕ) → IsSome (memory_of xs a) ↔ IsBetween first.addr.number last.addr.number a
  unfolding IsBetween
  between_itself first last p q a =
      let at_first : get_or xs 0 first ≡ first = get_or_from_slice_get xs 0 first first p in
      let at_last : get_or xs (length xs - 1) first ≡ last = get_or_from_slice_get xs (length xs - 1) last first q in
      let some : 0 < length xs = slice_get_within xs 0 first p in
      let start : addr_of (get_or xs 0 first) ≡ first.addr.number = ap addr_of at_first in
      let end : addr_of (get_or xs (length xs - 1) first) ≡ last.addr.number = ap addr_of at_last in (
        λ e.
            let r : (k : ℕ) × (k < length xs) × (addr_of (get_or xs k first) ≡ a) = read_somewhere a xs first e in
            let within : field_sub (addr_of (get_or xs (r.0) first)) (addr_of (get_or xs 0 first)) ≤ field_sub (addr_of (get_or xs (length xs - 1) first)) (addr_of (get_or xs 0 first)) =
            distance-ascends addr_of address_below xs first climbing short (r.0) (length xs - 1) (omega (arith, r.1)) (omega arith) in
            (subst (λ n. n < prime) (r.2) (address_below (get_or xs (r.0) first)), rw (r.2, start, end) at within),
        λ h.
            let within : field_sub a (addr_of (get_or xs 0 first)) ≤ field_sub (addr_of (get_or xs (length xs - 1) first)) (addr_of (get_or xs 0 first)) = rw (start, end) (h.1) in
            let r : (k : ℕ) × (k ≤ length xs - 1) × (field_sub (addr_of (get_or xs k first)) (addr_of (get_or xs 0 first)) ≡ field_sub a (addr_of (get_or xs 0 first))) =
            distance-reached addr_of address_below xs first climbing short (field_sub a (addr_of (get_or xs 0 first))) (length xs - 1) (omega arith) within in
            let here : addr_of (get_or xs (r.0) first) ≡ (addr_of (get_or xs 0 first) + field_sub (addr_of (get_or xs (r.0) first)) (addr_of (get_or xs 0 first))) % prime = number_from_distance addr_of address_below xs first (r.0) in
            let there : a ≡ (addr_of (get_or xs 0 first) + field_sub a (addr_of (get_or xs 0 first))) % prime = from_distance (addr_of (get_or xs 0 first)) a (address_below (get_or xs 0 first)) (h.0) in
            let same : addr_of (get_or xs (r.0) first) ≡ a = here ∙ (ap (λ n. (addr_of (get_or xs 0 first) + n) % prime) (r.2) ∙ sym there) in
            let found : (i : ℕ) × (i ≤ r.0) × (addr_of (get_or xs i first) ≡ a) × (memory_of xs a ≡ Some (get_or xs i first).value.number) = read_first a xs (r.0) first (omega (arith, r.1)) same in
            rw (found.3) refl,
      )

-- the equations

nothing_first : (a b : Option ListFault) → option_or a b ≡ None → (a ≡ None) × (b ≡ None)
nothing_first None b e = (refl, e)
nothing_first (Some x) b e = absurd (cc)

nothing_mapped : {A B : Type 0} (f : A → B) (o : Option A) → option_map f o ≡ None → o ≡ None
nothing_mapped f None e = refl
nothing_mapped f (Some x) e = absurd (cc)

pub none_is : {A : Type 0} (o : Option A) → is_some o ≡ false → o ≡ None
none_is None e = refl
none_is (Some x) e = absurd (cc)

module _ (accesses sorted : List Pair) where
  no_pair_fault : first_memory_fault accesses sorted ≡ None → AllNeighbours (λ x y. pair_fault x y ≡ None) sorted
  unfolding first_memory_fault
  no_pair_fault e = none_between pair_fault sorted (nothing_mapped (λ p. fault_at p.1 p.0) (first_between pair_fault sorted) (nothing_first _ _ e).0)

  pub m1_holds : first_memory_fault accesses sorted ≡ None → AllNeighbours (λ x y. m1 x y ≡ 0) sorted
  m1_holds e k d lt = (rw (no_pair_fault e k d lt) at (pair_fault_tells (get_or sorted k d) (get_or sorted (k + 1) d))).0

  pub m2_holds : first_memory_fault accesses sorted ≡ None → AllNeighbours (λ x y. m2 x y ≡ 0) sorted
  m2_holds e k d lt = (rw (no_pair_fault e k d lt) at (pair_fault_tells (get_or sorted k d) (get_or sorted (k + 1) d))).1

  pub m3_holds : first_memory_fault accesses sorted ≡ None → in_order pair_cmp accesses ≡ in_order pair_cmp sorted
  unfolding first_memory_fault
  m3_holds e = (difference-none is_same_pair same_pair_tells (in_order pair_cmp accesses) (in_order pair_cmp sorted)).0 (nothing_mapped (λ row. fault_at 3 row) (pair_difference accesses sorted) (nothing_first _ _ e).1)

-- cells that a memory holds have one value each
pub one_value-from_holds : (m : Memory) (cells : List Pair) → Holds m cells → OneValueEach cells
unfolding Holds OneValueEach
one_value-from_holds m cells h x y p q e =
    let there : m x.addr.number ≡ Some x.value.number = All-contains (λ z. m z.addr.number ≡ Some z.value.number) cells x h p in
    let here : m y.addr.number ≡ Some y.value.number = All-contains (λ z. m z.addr.number ≡ Some z.value.number) cells y h q in
    same_Some x.value.number y.value.number (sym there ∙ (ap m e ∙ here))

held_after : (accesses sorted : List Pair) → IsPermutation sorted accesses → Holds (memory_of sorted) sorted → Holds (memory_of sorted) accesses
unfolding Holds
held_after accesses sorted moved h = All-permutation (λ x. memory_of sorted x.addr.number ≡ Some x.value.number) sorted accesses moved h

pub one_memory : (accesses sorted : List Pair) → first_memory_fault accesses sorted ≡ None → length sorted < prime → AreOneMemory accesses sorted
one_memory accesses sorted e short =
    let up : AllNeighbours (λ x y. m1 x y ≡ 0) sorted = m1_holds accesses sorted e in
    let stay : AllNeighbours (λ x y. m2 x y ≡ 0) sorted = m2_holds accesses sorted e in
    let moved : IsPermutation sorted accesses = IsPermutation-sym accesses sorted (IsPermutation-from_in_order pair_cmp accesses sorted (m3_holds accesses sorted e)) in
    let held : Holds (memory_of sorted) accesses = held_after accesses sorted moved (holds_itself sorted up stay short) in
    record {
      one_value = one_value-from_holds (memory_of sorted) accesses held;
      holds = held;
      between = between_itself sorted up stay short;
    }

-- what the answer is

no_fault_from : (accesses sorted : List Pair) → M1 sorted × M2 sorted × M3 accesses sorted → first_memory_fault accesses sorted ≡ None
unfolding first_memory_fault M1 M2 M3
no_fault_from accesses sorted h =
    let neighbours : first_between pair_fault sorted ≡ None = first_between-none pair_fault sorted (λ k d lt. fault-none (get_or sorted k d) (get_or sorted (k + 1) d) (h.0 k d lt) (h.1 k d lt)) in
    let order : list_difference is_same_pair (in_order pair_cmp accesses) (in_order pair_cmp sorted) ≡ None = (difference-none is_same_pair same_pair_tells (in_order pair_cmp accesses) (in_order pair_cmp sorted)).1 (h.2) in
    rw (neighbours, order) refl

pub no_fault_exactly : (accesses sorted : List Pair) → (first_memory_fault accesses sorted ≡ None) ↔ (M1 sorted × M2 sorted × M3 accesses sorted)
unfolding M1 M2 M3
no_fault_exactly accesses sorted = (λ e. (m1_holds accesses sorted e, m2_holds accesses sorted e, m3_holds accesses sorted e), no_fault_from accesses sorted)

zero_pair : Pair
zero_pair = record { addr = record { number = 0; in_field = lit< tt }; value = record { number = 0; in_field = lit< tt } }

-- a number that M1 and M2 give is the same at each default
one_fails : (n : ℕ) (x y : Pair) → n ≡ 1 → pair_fault x y ≡ Some n → m1 x y ≡ 0 → ⊥
one_fails n x y one e h =
    elim (rw e at (pair_fault_tells x y)) [
      | inl f ↦ f.1 h
      | inr f ↦ omega (arith, f.0)
    ]

two_fails : (n : ℕ) (x y : Pair) → n ≡ 2 → pair_fault x y ≡ Some n → (m1 x y ≡ 0) × (m2 x y ≡ 0 → ⊥)
two_fails n x y two e =
    elim (rw e at (pair_fault_tells x y)) [
      | inl f ↦ absurd (omega (arith, f.0))
      | inr f ↦ (f.1, f.2)
    ]

one_or_two : (n : ℕ) (x y : Pair) → pair_fault x y ≡ Some n → (n ≡ 1) ⊎ (n ≡ 2)
one_or_two n x y e =
    elim (rw e at (pair_fault_tells x y)) [ inl f ↦ inl (f.0) | inr f ↦ inr (f.0) ]

finds_between : (accesses sorted : List Pair) (row n : ℕ) → first_between pair_fault sorted ≡ Some (row, n) → IsFirstFault accesses sorted (fault_at n row)
unfolding IsFirstFault
finds_between accesses sorted row n e =
    let found = some_between pair_fault sorted row n e in
    let before : AllAdjacentBelow (λ x y. (m1 x y ≡ 0) × (m2 x y ≡ 0)) sorted (row + 1) = λ k d lt. (rw (found.1 k d lt) at (pair_fault_tells (get_or sorted k d) (get_or sorted (k + 1) d))) in
    elim (one_or_two n (get_or sorted row zero_pair) (get_or sorted (row + 1) zero_pair) (found.2 zero_pair)) [
      | inl one ↦ inl (one, before, (found.0, λ d. one_fails n (get_or sorted row d) (get_or sorted (row + 1) d) one (found.2 d)))
      | inr two ↦ inr (inl (two, before, (found.0, λ d. (two_fails n (get_or sorted row d) (get_or sorted (row + 1) d) two (found.2 d)).0), (found.0, λ d. (two_fails n (get_or sorted row d) (get_or sorted (row + 1) d) two (found.2 d)).1)))
    ]

finds_order : (accesses sorted : List Pair) (row : ℕ) → first_between pair_fault sorted ≡ None → pair_difference accesses sorted ≡ Some row → IsFirstFault accesses sorted (fault_at 3 row)
unfolding IsFirstFault M1 M2
finds_order accesses sorted row e g =
    let none : AllNeighbours (λ x y. pair_fault x y ≡ None) sorted = none_between pair_fault sorted e in
    inr (inr (
      refl,
      (λ k d lt. (rw (none k d lt) at (pair_fault_tells (get_or sorted k d) (get_or sorted (k + 1) d))).0),
      (λ k d lt. (rw (none k d lt) at (pair_fault_tells (get_or sorted k d) (get_or sorted (k + 1) d))).1),
      difference-some is_same_pair same_pair_tells (in_order pair_cmp accesses) (in_order pair_cmp sorted) row g,
    ))

finds_first : (accesses sorted : List Pair) (fault : ListFault) (between : Option (ℕ × ℕ)) (order : Option ℕ) → first_between pair_fault sorted ≡ between → pair_difference accesses sorted ≡ order → option_or (option_map (λ p. fault_at p.1 p.0) between) (option_map (λ row. fault_at 3 row) order) ≡ Some fault → IsFirstFault accesses sorted fault
finds_first accesses sorted fault (Some p) order e g h =
    let is : fault_at p.1 p.0 ≡ fault = cc in
    let P : ListFault → Type 0 = IsFirstFault accesses sorted in
    subst P is (finds_between accesses sorted (p.0) (p.1) e)
finds_first accesses sorted fault None (Some row) e g h =
    let is : fault_at 3 row ≡ fault = cc in
    let P : ListFault → Type 0 = IsFirstFault accesses sorted in
    subst P is (finds_order accesses sorted row e g)
finds_first accesses sorted fault None None e g h = absurd (cc)

pub first_fault_is : (accesses sorted : List Pair) (fault : ListFault) → first_memory_fault accesses sorted ≡ Some fault → IsFirstFault accesses sorted fault
unfolding first_memory_fault
first_fault_is accesses sorted fault e = finds_first accesses sorted fault (first_between pair_fault sorted) (pair_difference accesses sorted) refl refl e

-- ---- what an answer says that is the first failure

none_is_not_some : {A : Type 0} (o : Option A) → o ≡ None → is_some o ≡ false
none_is_not_some o e = ap is_some e

pub none_of_fault : (accesses sorted : List Pair) (fault : Option ListFault) → fault ≡ first_memory_fault accesses sorted → (is_some fault ≡ false) ↔ (M1 sorted × M2 sorted × M3 accesses sorted)
none_of_fault accesses sorted fault is =
    ((λ none. (no_fault_exactly accesses sorted).0 (sym is ∙ none_is fault none)), (λ all. none_is_not_some fault (is ∙ (no_fault_exactly accesses sorted).1 all)))

pub first_of_fault : (accesses sorted : List Pair) (fault : Option ListFault) → fault ≡ first_memory_fault accesses sorted → IfSome fault (IsFirstFault accesses sorted)
first_of_fault accesses sorted None is = tt
first_of_fault accesses sorted (Some found) is = first_fault_is accesses sorted found (sym is)
