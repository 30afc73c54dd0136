-- What the bytes of a memory file spell, and what is wrong with others.
use Rattle.std.proofs.Common.{◌≡◌, inl, inr, ℕ, ◌+◌, ◌-◌, ◌*◌, ◌<◌, ◌≤◌, ◌/◌, ◌%◌, ◌==◌, Bool, nat_lt, cond, true, false, Some, None, Ok, Err, Option, Result, MatchOption, MatchResult, List, [], ◌∷◌, ◌++◌, length, take, drop, map, refl, sym, ap, ◌∙◌, append_assoc, arith, length-append, take-add, zero-add, subst, option_map}
use Rattle.std.proofs.lemmas.Bool.{ltb-true, ltb-false, lt-ltb, le-ltb, eqb-true, eqb-false, eq-eqb, ne_eqb, or_cases, or_parts, or_left, or_right, or_from, cases_lt}
use Rattle.std.proofs.lemmas.Option.{slice_get-map, get_or_from_slice_get}
use Rattle.std.proofs.lemmas.Simd.{map-map}
use Rattle.std.proofs.lemmas.List.{drop-drop, length-map}
use Rattle.std.proofs.lemmas.List.FromFn.{length-range_with_len, length-map-range_with_len, get_or-map-range_with_len}
use Rattle.std.proofs.Math.Seq.{take-length}
use Rattle.std.specs.List.{flat_map, range_with_len, slice_index, slice_get, AllByRecursion}
use Rattle.std.specs.List.Sorted.{IsStrictlyIncreasing}
use Rattle.goldilocks.specs.Field.{prime}
use Rattle.goldilocks.specs.declared.Pair.{Pair}
use Rattle.goldilocks.specs.Felts.{felt}
use Rattle.goldilocks.specs.Cells.{cell, addresses}
use Rattle.goldilocks.proofs.Pairs.{felt-number}
use Rattle.std.proofs.Math.Nat.{mod-eq_of_lt}
use Rattle.file_records.specs.Records.{pair_values, records_in, pair_of_bytes, pair_of_values, value_of_bytes}
use Rattle.file_records.proofs.RecordLists.{flat_map-flat_map}
use Rattle.trace_files.proofs.Chunks.{number_in_chunk}
use Rattle.file_records.specs.Numbers.{number_bytes, number_at}
use Rattle.trace_files.specs.declared.fault.FileFault.{FileFault}
use Rattle.trace_files.specs.declared.fault.FileFault.TheVariants.{TooMany, Length, NotField, Order, Memory}
use Rattle.file_records.specs.Numbers.{AreNumbersBefore, IsFirstNotField, first_failing_place, first_not_field}
use Rattle.trace_files.specs.MemoryFile.{memory_limit, cell_bytes, memory_bytes, memory_cell_limit, cell_at, cells_in, SpellsMemory, AscendsBefore, IsFirstDisorder, entry_of, HasMemoryLength, IsMemoryFault, ascends_at, first_disorder, cells_unless, memory_reading}
use Rattle.file_records.proofs.Places.{FindsFirst, found, none_found, first_found}
use Rattle.file_records.proofs.Layouts.{IsLayout, length-spelled, spelled_back, found_again, records_at, same_map_range}
use Rattle.file_records.proofs.FileNumbers.{number_finds, numbers_stand, first_not_field-told, first_not_field-none, first_not_field-some}

-- 16 bytes are twice eight
halves : {X : Type 0} (p : ℕ) (bytes : List X) → take 16 (drop p bytes) ≡ take 8 (drop p bytes) ++ take 8 (drop (p + 8) bytes)
halves p bytes = take-add 8 8 (drop p bytes) ∙ rw drop-drop refl

-- a cell whose two numbers are of the field spells its bytes
cell_reads : (bytes : List ℕ) → AreNumbersBefore bytes (length bytes) → (i : ℕ) → 16 * i + 16 ≤ length bytes → cell_bytes (cell_at bytes i) ≡ take 16 (drop (16 * i) bytes)
unfolding cell_at
cell_reads bytes numbers i fits =
    let addr = numbers (16 * i) (omega arith) (omega arith) in
    let value = numbers (16 * i + 8) (omega arith) (omega arith) in
    let addr_reads : number_bytes (number_at bytes (16 * i) % prime) ≡ take 8 (drop (16 * i) bytes) = ap (λ n. number_bytes n) (mod-eq_of_lt addr.below) ∙ sym addr.own in
    let value_reads : number_bytes (number_at bytes (16 * i + 8) % prime) ≡ take 8 (drop (16 * i + 8) bytes) = ap (λ n. number_bytes n) (mod-eq_of_lt value.below) ∙ sym value.own in
    ap (λ x. x ++ number_bytes (number_at bytes (16 * i + 8) % prime)) addr_reads
    ∙ ap (λ x. take 8 (drop (16 * i) bytes) ++ x) value_reads
    ∙ sym (halves (16 * i) bytes)

-- an entry may have any cell
abbrev AnyCell : Pair → Type 0
AnyCell c = Unit {0}

any_cells : (cells : List Pair) → AllByRecursion AnyCell cells
any_cells [] = tt
any_cells (c ∷ rest) = (tt, any_cells rest)

same_cell : (c : Pair) (addr value : ℕ) → addr ≡ c.addr.number → value ≡ c.value.number → cell (felt addr) (felt value) ≡ c
same_cell c addr value a v =
    let same_addr : felt addr ≡ c.addr = ap (λ n. felt n) a ∙ felt-number c.addr in
    let same_value : felt value ≡ c.value = ap (λ n. felt n) v ∙ felt-number c.value in
    λ i. record { addr = same_addr i; value = same_value i }

cell_finds : (front : List ℕ) (c : Pair) (rest : List ℕ) (i : ℕ) → AnyCell c → length front ≡ 16 * i → cell_at (front ++ (cell_bytes c ++ rest)) i ≡ c
unfolding cell_at
cell_finds front c rest i any at =
    let addr_is : number_at (front ++ (cell_bytes c ++ rest)) (16 * i) ≡ c.addr.number = number_finds front c.addr.number (number_bytes c.value.number ++ rest) (16 * i) (omega (arith, c.addr.in_field)) at in
    let value_is : number_at (front ++ (cell_bytes c ++ rest)) (16 * i + 8) ≡ c.value.number =
    ap (λ bytes. number_at bytes (16 * i + 8)) (sym (append_assoc front (number_bytes c.addr.number) (number_bytes c.value.number ++ rest)))
    ∙ number_finds (front ++ number_bytes c.addr.number) c.value.number rest (16 * i + 8) (omega (arith, c.value.in_field)) (omega (arith, length-append front (number_bytes c.addr.number))) in
    same_cell c _ _ addr_is value_is

cell_layout : IsLayout 16 cell_at cell_bytes AnyCell
cell_layout = record { width = λ c. refl; finds = cell_finds }

-- as many cells as the bytes have places
pub length-spelled_memory : (bytes : List ℕ) (cells : List Pair) → SpellsMemory bytes cells → length bytes ≡ 16 * length cells
length-spelled_memory bytes cells spells = ap length spells.parts ∙ length-spelled 16 cell_bytes (λ c. refl) cells

-- the cells at their places are the ones that the bytes spell
cells_in-spelled : (bytes : List ℕ) (cells : List Pair) → SpellsMemory bytes cells → cells_in bytes ≡ cells
unfolding cells_in
cells_in-spelled bytes cells spells =
    let count : length bytes / 16 ≡ length cells = omega (arith, length-spelled_memory bytes cells spells) in
    rw count (ap (λ b. map (cell_at b) (range_with_len 0 (length cells))) spells.parts ∙ found_again 16 cell_at cell_bytes AnyCell cell_layout [] 0 cells (any_cells cells) refl)

-- bytes spell one memory at most
pub memory_is_unique : (bytes : List ℕ) (c d : List Pair) → SpellsMemory bytes c → SpellsMemory bytes d → c ≡ d
memory_is_unique bytes c d one other = sym (cells_in-spelled bytes c one) ∙ cells_in-spelled bytes d other

length-cells_in : (bytes : List ℕ) → length (cells_in bytes) ≡ length bytes / 16
unfolding cells_in
length-cells_in bytes = length-map-range_with_len (cell_at bytes) 0 (length bytes / 16)

-- ---- the addresses

length-addresses_at : (bytes : List ℕ) (n : ℕ) → length (addresses (map (cell_at bytes) (range_with_len 0 n))) ≡ n
length-addresses_at bytes n = simp (length-map, length-range_with_len) refl

-- the first addresses are numbers of the field
abbrev HasLowAddresses : List ℕ → ℕ → Type 0
HasLowAddresses bytes n = (i : ℕ) → i < n → number_at bytes (16 * i) < prime

low_addresses : (bytes : List ℕ) (n : ℕ) → AreNumbersBefore bytes (length bytes) → 16 * n ≤ length bytes → HasLowAddresses bytes n
low_addresses bytes n numbers fits = λ i within. (numbers (16 * i) (omega arith) (omega arith)).below

-- the addresses at their places
address_at : (bytes : List ℕ) (n j : ℕ) → HasLowAddresses bytes n → j < n → slice_index (addresses (map (cell_at bytes) (range_with_len 0 n))) j ≡ number_at bytes (16 * j)
unfolding cell_at
address_at bytes n j low within =
    rw map-map (get_or-map-range_with_len (λ i. number_at bytes (16 * i) % prime) 0 n j j 0 within (zero-add j)) ∙ mod-eq_of_lt (low j within)

-- addresses that rise at their places, and the same of the list of them
ascending_listed : (bytes : List ℕ) (n : ℕ) → HasLowAddresses bytes n → AscendsBefore bytes (16 * n) → IsStrictlyIncreasing (addresses (map (cell_at bytes) (range_with_len 0 n)))
ascending_listed bytes n lows ascends = λ k within.
    let size = length-addresses_at bytes n in
    let here = address_at bytes n k lows (omega arith) in
    let behind = address_at bytes n (k + 1) lows (omega arith) in
    let before : 16 * (k + 1) - 16 ≡ 16 * k = omega arith in
    let rises : number_at bytes (16 * (k + 1) - 16) < number_at bytes (16 * (k + 1)) = ascends (16 * (k + 1)) (omega arith) (omega arith) (omega arith) in
    let same = ap (λ p. number_at bytes p) before in
    omega (arith, here, behind, rises, same)

ascending_placed : (bytes : List ℕ) (n : ℕ) → HasLowAddresses bytes n → IsStrictlyIncreasing (addresses (map (cell_at bytes) (range_with_len 0 n))) → AscendsBefore bytes (16 * n)
ascending_placed bytes n lows rises = λ place second within entry.
    let k : ℕ = place / 16 - 1 in
    let at : 16 * (k + 1) ≡ place = omega arith in
    let before : 16 * k ≡ place - 16 = omega arith in
    let size = length-addresses_at bytes n in
    let here = address_at bytes n k lows (omega arith) in
    let behind = address_at bytes n (k + 1) lows (omega arith) in
    let lower = rises k (omega arith) in
    let same = ap (λ p. number_at bytes p) before in
    let same_behind = ap (λ p. number_at bytes p) at in
    omega (arith, here, behind, lower, same, same_behind)

-- ---- what whole entries spell

-- whole entries of numbers of the field, by ascending addresses, spell the cells at their places
pub SpellsMemory-from_numbers : (bytes : List ℕ) → HasMemoryLength bytes → AreNumbersBefore bytes (length bytes) → AscendsBefore bytes (length bytes) → SpellsMemory bytes (cells_in bytes)
unfolding cells_in
SpellsMemory-from_numbers bytes size numbers ascends =
    let end : length bytes ≡ 16 * (length bytes / 16) = omega (arith, size.whole) in
    record {
      parts = sym (spelled_back 16 cell_at cell_bytes bytes (cell_reads bytes numbers) 0 (length bytes / 16) (omega arith) ∙ (let all : 16 * (length bytes / 16) ≡ length bytes = omega (arith, size.whole) in rw all (take-length bytes)));
      most = omega (arith, length-cells_in bytes, size.most);
      ascending = ascending_listed bytes (length bytes / 16) (low_addresses bytes (length bytes / 16) numbers (omega arith)) (subst (AscendsBefore bytes) end ascends);
    }

pair_values-low : (cells : List Pair) → AllByRecursion (λ n. n < prime) (flat_map pair_values cells)
pair_values-low [] = tt
pair_values-low (c ∷ rest) = (c.addr.in_field, (c.value.in_field, pair_values-low rest))

-- the numbers of bytes that spell cells are of the field, and their addresses ascend
numbers_of_spelled : (bytes : List ℕ) (cells : List Pair) → SpellsMemory bytes cells → AreNumbersBefore bytes (length bytes)
numbers_of_spelled bytes cells spells =
    subst (λ b. AreNumbersBefore b (length b)) (sym (spells.parts ∙ sym (flat_map-flat_map number_bytes pair_values cells)))
    (numbers_stand (flat_map pair_values cells) (pair_values-low cells))

ascends_of_spelled : (bytes : List ℕ) (cells : List Pair) → SpellsMemory bytes cells → AscendsBefore bytes (length bytes)
unfolding cells_in
ascends_of_spelled bytes cells spells =
    let end : 16 * (length bytes / 16) ≡ length bytes = omega (arith, length-spelled_memory bytes cells spells) in
    let rises = subst (λ cs. IsStrictlyIncreasing (addresses cs)) (sym (cells_in-spelled bytes cells spells)) spells.ascending in
    let lows = low_addresses bytes (length bytes / 16) (numbers_of_spelled bytes cells spells) (omega arith) in
    subst (AscendsBefore bytes) end (ascending_placed bytes (length bytes / 16) lows rises)

-- ---- the first address out of order

-- the address at a place is above the one before, if there is one
abbrev AscendsAt : List ℕ → ℕ → Type 0
AscendsAt bytes place = 16 ≤ place → number_at bytes (place - 16) < number_at bytes place

AscendsAt-from_test : (bytes : List ℕ) (p : ℕ) → ascends_at bytes p ≡ true → AscendsAt bytes p
unfolding ascends_at
AscendsAt-from_test bytes p holds = λ second.
    elim (or_cases (nat_lt p 16) (nat_lt (number_at bytes (p - 16)) (number_at bytes p)) holds) [
      | inl first ↦ absurd (omega (arith, ltb-true p 16 first))
      | inr above ↦ ltb-true _ _ above
    ]

test-from_AscendsAt : (bytes : List ℕ) (p : ℕ) → AscendsAt bytes p → ascends_at bytes p ≡ true
unfolding ascends_at
test-from_AscendsAt bytes p ascends =
    elim (cases_lt p 16) [
      | inl first ↦ or_left _ _ (lt-ltb p 16 first)
      | inr second ↦ or_right _ _ (lt-ltb _ _ (ascends second))
    ]

disorder-from_test : (bytes : List ℕ) (p : ℕ) → ascends_at bytes p ≡ false → (16 ≤ p) × (number_at bytes p ≤ number_at bytes (p - 16))
unfolding ascends_at
disorder-from_test bytes p fails =
    let both = or_parts (nat_lt p 16) (nat_lt (number_at bytes (p - 16)) (number_at bytes p)) fails in
    (ltb-false p 16 both.0, ltb-false _ _ both.1)

test-from_disorder : (bytes : List ℕ) (p : ℕ) → 16 ≤ p → number_at bytes p ≤ number_at bytes (p - 16) → ascends_at bytes p ≡ false
unfolding ascends_at
test-from_disorder bytes p second not_above = or_from _ _ (le-ltb p 16 second) (le-ltb _ _ not_above)

finds_disorder : (bytes : List ℕ) → FindsFirst (ascends_at bytes) (λ i. 16 * i) 0 (length bytes / 16) (first_disorder bytes)
unfolding first_failing_place
finds_disorder bytes = found (ascends_at bytes) (λ i. 16 * i) 0 (length bytes / 16)

module _ (bytes : List ℕ) (whole : length bytes % 16 ≡ 0) where
  told_disorder : (o : Option ℕ) → FindsFirst (ascends_at bytes) (λ i. 16 * i) 0 (length bytes / 16) o → MatchOption o (AscendsBefore bytes (length bytes)) (IsFirstDisorder bytes)
  told_disorder None all = λ place second lower entry.
      let index : 16 * (place / 16) ≡ place = omega arith in
      AscendsAt-from_test bytes place (subst (λ x. ascends_at bytes x ≡ true) index (all (place / 16) (omega arith) (omega arith))) second
  told_disorder (Some x) is =
      let fails = disorder-from_test bytes x (subst (λ y. ascends_at bytes y ≡ false) is.1 is.2.fails) in
      record {
        entry = omega (arith, is.1);
        second = fails.0;
        within = omega (arith, is.1, is.2.within);
        not_above = fails.1;
        before = λ place second lower entry.
            let index : 16 * (place / 16) ≡ place = omega arith in
            AscendsAt-from_test bytes place (subst (λ y. ascends_at bytes y ≡ true) index (is.2.before (place / 16) (omega arith) (omega (arith, is.1)))) second;
      }

  -- no address, or the first, is out of order
  first_disorder-told : MatchOption (first_disorder bytes) (AscendsBefore bytes (length bytes)) (IsFirstDisorder bytes)
  first_disorder-told = told_disorder (first_disorder bytes) (finds_disorder bytes)

  first_disorder-none : AscendsBefore bytes (length bytes) → first_disorder bytes ≡ None
  first_disorder-none ascends =
      none_found (ascends_at bytes) (λ i. 16 * i) 0 (length bytes / 16) (first_disorder bytes) (finds_disorder bytes)
      (λ j from lower. test-from_AscendsAt bytes (16 * j) (λ second. ascends (16 * j) second (omega arith) (omega arith)))

  first_disorder-some : (p : ℕ) → IsFirstDisorder bytes p → first_disorder bytes ≡ Some p
  first_disorder-some p first =
      let index : 16 * (p / 16) ≡ p = omega (arith, first.entry) in
      first_found (ascends_at bytes) (λ i. 16 * i) 0 (length bytes / 16) (p / 16) (first_disorder bytes) (finds_disorder bytes)
      (record {
        from = omega arith;
        within = omega (arith, first.within);
        fails = subst (λ x. ascends_at bytes x ≡ false) (sym index) (test-from_disorder bytes p first.second first.not_above);
        before = λ j from lower. test-from_AscendsAt bytes (16 * j) (λ second. first.before (16 * j) second (omega arith) (omega arith));
      })
      ∙ ap Some index

-- ---- what the bytes are read as

-- bytes that spell cells are read as these
pub memory_reading-spelled : (bytes : List ℕ) (cells : List Pair) → SpellsMemory bytes cells → memory_reading bytes ≡ Ok cells
unfolding memory_reading
memory_reading-spelled bytes cells spells =
    let size = length-spelled_memory bytes cells spells in
    let short = le-ltb memory_limit (length bytes) (omega (arith, spells.most)) in
    let whole = eq-eqb (length bytes % 16) 0 (omega arith) in
    let numbers = first_not_field-none bytes (omega arith) (numbers_of_spelled bytes cells spells) in
    let ascends = first_disorder-none bytes (omega arith) (ascends_of_spelled bytes cells spells) in
    rw (short, whole, numbers, ascends, cells_in-spelled bytes cells spells) refl

-- the first number outside the field is told where the entries before its own ascend
number_comes_first : (bytes : List ℕ) (place : ℕ) → place % 8 ≡ 0 → AscendsBefore bytes (entry_of place) → (o : Option ℕ) → MatchOption o (AscendsBefore bytes (length bytes)) (IsFirstDisorder bytes) → (cells : List Pair) → cells_unless (Some place) o cells ≡ Err (NotField place)
number_comes_first bytes place eighth ascends None is cells = refl
number_comes_first bytes place eighth ascends (Some entry) is cells =
    elim (cases_lt place (entry + 16)) [
      | inl earlier ↦ rw (lt-ltb place (entry + 16) earlier) refl
      | inr later ↦ absurd (omega (arith, ascends entry is.second (omega (arith, is.entry)) is.entry, is.not_above))
    ]

-- the first address out of order is told where the numbers up to the end of its entry are of the field
order_comes_first : (bytes : List ℕ) (entry : ℕ) → AreNumbersBefore bytes (entry + 16) → (o : Option ℕ) → MatchOption o (AreNumbersBefore bytes (length bytes)) (IsFirstNotField bytes) → (cells : List Pair) → cells_unless o (Some entry) cells ≡ Err (Order entry)
order_comes_first bytes entry numbers None is cells = refl
order_comes_first bytes entry numbers (Some place) is cells =
    elim (cases_lt place (entry + 16)) [
      | inl earlier ↦ absurd (is.outside (numbers place earlier is.eighth))
      | inr later ↦ rw (le-ltb place (entry + 16) later) refl
    ]

-- bytes with a fault are read as this fault
pub memory_reading-fault : (bytes : List ℕ) (fault : FileFault) → IsMemoryFault bytes fault → memory_reading bytes ≡ Err fault
unfolding memory_reading
memory_reading-fault bytes TooMany is = rw (lt-ltb memory_limit (length bytes) is) refl
memory_reading-fault bytes Length is =
    rw (le-ltb memory_limit (length bytes) is.0, ne_eqb (length bytes % 16) 0 is.1) refl
memory_reading-fault bytes (NotField place) is =
    let short = le-ltb memory_limit (length bytes) is.0.most in
    let whole = eq-eqb (length bytes % 16) 0 is.0.whole in
    let first = first_not_field-some bytes (omega (arith, is.0.whole)) place is.1 in
    rw (short, whole, first) (number_comes_first bytes place is.1.eighth is.2 (first_disorder bytes) (first_disorder-told bytes is.0.whole) (cells_in bytes))
memory_reading-fault bytes (Order entry) is =
    let short = le-ltb memory_limit (length bytes) is.0.most in
    let whole = eq-eqb (length bytes % 16) 0 is.0.whole in
    let first = first_disorder-some bytes is.0.whole entry is.1 in
    rw (short, whole, first) (order_comes_first bytes entry is.2 (first_not_field bytes) (first_not_field-told bytes (omega (arith, is.0.whole))) (cells_in bytes))
memory_reading-fault bytes Memory is = absurd is

-- what the bytes are read as is what they spell, or their fault
abbrev TellsMemory : List ℕ → Result (List Pair) FileFault → Type 0
TellsMemory bytes reading = MatchResult reading (SpellsMemory bytes) (IsMemoryFault bytes)

told_earlier : (bytes : List ℕ) → HasMemoryLength bytes → (place entry : ℕ) → IsFirstNotField bytes place → IsFirstDisorder bytes entry → (earlier : Bool) → nat_lt place (entry + 16) ≡ earlier → TellsMemory bytes (cond earlier (Err (NotField place)) (Err (Order entry)))
told_earlier bytes size place entry number order true is =
    let lower = ltb-true place (entry + 16) is in
    (size, number, λ p second within multiple. order.before p second (omega (arith, order.entry, number.eighth)) multiple)
told_earlier bytes size place entry number order false is =
    let later = ltb-false place (entry + 16) is in
    (size, order, λ p within multiple. number.before p (omega arith) multiple)

told_entries : (bytes : List ℕ) → HasMemoryLength bytes → (n : Option ℕ) → MatchOption n (AreNumbersBefore bytes (length bytes)) (IsFirstNotField bytes) → (o : Option ℕ) → MatchOption o (AscendsBefore bytes (length bytes)) (IsFirstDisorder bytes) → TellsMemory bytes (cells_unless n o (cells_in bytes))
told_entries bytes size None numbers None ascends = SpellsMemory-from_numbers bytes size numbers ascends
told_entries bytes size (Some place) number None ascends =
    (size, number, λ p second within multiple. ascends p second (omega (arith, number.within)) multiple)
told_entries bytes size None numbers (Some entry) order =
    (size, order, λ p within multiple. numbers p (omega (arith, order.within, order.entry, size.whole)) multiple)
told_entries bytes size (Some place) number (Some entry) order =
    told_earlier bytes size place entry number order (nat_lt place (entry + 16)) refl

told_length : (bytes : List ℕ) → length bytes ≤ memory_limit → (whole : Bool) → (length bytes % 16 == 0) ≡ whole → TellsMemory bytes (cond whole (cells_unless (first_not_field bytes) (first_disorder bytes) (cells_in bytes)) (Err Length))
told_length bytes short true is =
    let size : HasMemoryLength bytes = record { most = short; whole = eqb-true _ _ is } in
    told_entries bytes size (first_not_field bytes) (first_not_field-told bytes (omega (arith, size.whole))) (first_disorder bytes) (first_disorder-told bytes size.whole)
told_length bytes short false is = (short, eqb-false _ _ is)

told_limit : (bytes : List ℕ) (over : Bool) → nat_lt memory_limit (length bytes) ≡ over → TellsMemory bytes (cond over (Err TooMany) (cond (length bytes % 16 == 0) (cells_unless (first_not_field bytes) (first_disorder bytes) (cells_in bytes)) (Err Length)))
told_limit bytes true is = ltb-true memory_limit (length bytes) is
told_limit bytes false is = told_length bytes (ltb-false memory_limit (length bytes) is) (length bytes % 16 == 0) refl

pub memory_reading-told : (bytes : List ℕ) → TellsMemory bytes (memory_reading bytes)
unfolding memory_reading
memory_reading-told bytes = told_limit bytes (nat_lt memory_limit (length bytes)) refl

pub SpellsMemory-from_reading : (bytes : List ℕ) (cells : List Pair) → memory_reading bytes ≡ Ok cells → SpellsMemory bytes cells
SpellsMemory-from_reading bytes cells read = subst (TellsMemory bytes) read (memory_reading-told bytes)

pub IsMemoryFault-from_reading : (bytes : List ℕ) (fault : FileFault) → memory_reading bytes ≡ Err fault → IsMemoryFault bytes fault
IsMemoryFault-from_reading bytes fault read = subst (TellsMemory bytes) read (memory_reading-told bytes)

-- bytes that spell cells have no fault
pub memory_has_no_fault : (bytes : List ℕ) (cells : List Pair) (fault : FileFault) → SpellsMemory bytes cells → IsMemoryFault bytes fault → ⊥
memory_has_no_fault bytes cells fault spells is =
    let both : ◌≡◌ {A = Result (List Pair) FileFault} (Ok cells) (Err fault) = sym (memory_reading-spelled bytes cells spells) ∙ memory_reading-fault bytes fault is in
    cc

-- where bytes spell cells, a fault can only be want of memory
pub memory_fault_all : (bytes : List ℕ) (fault : FileFault) → IsMemoryFault bytes fault → (cells : List Pair) → SpellsMemory bytes cells → fault ≡ Memory
memory_fault_all bytes fault told cells spells = absurd (memory_has_no_fault bytes cells fault spells told)

-- ---- reading from the front

-- a number of an entry that is none of the field, where the entries before it ascend, is the fault of the memory
pub number_fault : (bytes : List ℕ) (i place : ℕ) (fault : FileFault) → HasMemoryLength bytes → AscendsBefore bytes (16 * i) → 16 * i ≤ place → place < 16 * i + 16 → fault ≡ NotField place → IsFirstNotField bytes place → IsMemoryFault bytes fault
number_fault bytes i place fault size ascends above below told first =
    subst (IsMemoryFault bytes) (sym told)
    (size, first, λ p second within multiple. ascends p second (omega (arith, above, below)) multiple)

-- an address that isn't above the one before is the fault
pub order_fault : (bytes : List ℕ) (i : ℕ) → HasMemoryLength bytes → 0 < i → 16 * i + 16 ≤ length bytes → AscendsBefore bytes (16 * i) → AreNumbersBefore bytes (16 * i + 16) → number_at bytes (16 * i) ≤ number_at bytes (16 * i - 16) → IsMemoryFault bytes (Order (16 * i))
order_fault bytes i size second within ascends numbers falls =
    (size, record { entry = omega arith; second = omega arith; within = omega arith; not_above = falls; before = ascends }, numbers)

-- one more address, above the last
pub ascends_more : (bytes : List ℕ) (i : ℕ) → AscendsBefore bytes (16 * i) → (0 < i → number_at bytes (16 * i - 16) < number_at bytes (16 * i)) → AscendsBefore bytes (16 * i + 16)
ascends_more bytes i ascends here = λ place second within entry.
    elim (cases_lt place (16 * i)) [
      | inl earlier ↦ ascends place second earlier entry
      | inr not_earlier ↦ let same : 16 * i ≡ place = omega arith in subst (AscendsAt bytes) same (λ late. here (omega arith)) second
    ]

-- the entries before the end are all of them
pub entries_end : (bytes : List ℕ) (i : ℕ) → HasMemoryLength bytes → length bytes / 16 ≤ i → AreNumbersBefore bytes (16 * i) → AscendsBefore bytes (16 * i) → SpellsMemory bytes (cells_in bytes)
entries_end bytes i size end numbers ascends =
    SpellsMemory-from_numbers bytes size
    (λ place lower eighth. numbers place (omega (arith, size.whole)) eighth)
    (λ place second lower entry. ascends place second (omega (arith, size.whole)) entry)

-- ---- the records of a memory file

cell_there : (bytes : List ℕ) (i : ℕ) → pair_of_bytes (take 16 (drop (16 * i) bytes)) ≡ cell_at bytes i
unfolding pair_of_bytes pair_of_values records_in value_of_bytes cell_at
cell_there bytes i =
    let a : number_at (take 16 (drop (16 * i) bytes)) 0 ≡ number_at bytes (16 * i) = number_in_chunk 16 (16 * i) 0 (16 * i) bytes (omega arith) (omega arith) in
    let v : number_at (take 16 (drop (16 * i) bytes)) 8 ≡ number_at bytes (16 * i + 8) = number_in_chunk 16 (16 * i) 8 (16 * i + 8) bytes (omega arith) refl in
    λ k. cell (felt (a k)) (felt (v k))

-- the records that are read are the cells at their places
pub cells_are_read : (bytes : List ℕ) (n : ℕ) (cells : List Pair) → n ≡ length bytes / 16 → cells ≡ records_in 16 pair_of_bytes n bytes → cells ≡ cells_in bytes
unfolding cells_in
cells_are_read bytes n cells count same =
    same
    ∙ (records_at 16 pair_of_bytes n 0 bytes
    ∙ (same_map_range (λ i. pair_of_bytes (take 16 (drop (16 * i) bytes))) (cell_at bytes) 0 n (λ i from within. cell_there bytes i)
    ∙ ap (λ m. map (cell_at bytes) (range_with_len 0 m)) count))

pub SpellsMemory-read : (bytes : List ℕ) (n : ℕ) (cells : List Pair) → n ≡ length bytes / 16 → cells ≡ records_in 16 pair_of_bytes n bytes → SpellsMemory bytes (cells_in bytes) → SpellsMemory bytes cells
SpellsMemory-read bytes n cells count same spells =
    subst (SpellsMemory bytes) (sym (cells_are_read bytes n cells count same)) spells

-- written cells are spelled
pub SpellsMemory-written : (cells : List Pair) → length cells ≤ memory_cell_limit → IsStrictlyIncreasing (addresses cells) → SpellsMemory (memory_bytes cells) cells
SpellsMemory-written cells most rises = record { parts = refl; most = most; ascending = rises }

-- ---- the addresses of a list

-- the address of a cell in the list
pub address_of_pair : (cells : List Pair) (k : ℕ) (c : Pair) → slice_get cells k ≡ Some c → slice_index (addresses cells) k ≡ c.addr.number
address_of_pair cells k c held =
    get_or_from_slice_get (addresses cells) k c.addr.number 0
    (slice_get-map (λ (x : Pair). x.addr.number) cells k ∙ ap (λ o. option_map (λ (x : Pair). x.addr.number) o) held)

pub length-addresses : (cells : List Pair) → length (addresses cells) ≡ length cells
length-addresses cells = simp (length-map) refl
