-- Bytes that spell tables: the tables are read of them again, and they have no fault.
use Rattle.std.proofs.Common.{◌≡◌, ℕ, zero, suc, ◌+◌, ◌*◌, ◌<◌, ◌≤◌, ◌^◌, List, [], ◌∷◌, ◌++◌, length, take, drop, get_or, refl, sym, ap, ◌∙◌, subst, arith, length-append, inl, inr}
use Rattle.std.proofs.lemmas.List.{drop-drop, take_at, drop_at, append-nil, get_or_append_left}
use Rattle.std.proofs.lemmas.List.Elements.{All-nil, All-cons, All-head, All-tail, All-append, All-same}
use Rattle.std.proofs.lemmas.Nat.{from_le_bytes-to_le_bytes_8}
use Rattle.std.specs.Prelude.{slice_index}
use Rattle.std.specs.Int.{w64, from_le_bytes}
use Rattle.std.specs.List.{flat_map, All}
use Rattle.goldilocks.specs.declared.Felt.{Felt}
use Rattle.goldilocks.specs.declared.Pair.{Pair}
use Rattle.goldilocks.specs.Field.{prime}
use Rattle.cpu_rows.specs.declared.Row.{Row}
use Rattle.goldilocks.specs.Felts.{numbers}
use Rattle.range_columns.specs.declared.RangeRow.{RangeRow}
use Rattle.table_file.specs.declared.TableFault.{TableFault}
use Rattle.table_file.specs.declared.TableFault.TheVariants.{Magic, TooMany, NotField, Length, Memory}
use Rattle.table_file.specs.Tables.{Contents, AreValid}
use Rattle.file_records.specs.Numbers.{numbers_bytes, number_bytes, number_at}
use Rattle.table_file.specs.Spelling.{magic, counts, all_values, spelling, SpellsTables}
use Rattle.table_file.specs.Faults.{count_in, count_limits, value_count, file_end, HasFault}
use Rattle.table_file.specs.Reading.{lists_in, tables_in}
use Rattle.file_records.specs.Records.{records_in, value_of_bytes, row_of_bytes, state_of_bytes, range_row_of_bytes, pair_of_bytes, row_values, state_values, range_row_values, pair_values}
use Rattle.table_file.specs.Parts.{HasText, HasLowValues}
use Rattle.file_records.proofs.RecordLists.{found_again, length-spelled}
use Rattle.file_records.proofs.GoodBytes.{number_at-drop, felt_finds}
use Rattle.file_records.proofs.Spelled.{row_values-numbers, row_felts, row_width, row_finds, state_finds, range_row_finds, pair_finds, length-numbers_bytes}
use Rattle.table_file.proofs.WholeFiles.{lists_bytes, numbers_bytes-all_values, counts_listed}
use Rattle.table_file.proofs.FirstFaults.{IsClean, fault_behind}

-- the values of the tables are numbers of the field
numbers_low : (xs : List Felt) → All (λ n. n < prime) (numbers xs)
numbers_low [] = All-nil (λ n. n < prime)
numbers_low (x ∷ xs) = All-cons (λ n. n < prime) x.number (numbers xs) x.in_field (numbers_low xs)

flat_low : {X : Type 0} (f : X → List ℕ) → ((x : X) → All (λ n. n < prime) (f x)) → (xs : List X) → All (λ n. n < prime) (flat_map f xs)
flat_low f each [] = All-nil (λ n. n < prime)
flat_low f each (x ∷ xs) = All-append (λ n. n < prime) (f x) (flat_map f xs) (each x) (flat_low f each xs)

all_low : (t : Contents) → All (λ n. n < prime) (all_values t)
unfolding all_values
all_low t =
    let P : ℕ → Type 0 = λ n. n < prime in
    All-append P _ _ (flat_low row_values (λ r. All-same P (row_values r) (numbers (row_felts r)) (row_values-numbers r) (numbers_low (row_felts r))) t.rows)
    (All-append P (state_values t.last) _ (numbers_low (t.last.pc ∷ t.last.ap ∷ t.last.fp ∷ []))
    (All-append P _ _ (flat_low range_row_values (λ r. numbers_low (r.value ∷ r.l0 ∷ r.l1 ∷ r.l2 ∷ [])) t.range)
    (All-append P _ _ (flat_low pair_values (λ p. numbers_low (p.addr ∷ p.value ∷ [])) t.fillers)
    (All-append P _ _ (flat_low pair_values (λ p. numbers_low (p.addr ∷ p.value ∷ [])) t.pairs)
    (All-append P _ _ (numbers_low t.range_fillers) (numbers_low t.sorted_range))))))

-- a number of a list is found at its place
number_found : (ns : List ℕ) → All (λ n. n < prime) ns → (k : ℕ) → k < length ns → number_at (numbers_bytes ns) (8 * k) ≡ get_or ns k 0
number_found [] low k inside = absurd (omega arith)
number_found (n ∷ ns) low zero inside =
    let none : 8 * zero ≡ 0 = omega arith in
    ap (number_at (numbers_bytes (n ∷ ns))) none ∙ (ap (from_le_bytes w64) (take_at (number_bytes n) (numbers_bytes ns) 8 refl) ∙ from_le_bytes-to_le_bytes_8 n (omega (arith, All-head (λ m. m < prime) n ns low)))
number_found (n ∷ ns) low (suc k) inside =
    let place : 8 * suc k ≡ 8 + 8 * k = omega arith in
    ap (number_at (numbers_bytes (n ∷ ns))) place
    ∙ (sym (number_at-drop 8 (8 * k) (numbers_bytes (n ∷ ns)))
    ∙ (ap (λ bytes. number_at bytes (8 * k)) (drop_at (number_bytes n) (numbers_bytes ns) 8 refl)
    ∙ number_found ns (All-tail (λ m. m < prime) n ns low) k (omega arith)))

-- a fault behind the last byte of a whole file is none
none_behind : (bytes : List ℕ) (place : ℕ) (f : TableFault) → file_end bytes ≡ length bytes → length bytes ≤ place → HasFault bytes place f → ⊥
unfolding HasFault
none_behind bytes place Magic ends behind h = omega (arith, h.there)
none_behind bytes place TooMany ends behind h = omega (arith, h.whole)
none_behind bytes place (NotField named) ends behind h = omega (arith, h.1.whole)
none_behind bytes place Length ends behind h = elim h [ inl e ↦ omega (arith, e.early) | inr e ↦ omega (arith, e.followed) ]
none_behind bytes place Memory ends behind h = h

-- an item that any value may be
abbrev Any : {X : Type 0} → X → Type 0
Any x = Unit {0}

all_any : {X : Type 0} (xs : List X) → All Any xs
all_any xs = λ k d inside. tt

-- a list that is spelled is read again, and the bytes behind it are found
module _ {X : Type 0} (size : ℕ) (item : List ℕ → X) (spell : X → List ℕ) (Fits : X → Type 0) (width : (x : X) → Fits x → length (spell x) ≡ size) (finds : (x : X) → Fits x → item (spell x) ≡ x) where
  list_found : (xs : List X) (bytes rest : List ℕ) → All Fits xs → bytes ≡ flat_map spell xs ++ rest → records_in size item (length xs) bytes ≡ xs
  list_found xs bytes rest fit e = ap (records_in size item (length xs)) e ∙ found_again size item spell Fits width finds xs rest fit

  rest_found : (xs : List X) (bytes rest : List ℕ) → All Fits xs → bytes ≡ flat_map spell xs ++ rest → drop (size * length xs) bytes ≡ rest
  rest_found xs bytes rest fit e =
      ap (drop (size * length xs)) e ∙ drop_at (flat_map spell xs) rest (size * length xs) (length-spelled size item spell Fits width xs fit)

module _ (t : Contents) (valid : AreValid t) (sixteen : All (λ r. length r.tilde ≡ 16) t.rows) where
  abbrev p6 : List ℕ
  p6 = flat_map (λ x. number_bytes x.number) t.sorted_range

  abbrev p5 : List ℕ
  p5 = flat_map (λ x. number_bytes x.number) t.range_fillers ++ p6

  abbrev p4 : List ℕ
  p4 = flat_map (λ p. numbers_bytes (pair_values p)) t.pairs ++ p5

  abbrev p3 : List ℕ
  p3 = flat_map (λ p. numbers_bytes (pair_values p)) t.fillers ++ p4

  abbrev p2 : List ℕ
  p2 = flat_map (λ r. numbers_bytes (range_row_values r)) t.range ++ p3

  abbrev p1 : List ℕ
  p1 = numbers_bytes (state_values t.last) ++ p2

  abbrev p0 : List ℕ
  p0 = flat_map (λ r. numbers_bytes (row_values r)) t.rows ++ p1

  abbrev r1 : List ℕ
  r1 = drop (264 * length t.rows) p0

  abbrev r2 : List ℕ
  r2 = drop 24 r1

  abbrev r3 : List ℕ
  r3 = drop (32 * length t.range) r2

  abbrev r4 : List ℕ
  r4 = drop (16 * length t.fillers) r3

  abbrev r5 : List ℕ
  r5 = drop (16 * length t.pairs) r4

  abbrev r6 : List ℕ
  r6 = drop (8 * length t.range_fillers) r5

  d1 : r1 ≡ p1
  d1 = rest_found 264 row_of_bytes (λ r. numbers_bytes (row_values r)) (λ r. length r.tilde ≡ 16) row_width row_finds t.rows p0 p1 sixteen refl

  d2 : r2 ≡ p2
  d2 = ap (drop 24) d1 ∙ drop_at (numbers_bytes (state_values t.last)) p2 24 refl

  d3 : r3 ≡ p3
  d3 = rest_found 32 range_row_of_bytes (λ r. numbers_bytes (range_row_values r)) Any (λ r _. refl) (λ r _. range_row_finds r) t.range r2 p3 (all_any t.range) d2

  d4 : r4 ≡ p4
  d4 = rest_found 16 pair_of_bytes (λ p. numbers_bytes (pair_values p)) Any (λ p _. refl) (λ p _. pair_finds p) t.fillers r3 p4 (all_any t.fillers) d3

  d5 : r5 ≡ p5
  d5 = rest_found 16 pair_of_bytes (λ p. numbers_bytes (pair_values p)) Any (λ p _. refl) (λ p _. pair_finds p) t.pairs r4 p5 (all_any t.pairs) d4

  d6 : r6 ≡ p6
  d6 = rest_found 8 value_of_bytes (λ x. number_bytes x.number) Any (λ x _. refl) (λ x _. felt_finds x) t.range_fillers r5 p6 (all_any t.range_fillers) d5

  rows_found : records_in 264 row_of_bytes (length t.rows) p0 ≡ t.rows
  rows_found = list_found 264 row_of_bytes (λ r. numbers_bytes (row_values r)) (λ r. length r.tilde ≡ 16) row_width row_finds t.rows p0 p1 sixteen refl

  last_found : state_of_bytes (take 24 r1) ≡ t.last
  last_found = ap (λ xs. state_of_bytes (take 24 xs)) d1 ∙ (ap state_of_bytes (take_at (numbers_bytes (state_values t.last)) p2 24 refl) ∙ state_finds t.last)

  range_found : records_in 32 range_row_of_bytes (length t.range) r2 ≡ t.range
  range_found = list_found 32 range_row_of_bytes (λ r. numbers_bytes (range_row_values r)) Any (λ r _. refl) (λ r _. range_row_finds r) t.range r2 p3 (all_any t.range) d2

  fillers_found : records_in 16 pair_of_bytes (length t.fillers) r3 ≡ t.fillers
  fillers_found = list_found 16 pair_of_bytes (λ p. numbers_bytes (pair_values p)) Any (λ p _. refl) (λ p _. pair_finds p) t.fillers r3 p4 (all_any t.fillers) d3

  pairs_found : records_in 16 pair_of_bytes (length t.pairs) r4 ≡ t.pairs
  pairs_found = list_found 16 pair_of_bytes (λ p. numbers_bytes (pair_values p)) Any (λ p _. refl) (λ p _. pair_finds p) t.pairs r4 p5 (all_any t.pairs) d4

  range_fillers_found : records_in 8 value_of_bytes (length t.range_fillers) r5 ≡ t.range_fillers
  range_fillers_found = list_found 8 value_of_bytes (λ x. number_bytes x.number) Any (λ x _. refl) (λ x _. felt_finds x) t.range_fillers r5 p6 (all_any t.range_fillers) d5

  sorted_range_found : records_in 8 value_of_bytes (3 * length t.rows + 3 * length t.range + length t.range_fillers) r6 ≡ t.sorted_range
  sorted_range_found =
      ap (λ n. records_in 8 value_of_bytes n r6) (sym valid.sorted_range_count)
      ∙ list_found 8 value_of_bytes (λ x. number_bytes x.number) Any (λ x _. refl) (λ x _. felt_finds x) t.sorted_range r6 [] (all_any t.sorted_range) (d6 ∙ sym (append-nil p6))

  lists_found : lists_in (length t.rows) (length t.range) (length t.fillers) (length t.pairs) (length t.range_fillers) (lists_bytes t) ≡ t
  unfolding lists_in lists_bytes
  lists_found = λ i. record {
    rows = rows_found i;
    last = last_found i;
    range = range_found i;
    fillers = fillers_found i;
    pairs = pairs_found i;
    range_fillers = range_fillers_found i;
    sorted_range = sorted_range_found i;
  }

  abbrev values_length : ℕ
  values_length = value_count (length t.rows) (length t.range) (length t.fillers) (length t.pairs) (length t.range_fillers)

  length-lists_bytes : length (lists_bytes t) ≡ 8 * values_length
  unfolding lists_bytes
  length-lists_bytes =
      let rows = length-spelled 264 row_of_bytes (λ r. numbers_bytes (row_values r)) (λ r. length r.tilde ≡ 16) row_width t.rows sixteen in
      let range = length-spelled 32 range_row_of_bytes (λ r. numbers_bytes (range_row_values r)) Any (λ r _. refl) t.range (all_any t.range) in
      let fillers = length-spelled 16 pair_of_bytes (λ p. numbers_bytes (pair_values p)) Any (λ p _. refl) t.fillers (all_any t.fillers) in
      let pairs = length-spelled 16 pair_of_bytes (λ p. numbers_bytes (pair_values p)) Any (λ p _. refl) t.pairs (all_any t.pairs) in
      let range_fillers = length-spelled 8 value_of_bytes (λ x. number_bytes x.number) Any (λ x _. refl) t.range_fillers (all_any t.range_fillers) in
      let sorted_range = length-spelled 8 value_of_bytes (λ x. number_bytes x.number) Any (λ x _. refl) t.sorted_range (all_any t.sorted_range) in
      let a0 = length-append (flat_map (λ (r : Row). numbers_bytes (row_values r)) t.rows) p1 in
      let a1 = length-append (numbers_bytes (state_values t.last)) p2 in
      let a2 = length-append (flat_map (λ (r : RangeRow). numbers_bytes (range_row_values r)) t.range) p3 in
      let a3 = length-append (flat_map (λ (p : Pair). numbers_bytes (pair_values p)) t.fillers) p4 in
      let a4 = length-append (flat_map (λ (p : Pair). numbers_bytes (pair_values p)) t.pairs) p5 in
      let a5 = length-append (flat_map (λ (x : Felt). number_bytes x.number) t.range_fillers) p6 in
      let last : length (numbers_bytes (state_values t.last)) ≡ 24 = refl in
      let sorted_count = valid.sorted_range_count in
      a0 ∙ omega arith

  -- ---- the head of bytes that spell the tables

  counts_small : All (λ n. n < 2 ^ 64) (counts t)
  counts_small =
      let P : ℕ → Type 0 = λ n. n < 2 ^ 64 in
      let s4 = length t.range_fillers ∷ [] in
      let s3 = length t.pairs ∷ s4 in
      let s2 = length t.fillers ∷ s3 in
      let s1 = length t.range ∷ s2 in
      All-cons P (length t.rows) s1 (omega (arith, valid.row_count))
      (All-cons P (length t.range) s2 (omega (arith, valid.range_row_count))
      (All-cons P (length t.fillers) s3 (omega (arith, valid.filler_count))
      (All-cons P (length t.pairs) s4 (omega (arith, valid.pair_count))
      (All-cons P (length t.range_fillers) [] (omega (arith, valid.range_filler_count)) (All-nil P)))))

  after_text : drop 8 (spelling t) ≡ numbers_bytes (counts t) ++ numbers_bytes (all_values t)
  unfolding spelling
  after_text = refl

  counts_found : count_in (spelling t) 0 ∷ count_in (spelling t) 1 ∷ count_in (spelling t) 2 ∷ count_in (spelling t) 3 ∷ count_in (spelling t) 4 ∷ [] ≡ counts t
  counts_found =
      sym (counts_listed (spelling t))
      ∙ list_found 8 (from_le_bytes w64) number_bytes (λ n. n < 2 ^ 64) (λ n _. refl) (λ n small. from_le_bytes-to_le_bytes_8 n small) (counts t) (drop 8 (spelling t)) (numbers_bytes (all_values t)) counts_small after_text

  values_behind : drop 48 (spelling t) ≡ numbers_bytes (all_values t)
  values_behind =
      sym (drop-drop 40 8 (spelling t)) ∙ (ap (drop 40) after_text ∙ drop_at (numbers_bytes (counts t)) (numbers_bytes (all_values t)) 40 refl)

  pub read_again : tables_in (spelling t) ≡ t
  unfolding tables_in
  read_again =
      let e = counts_found in
      let c0 : count_in (spelling t) 0 ≡ length t.rows = cc in
      let c1 : count_in (spelling t) 1 ≡ length t.range = cc in
      let c2 : count_in (spelling t) 2 ≡ length t.fillers = cc in
      let c3 : count_in (spelling t) 3 ≡ length t.pairs = cc in
      let c4 : count_in (spelling t) 4 ≡ length t.range_fillers = cc in
      let b : drop 48 (spelling t) ≡ lists_bytes t = values_behind ∙ numbers_bytes-all_values t in
      ap (λ n. lists_in n (count_in (spelling t) 1) (count_in (spelling t) 2) (count_in (spelling t) 3) (count_in (spelling t) 4) (drop 48 (spelling t))) c0
      ∙ (ap (λ n. lists_in (length t.rows) n (count_in (spelling t) 2) (count_in (spelling t) 3) (count_in (spelling t) 4) (drop 48 (spelling t))) c1
      ∙ (ap (λ n. lists_in (length t.rows) (length t.range) n (count_in (spelling t) 3) (count_in (spelling t) 4) (drop 48 (spelling t))) c2
      ∙ (ap (λ n. lists_in (length t.rows) (length t.range) (length t.fillers) n (count_in (spelling t) 4) (drop 48 (spelling t))) c3
      ∙ (ap (λ n. lists_in (length t.rows) (length t.range) (length t.fillers) (length t.pairs) n (drop 48 (spelling t))) c4
      ∙ (ap (λ bytes. lists_in (length t.rows) (length t.range) (length t.fillers) (length t.pairs) (length t.range_fillers) bytes) b
      ∙ lists_found)))))

  opened : spelling t ≡ magic ++ (numbers_bytes (counts t) ++ numbers_bytes (all_values t))
  unfolding spelling
  opened = refl

  length-spelling : length (spelling t) ≡ 48 + 8 * values_length
  length-spelling =
      ap length opened ∙ omega (arith, length-append (numbers_bytes (counts t)) (numbers_bytes (all_values t)), ap length (numbers_bytes-all_values t), length-lists_bytes)

  file_end_found : file_end (spelling t) ≡ length (spelling t)
  unfolding file_end
  file_end_found =
      let e = counts_found in
      let c0 : count_in (spelling t) 0 ≡ length t.rows = cc in
      let c1 : count_in (spelling t) 1 ≡ length t.range = cc in
      let c2 : count_in (spelling t) 2 ≡ length t.fillers = cc in
      let c3 : count_in (spelling t) 3 ≡ length t.pairs = cc in
      let c4 : count_in (spelling t) 4 ≡ length t.range_fillers = cc in
      let long = length-spelling in
      omega arith

  text_found : HasText (spelling t)
  unfolding spelling
  text_found = λ i small inside. get_or_append_left magic (numbers_bytes (counts t) ++ numbers_bytes (all_values t)) 0 i small

  low_found : (k : ℕ) → k < 5 → count_in (spelling t) k ≤ slice_index count_limits k
  low_found zero few = let e = counts_found in let c : count_in (spelling t) 0 ≡ length t.rows = cc in omega (arith, valid.row_count)
  low_found (suc zero) few = let e = counts_found in let c : count_in (spelling t) 1 ≡ length t.range = cc in omega (arith, valid.range_row_count)
  low_found (suc (suc zero)) few = let e = counts_found in let c : count_in (spelling t) 2 ≡ length t.fillers = cc in omega (arith, valid.filler_count)
  low_found (suc (suc (suc zero))) few = let e = counts_found in let c : count_in (spelling t) 3 ≡ length t.pairs = cc in omega (arith, valid.pair_count)
  low_found (suc (suc (suc (suc zero)))) few = let e = counts_found in let c : count_in (spelling t) 4 ≡ length t.range_fillers = cc in omega (arith, valid.range_filler_count)
  low_found (suc (suc (suc (suc (suc k))))) few = absurd (omega arith)

  values_low : HasLowValues (spelling t) (length (spelling t))
  values_low = λ k whole.
      let long = length-spelling in
      let count : length (all_values t) ≡ values_length =
      omega (arith, length-numbers_bytes (all_values t), ap length (numbers_bytes-all_values t), length-lists_bytes) in
      let inside : k < length (all_values t) = omega arith in
      let here : number_at (spelling t) (48 + 8 * k) ≡ get_or (all_values t) k 0 =
      sym (number_at-drop 48 (8 * k) (spelling t)) ∙ (ap (λ bytes. number_at bytes (8 * k)) values_behind ∙ number_found (all_values t) (all_low t) k inside) in
      subst (λ n. n < prime) (sym here) (all_low t k 0 inside)

  no_fault_in : (place : ℕ) (f : TableFault) → HasFault (spelling t) place f → ⊥
  no_fault_in place f has =
      let bytes = spelling t in
      let ends = file_end_found in
      let clean : IsClean bytes (length bytes) = record {
        inside = omega arith;
        in_file = omega arith;
        text = text_found;
        counts = λ k few below whole. low_found k few;
        values = λ k below whole. values_low k whole;
      } in
      none_behind bytes place f ends (fault_behind bytes (length bytes) clean place f has) has

pub SpellsTables-reads : (bytes : List ℕ) (t : Contents) → SpellsTables bytes t → tables_in bytes ≡ t
SpellsTables-reads bytes t spells = ap tables_in spells.parts ∙ read_again t spells.valid spells.sixteen

-- bytes spell one tables at most
pub spelled_once : (bytes : List ℕ) (t u : Contents) → SpellsTables bytes t → SpellsTables bytes u → t ≡ u
spelled_once bytes t u one other = sym (SpellsTables-reads bytes t one) ∙ SpellsTables-reads bytes u other

-- bytes that spell tables have no fault
pub no_fault : (bytes : List ℕ) (t : Contents) → SpellsTables bytes t → (place : ℕ) (f : TableFault) → HasFault bytes place f → ⊥
no_fault bytes t spells place f has =
    no_fault_in t spells.valid spells.sixteen place f (subst (λ xs. HasFault xs place f) spells.parts has)
