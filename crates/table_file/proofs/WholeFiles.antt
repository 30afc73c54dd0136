-- A whole file with low values spells the tables that are read of it.
use Rattle.std.proofs.Common.{◌≡◌, ℕ, zero, suc, ◌+◌, ◌*◌, ◌<◌, ◌≤◌, List, [], ◌∷◌, ◌++◌, length, take, drop, refl, sym, ap, ◌∙◌, subst, lit<, arith}
use Rattle.std.proofs.lemmas.List.{drop-drop, length-drop, length-take-le, take-append-drop, take_all, get_or-take, ext_get_or}
use Rattle.std.proofs.lemmas.List.Concat.{flat_map-append}
use Rattle.std.specs.Prelude.{slice_index}
use Rattle.std.specs.Int.{w64, from_le_bytes}
use Rattle.std.specs.List.{flat_map}
use Rattle.std.proofs.lemmas.Nat.{le_bytes_8}
use Rattle.goldilocks.specs.Field.{prime}
use Rattle.goldilocks.specs.Felts.{numbers}
use Rattle.table_file.specs.declared.head.Counts.{Counts}
use Rattle.table_file.specs.Tables.{Contents}
use Rattle.file_records.specs.Numbers.{numbers_bytes, number_bytes}
use Rattle.table_file.specs.Spelling.{magic, counts, all_values, spelling, SpellsTables}
use Rattle.table_file.specs.Faults.{count_in, count_limits, value_count, value_place, file_end}
use Rattle.table_file.specs.Reading.{lists_in}
use Rattle.file_records.specs.Records.{records_in, value_of_bytes, row_of_bytes, state_of_bytes, range_row_of_bytes, pair_of_bytes, row_values, state_values, range_row_values, pair_values}
use Rattle.table_file.specs.Parts.{IsHead, AreLow, values_by, IsWholeFile}
use Rattle.file_records.proofs.RecordLists.{length-records_in, All-records_in, flat_map-flat_map, flat_map-map}
use Rattle.file_records.proofs.GoodBytes.{IsBytes, IsBytes-drop, IsGood, IsGood-fewer, good_back, good_front, spelled_back, number_at-drop, felt_reads}
use Rattle.file_records.proofs.Spelled.{row_reads, state_reads, range_row_reads, pair_reads, sixteen_tilde}

-- all values as bytes, list after list
unfoldable pub lists_bytes : Contents → List ℕ
lists_bytes t =
    flat_map (λ r. numbers_bytes (row_values r)) t.rows
    ++ (numbers_bytes (state_values t.last)
    ++ (flat_map (λ r. numbers_bytes (range_row_values r)) t.range
    ++ (flat_map (λ p. numbers_bytes (pair_values p)) t.fillers
    ++ (flat_map (λ p. numbers_bytes (pair_values p)) t.pairs
    ++ (flat_map (λ x. number_bytes x.number) t.range_fillers
    ++ flat_map (λ x. number_bytes x.number) t.sorted_range)))))

pub numbers_bytes-all_values : (t : Contents) → numbers_bytes (all_values t) ≡ lists_bytes t
unfolding all_values lists_bytes
numbers_bytes-all_values t =
    rw (
      flat_map-append,
      flat_map-flat_map number_bytes row_values t.rows,
      flat_map-append number_bytes (state_values t.last),
      flat_map-append,
      flat_map-flat_map number_bytes range_row_values t.range,
      flat_map-append,
      flat_map-flat_map number_bytes pair_values t.fillers,
      flat_map-append,
      flat_map-flat_map number_bytes pair_values t.pairs,
      flat_map-append,
      flat_map-map number_bytes (λ x. x.number) t.range_fillers,
      flat_map-map number_bytes (λ x. x.number) t.sorted_range,
    ) refl

-- so many items and what is behind them
module _ {X : Type 0} (m size : ℕ) (item : List ℕ → X) (spell : X → List ℕ) (eight : size ≡ 8 * m) (reads : (chunk : List ℕ) → length chunk ≡ size → IsGood m chunk → spell (item chunk) ≡ chunk) where
  list_and_rest : (n v : ℕ) (bytes back : List ℕ) → size * n ≤ length bytes → IsGood (m * n + v) bytes → back ≡ drop (size * n) bytes → flat_map spell (records_in size item n bytes) ++ back ≡ bytes
  list_and_rest n v bytes back fits good e =
      let numbers : size * n ≡ 8 * (m * n) = rw eight (omega arith) in
      let front : IsGood (m * n) bytes = record { are_bytes = good.are_bytes; low = λ k inside. good.low k (omega arith) } in
      rw (spelled_back m size item spell eight reads n bytes fits front, e) (take-append-drop (size * n) bytes)

good_rest : (size m n v : ℕ) (bytes : List ℕ) → size * n ≡ 8 * (m * n) → IsGood (m * n + v) bytes → IsGood v (drop (size * n) bytes)
good_rest size m n v bytes numbers good = rw numbers (good_back (m * n) v bytes good)

module _ (a b c d e : ℕ) (bytes : List ℕ) (whole : length bytes ≡ 8 * value_count a b c d e) (good : IsGood (value_count a b c d e) bytes) where
  abbrev s : ℕ
  s = 3 * a + 3 * b + e

  abbrev r1 : List ℕ
  r1 = drop (264 * a) bytes

  abbrev r2 : List ℕ
  r2 = drop 24 r1

  abbrev r3 : List ℕ
  r3 = drop (32 * b) r2

  abbrev r4 : List ℕ
  r4 = drop (16 * c) r3

  abbrev r5 : List ℕ
  r5 = drop (16 * d) r4

  abbrev r6 : List ℕ
  r6 = drop (8 * e) r5

  l1 : length r1 ≡ 8 * (3 + (4 * b + (2 * c + (2 * d + (e + s)))))
  l1 = length-drop (264 * a) bytes ∙ omega arith

  l2 : length r2 ≡ 8 * (4 * b + (2 * c + (2 * d + (e + s))))
  l2 = length-drop 24 r1 ∙ omega (arith, l1)

  l3 : length r3 ≡ 8 * (2 * c + (2 * d + (e + s)))
  l3 = length-drop (32 * b) r2 ∙ omega (arith, l2)

  l4 : length r4 ≡ 8 * (2 * d + (e + s))
  l4 = length-drop (16 * c) r3 ∙ omega (arith, l3)

  l5 : length r5 ≡ 8 * (e + s)
  l5 = length-drop (16 * d) r4 ∙ omega (arith, l4)

  l6 : length r6 ≡ 8 * s
  l6 = length-drop (8 * e) r5 ∙ omega (arith, l5)

  g0 : IsGood (33 * a + (3 + (4 * b + (2 * c + (2 * d + (e + s)))))) bytes
  g0 = IsGood-fewer (value_count a b c d e) _ bytes (omega arith) good

  g1 : IsGood (3 + (4 * b + (2 * c + (2 * d + (e + s))))) r1
  g1 = good_rest 264 33 a _ bytes (omega arith) g0

  g2 : IsGood (4 * b + (2 * c + (2 * d + (e + s)))) r2
  g2 = good_back 3 _ r1 g1

  g3 : IsGood (2 * c + (2 * d + (e + s))) r3
  g3 = good_rest 32 4 b _ r2 (omega arith) g2

  g4 : IsGood (2 * d + (e + s)) r4
  g4 = good_rest 16 2 c _ r3 (omega arith) g3

  g5 : IsGood (e + s) r5
  g5 = good_rest 16 2 d _ r4 (omega arith) g4

  g6 : IsGood s r6
  g6 = good_back e s r5 g5

  -- the lists that are read spell the bytes
  pub lists_back : lists_bytes (lists_in a b c d e bytes) ≡ bytes
  unfolding lists_bytes lists_in
  lists_back =
      let last_list : flat_map (λ x. number_bytes x.number) (records_in 8 value_of_bytes s r6) ≡ r6 =
      spelled_back 1 8 value_of_bytes (λ x. number_bytes x.number) refl felt_reads s r6 (omega (arith, l6)) (IsGood-fewer s (1 * s) r6 (omega arith) g6)
      ∙ take_all (8 * s) r6 (omega (arith, l6)) in
      let fillers = list_and_rest 1 8 value_of_bytes (λ x. number_bytes x.number) refl felt_reads e s r5 r6 (omega (arith, l5)) (IsGood-fewer (e + s) (1 * e + s) r5 (omega arith) g5) refl in
      let pairs = list_and_rest 2 16 pair_of_bytes (λ p. numbers_bytes (pair_values p)) refl pair_reads d (e + s) r4 r5 (omega (arith, l4)) g4 refl in
      let cells = list_and_rest 2 16 pair_of_bytes (λ p. numbers_bytes (pair_values p)) refl pair_reads c (2 * d + (e + s)) r3 r4 (omega (arith, l3)) g3 refl in
      let range = list_and_rest 4 32 range_row_of_bytes (λ r. numbers_bytes (range_row_values r)) refl range_row_reads b (2 * c + (2 * d + (e + s))) r2 r3 (omega (arith, l2)) g2 refl in
      let front : IsGood 3 (take 24 r1) = good_front 3 (4 * b + (2 * c + (2 * d + (e + s)))) r1 g1 in
      let last : numbers_bytes (state_values (state_of_bytes (take 24 r1))) ++ r2 ≡ r1 =
      ap (λ xs. xs ++ r2) (state_reads (take 24 r1) (length-take-le 24 r1 (omega (arith, l1))) front) ∙ take-append-drop 24 r1 in
      let rows = list_and_rest 33 264 row_of_bytes (λ r. numbers_bytes (row_values r)) refl row_reads a (3 + (4 * b + (2 * c + (2 * d + (e + s))))) bytes r1 (omega arith) g0 refl in
      rw (last_list, fillers, pairs, cells, range, last, rows) refl

-- ---- the head

-- the five counts as they stand behind the text
pub counts_listed : (bytes : List ℕ) → records_in 8 (from_le_bytes w64) 5 (drop 8 bytes) ≡ count_in bytes 0 ∷ count_in bytes 1 ∷ count_in bytes 2 ∷ count_in bytes 3 ∷ count_in bytes 4 ∷ []
unfolding records_in
counts_listed bytes =
    rw (drop-drop 8 8 bytes, drop-drop 8 16 bytes, drop-drop 8 24 bytes, drop-drop 8 32 bytes) refl

pub limits_low : (k : ℕ) → slice_index count_limits k < prime
limits_low zero = lit< tt
limits_low (suc zero) = lit< tt
limits_low (suc (suc zero)) = lit< tt
limits_low (suc (suc (suc zero))) = lit< tt
limits_low (suc (suc (suc (suc zero)))) = lit< tt
limits_low (suc (suc (suc (suc (suc k))))) = lit< tt

-- the counts of a head are low
pub low_counts : (bytes : List ℕ) (c : Counts) → IsHead bytes c → AreLow c
low_counts bytes c head = record {
  rows = omega (arith, head.rows, head.has_counts.low 0 (omega arith));
  range = omega (arith, head.range, head.has_counts.low 1 (omega arith));
  fillers = omega (arith, head.fillers, head.has_counts.low 2 (omega arith));
  pairs = omega (arith, head.pairs, head.has_counts.low 3 (omega arith));
  range_fillers = omega (arith, head.range_fillers, head.has_counts.low 4 (omega arith));
}

-- where the file of a head ends
pub end_of_head : (bytes : List ℕ) (c : Counts) → IsHead bytes c → value_place (values_by c) ≡ file_end bytes
unfolding file_end
end_of_head bytes c head =
    omega (arith, head.rows, head.range, head.fillers, head.pairs, head.range_fillers)

module _ (bytes : List ℕ) (c : Counts) (are_bytes : IsBytes bytes) (file : IsWholeFile bytes c) where
  abbrev t : Contents
  t = lists_in c.rows c.range c.fillers c.pairs c.range_fillers (drop 48 bytes)

  long : length bytes ≡ 48 + 8 * values_by c
  long = file.ends ∙ sym (end_of_head bytes c file.head)

  text : take 8 bytes ≡ magic
  text =
      ext_get_or 0 (take 8 bytes) magic (length-take-le 8 bytes (omega (arith, long)))
      (λ i inside.
      let small : i < 8 = omega (arith, inside, length-take-le 8 bytes (omega (arith, long))) in
      get_or-take 8 bytes i 0 small ∙ file.text i small (omega (arith, long)))

  counts_good : IsGood 5 (drop 8 bytes)
  counts_good = record {
    are_bytes = IsBytes-drop 8 bytes are_bytes;
    low = λ k few. subst (λ n. n < prime) (sym (number_at-drop 8 (8 * k) bytes)) (omega (arith, file.head.has_counts.low k few, limits_low k));
  }

  five : numbers_bytes (count_in bytes 0 ∷ count_in bytes 1 ∷ count_in bytes 2 ∷ count_in bytes 3 ∷ count_in bytes 4 ∷ []) ≡ take 40 (drop 8 bytes)
  five =
      ap numbers_bytes (sym (counts_listed bytes))
      ∙ spelled_back 1 8 (from_le_bytes w64) number_bytes refl (λ chunk eight good. le_bytes_8 chunk (from_le_bytes w64 chunk) eight good.are_bytes refl) 5 (drop 8 bytes) (omega (arith, length-drop 8 bytes, long)) counts_good

  counts_are : counts t ≡ count_in bytes 0 ∷ count_in bytes 1 ∷ count_in bytes 2 ∷ count_in bytes 3 ∷ count_in bytes 4 ∷ []
  unfolding lists_in
  counts_are =
      let h = file.head in
      rw (length-records_in, length-records_in, length-records_in, length-records_in, length-records_in, h.rows, h.range, h.fillers, h.pairs, h.range_fillers) refl

  values_good : IsGood (values_by c) (drop 48 bytes)
  values_good = record {
    are_bytes = IsBytes-drop 48 bytes are_bytes;
    low = λ k inside. subst (λ n. n < prime) (sym (number_at-drop 48 (8 * k) bytes)) (file.low k (omega (arith, long)));
  }

  spelled : bytes ≡ spelling t
  unfolding spelling
  spelled =
      let values : numbers_bytes (all_values t) ≡ drop 48 bytes =
      numbers_bytes-all_values t ∙ lists_back c.rows c.range c.fillers c.pairs c.range_fillers (drop 48 bytes) (omega (arith, length-drop 48 bytes, long)) values_good in
      let behind : drop 40 (drop 8 bytes) ≡ drop 48 bytes = drop-drop 40 8 bytes in
      let head : numbers_bytes (counts t) ≡ take 40 (drop 8 bytes) = ap numbers_bytes counts_are ∙ five in
      let after_text : numbers_bytes (counts t) ++ numbers_bytes (all_values t) ≡ drop 8 bytes =
      ap (λ xs. xs ++ numbers_bytes (all_values t)) head
      ∙ (ap (λ xs. take 40 (drop 8 bytes) ++ xs) (values ∙ sym behind) ∙ take-append-drop 40 (drop 8 bytes)) in
      sym (ap (λ xs. magic ++ xs) after_text ∙ (ap (λ xs. xs ++ drop 8 bytes) (sym text) ∙ take-append-drop 8 bytes))

  pub file_spells : SpellsTables bytes t
  unfolding lists_in
  file_spells =
      let low = low_counts bytes c file.head in
      record {
        parts = spelled;
        valid = record {
          row_count = omega (arith, length-records_in 264 row_of_bytes c.rows (drop 48 bytes), low.rows);
          range_row_count = omega (arith, length-records_in 32 range_row_of_bytes c.range (drop 24 (drop (264 * c.rows) (drop 48 bytes))), low.range);
          filler_count = rw length-records_in low.fillers;
          pair_count = rw length-records_in low.pairs;
          range_filler_count = rw length-records_in low.range_fillers;
          sorted_range_count = rw (length-records_in, length-records_in, length-records_in, length-records_in) refl;
        };
        sixteen = All-records_in 264 row_of_bytes (λ r. length r.tilde ≡ 16) sixteen_tilde c.rows (drop 48 bytes);
      }
