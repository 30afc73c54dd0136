-- What is written, list after list, is the spelling of the tables.
use Rattle.std.proofs.Common.{◌≡◌, List, ℕ, ◌++◌, [], sym, ap, ◌∙◌, append_assoc}
use Rattle.std.specs.List.{flat_map}
use Rattle.goldilocks.specs.declared.Felt.{Felt}
use Rattle.goldilocks.specs.declared.Pair.{Pair}
use Rattle.cpu_rows.specs.declared.Row.{Row}
use Rattle.range_columns.specs.declared.RangeRow.{RangeRow}
use Rattle.table_file.specs.Tables.{Contents}
use Rattle.file_records.specs.Numbers.{numbers_bytes, number_bytes}
use Rattle.table_file.specs.Spelling.{magic, counts, all_values, spelling}
use Rattle.file_records.specs.Records.{row_values, state_values, range_row_values, pair_values}
use Rattle.table_file.proofs.WholeFiles.{lists_bytes, numbers_bytes-all_values}

-- a list that is written behind what stands there
pub behind : {X : Type 0} (spell : X → List ℕ) (before now : List ℕ) (xs ys : List X) → now ≡ before ++ flat_map spell xs → xs ≡ ys → now ≡ before ++ flat_map spell ys
behind spell before now xs ys e same = e ∙ ap (λ zs. before ++ flat_map spell zs) same

-- seven parts, each behind those before it
pub seven_parts : (o0 o1 o2 o3 o4 o5 o6 o7 a b c d e f g : List ℕ) → o1 ≡ o0 ++ a → o2 ≡ o1 ++ b → o3 ≡ o2 ++ c → o4 ≡ o3 ++ d → o5 ≡ o4 ++ e → o6 ≡ o5 ++ f → o7 ≡ o6 ++ g → o7 ≡ o0 ++ (a ++ (b ++ (c ++ (d ++ (e ++ (f ++ g))))))
seven_parts o0 o1 o2 o3 o4 o5 o6 o7 a b c d e f g e1 e2 e3 e4 e5 e6 e7 =
    rw (e7, e6, e5, e4, e3, e2, e1) (simp append_assoc)

pub lists_written : (t : Contents) (o0 o1 o2 o3 o4 o5 o6 o7 : List ℕ) (rows : List Row) (range : List RangeRow) (fillers pairs : List Pair) (range_fillers sorted_range : List Felt) →
    o1 ≡ o0 ++ flat_map (λ r. numbers_bytes (row_values r)) rows → rows ≡ t.rows →
    o2 ≡ o1 ++ numbers_bytes (state_values t.last) →
    o3 ≡ o2 ++ flat_map (λ r. numbers_bytes (range_row_values r)) range → range ≡ t.range →
    o4 ≡ o3 ++ flat_map (λ p. numbers_bytes (pair_values p)) fillers → fillers ≡ t.fillers →
    o5 ≡ o4 ++ flat_map (λ p. numbers_bytes (pair_values p)) pairs → pairs ≡ t.pairs →
    o6 ≡ o5 ++ flat_map (λ x. number_bytes x.number) range_fillers → range_fillers ≡ t.range_fillers →
    o7 ≡ o6 ++ flat_map (λ x. number_bytes x.number) sorted_range → sorted_range ≡ t.sorted_range →
    o7 ≡ o0 ++ numbers_bytes (all_values t)
unfolding lists_bytes
lists_written t o0 o1 o2 o3 o4 o5 o6 o7 rows range fillers pairs range_fillers sorted_range e1 s1 e2 e3 s3 e4 s4 e5 s5 e6 s6 e7 s7 =
    seven_parts o0 o1 o2 o3 o4 o5 o6 o7 _ _ _ _ _ _ _
    (behind (λ r. numbers_bytes (row_values r)) o0 o1 rows t.rows e1 s1) e2
    (behind (λ r. numbers_bytes (range_row_values r)) o2 o3 range t.range e3 s3)
    (behind (λ p. numbers_bytes (pair_values p)) o3 o4 fillers t.fillers e4 s4)
    (behind (λ p. numbers_bytes (pair_values p)) o4 o5 pairs t.pairs e5 s5)
    (behind (λ x. number_bytes x.number) o5 o6 range_fillers t.range_fillers e6 s6)
    (behind (λ x. number_bytes x.number) o6 o7 sorted_range t.sorted_range e7 s7)
    ∙ ap (λ xs. o0 ++ xs) (sym (numbers_bytes-all_values t))

-- the text, the counts and the lists are the spelling
pub file_written : (t : Contents) (o0 o1 o2 o3 counted : List ℕ) → o0 ≡ [] → o1 ≡ o0 ++ magic → o2 ≡ o1 ++ numbers_bytes counted → counted ≡ counts t → o3 ≡ o2 ++ numbers_bytes (all_values t) → o3 ≡ spelling t
unfolding spelling
file_written t o0 o1 o2 o3 counted e0 e1 e2 same e3 =
    rw (e3, e2, same, e1, e0) (append_assoc magic (numbers_bytes (counts t)) (numbers_bytes (all_values t)))
