-- The memory that columns keep: its cells are theirs, and writing into a column is writing into it.
use Rattle.std.proofs.Common.{◌≡◌, ◌≢◌, ℕ, zero, suc, ◌+◌, ◌-◌, ◌<◌, ◌≤◌, max, ◌&&◌, true, false, cond, nat_eq, nat_lt, List, [], ◌∷◌, ◌++◌, map, length, get_or, Option, Some, None, refl, sym, ◌∙◌, ap, subst, arith, zero-add, add-zero, length-append, append-nil}
use Rattle.std.specs.Prelude.{slice_set, replicate}
use Rattle.std.specs.Ordering.{eq_by_cmp}
use Rattle.std.specs.FinMap.{from_entries, get-from_entries}
use Rattle.std.specs.FinMap.Entries.{find}
use Rattle.std.proofs.lemmas.Bool.Decides.{nat_tests}
use Rattle.std.proofs.lemmas.List.{map-append, map-set, get_or-set_same, get_or-set_other, length-set, length-map}
use Rattle.std.proofs.Math.ListN.{get_or-map, length-replicate}
use Rattle.std.specs.List.{enumerate_from}
use Rattle.goldilocks.specs.declared.Felt.{Felt}
use Rattle.segments.specs.declared.Place.{Place}
use Rattle.segments.specs.declared.Value.{Value}
use Rattle.segments.specs.declared.Value.TheVariants.{Num}
use Rattle.segments.specs.Values.{place_cmp, place}
use Rattle.segments.specs.Memory.{RunMemory, cell, size, with_segment, sizes_with, with_cell, program_memory}
use Rattle.segments.specs.Columns.{with_value, word_value, column_entries, entries, kept_memory}
use Rattle.segments.proofs.Places.{place_cmp_total, place_test, cell-with_cell, place_same, place_other_segment, place_other_offset, same_memory}

-- a column: values at the offsets of a segment
abbrev pub Cells : Type 0
Cells = List (Option Value)

-- what the columns have at a place
abbrev pub value_at : List Cells → Place → Option Value
value_at columns p = get_or (get_or columns p.seg []) p.off None

-- an entry that is passed over
passed_over : (q p : Place) (v : Value) (es : List (Place × Value)) → eq_by_cmp place_cmp q p ≡ false → find place_cmp q ((p, v) ∷ es) ≡ find place_cmp q es
passed_over q p v es e = ap (λ b. cond b (Some v) (find place_cmp q es)) e

-- a column has no entry of another segment
find-other : (q : Place) (seg off : ℕ) (column : Cells) (rest : List (Place × Value)) → q.seg ≢ seg → find place_cmp q (column_entries seg off column ++ rest) ≡ find place_cmp q rest
find-other q seg off [] rest apart = refl
find-other q seg off (None ∷ column) rest apart = find-other q seg (off + 1) column rest apart
find-other q seg off (Some v ∷ column) rest apart =
    passed_over q (place seg off) v (column_entries seg (off + 1) column ++ rest) (place_other_segment q (place seg off) apart)
    ∙ find-other q seg (off + 1) column rest apart

-- nor one before the offset that it begins at
find-before : (seg off j : ℕ) (column : Cells) (rest : List (Place × Value)) → j < off → find place_cmp (place seg j) (column_entries seg off column ++ rest) ≡ find place_cmp (place seg j) rest
find-before seg off j [] rest before = refl
find-before seg off j (None ∷ column) rest before = find-before seg (off + 1) j column rest (omega arith)
find-before seg off j (Some v ∷ column) rest before =
    let apart : j ≢ off = λ e. omega arith in
    passed_over (place seg j) (place seg off) v (column_entries seg (off + 1) column ++ rest) (place_other_offset (place seg j) (place seg off) apart)
    ∙ find-before seg (off + 1) j column rest (omega arith)

-- what is found of its own segment is what it has there
find-here : (seg off k : ℕ) (column : Cells) (rest : List (Place × Value)) → find place_cmp (place seg (off + k)) rest ≡ None → find place_cmp (place seg (off + k)) (column_entries seg off column ++ rest) ≡ get_or column k None
find-here seg off k [] rest none = none
find-here seg off zero (None ∷ column) rest none =
    find-before seg (off + 1) (off + 0) column rest (omega arith) ∙ none
find-here seg off zero (Some v ∷ column) rest none =
    let same : eq_by_cmp place_cmp (place seg (off + 0)) (place seg off) ≡ true =
    ap (λ j. eq_by_cmp place_cmp (place seg j) (place seg off)) (add-zero off) ∙ place_same (place seg off) in
    ap (λ b. cond b (Some v) (find place_cmp (place seg (off + 0)) (column_entries seg (off + 1) column ++ rest))) same
find-here seg off (suc k) (x ∷ column) rest none =
    let shifted : off + suc k ≡ (off + 1) + k = omega arith in
    let none' : find place_cmp (place seg ((off + 1) + k)) rest ≡ None = subst (λ (j : ℕ). find place_cmp (place seg j) rest ≡ None) shifted none in
    let tail : find place_cmp (place seg (off + suc k)) (column_entries seg (off + 1) column ++ rest) ≡ get_or column k None =
    subst (λ (j : ℕ). find place_cmp (place seg j) (column_entries seg (off + 1) column ++ rest) ≡ get_or column k None) (sym shifted) (find-here seg (off + 1) k column rest none') in
    elim x as (λ o. find place_cmp (place seg (off + suc k)) (column_entries seg off (o ∷ column) ++ rest) ≡ get_or column k None) [
      | None ↦ tail
      | Some v ↦
          let apart : off + suc k ≢ off = λ e. omega arith in
          passed_over (place seg (off + suc k)) (place seg off) v (column_entries seg (off + 1) column ++ rest) (place_other_offset (place seg (off + suc k)) (place seg off) apart)
          ∙ tail
    ]

-- segments from one on have no entry of an earlier one
find-earlier : (q : Place) (seg : ℕ) (columns : List Cells) → q.seg < seg → find place_cmp q (entries seg columns) ≡ None
find-earlier q seg [] earlier = refl
find-earlier q seg (column ∷ columns) earlier =
    let apart : q.seg ≢ seg = λ e. omega arith in
    find-other q seg 0 column (entries (seg + 1) columns) apart ∙ find-earlier q (seg + 1) columns (omega arith)

-- what is found is what the columns have there
find-entries : (seg i j : ℕ) (columns : List Cells) → find place_cmp (place (seg + i) j) (entries seg columns) ≡ get_or (get_or columns i []) j None
find-entries seg i j [] = refl
find-entries seg zero j (column ∷ columns) =
    let rest = entries (seg + 1) columns in
    let none : find place_cmp (place seg (0 + j)) rest ≡ None = find-earlier (place seg (0 + j)) (seg + 1) columns (omega arith) in
    let here : find place_cmp (place seg (0 + j)) (column_entries seg 0 column ++ rest) ≡ get_or column j None = find-here seg 0 j column rest none in
    let at : find place_cmp (place seg j) (column_entries seg 0 column ++ rest) ≡ get_or column j None =
    subst (λ (k : ℕ). find place_cmp (place seg k) (column_entries seg 0 column ++ rest) ≡ get_or column j None) (zero-add j) here in
    subst (λ (s : ℕ). find place_cmp (place s j) (column_entries seg 0 column ++ rest) ≡ get_or column j None) (sym (add-zero seg)) at
find-entries seg (suc i) j (column ∷ columns) =
    let shifted : seg + suc i ≡ (seg + 1) + i = omega arith in
    let apart : seg + suc i ≢ seg = λ e. omega arith in
    find-other (place (seg + suc i) j) seg 0 column (entries (seg + 1) columns) apart
    ∙ subst (λ (s : ℕ). find place_cmp (place s j) (entries (seg + 1) columns) ≡ get_or (get_or columns i []) j None) (sym shifted) (find-entries (seg + 1) i j columns)

-- the cells of the kept memory are those of the columns
pub cell-kept : (columns : List Cells) (p : Place) → cell (kept_memory columns) p ≡ value_at columns p
unfolding cell kept_memory
cell-kept columns p =
    get-from_entries place_cmp_total (entries 0 columns) p
    ∙ subst (λ (s : ℕ). find place_cmp (place s p.off) (entries 0 columns) ≡ value_at columns p) (zero-add p.seg) (find-entries 0 p.seg p.off columns)

-- and its sizes their lengths
pub sizes-kept : (columns : List Cells) → (kept_memory columns).sizes ≡ map length columns
unfolding kept_memory
sizes-kept columns = refl

pub size-kept : (columns : List Cells) (seg : ℕ) → size (kept_memory columns) seg ≡ length (get_or columns seg [])
unfolding size kept_memory
size-kept columns seg = get_or-map length columns seg []

-- one more column that is empty holds nothing
get_or-push_empty : (columns : List Cells) (i : ℕ) → get_or (columns ++ [] ∷ []) i [] ≡ get_or columns i []
get_or-push_empty [] zero = refl
get_or-push_empty [] (suc i) = refl
get_or-push_empty (column ∷ columns) zero = refl
get_or-push_empty (column ∷ columns) (suc i) = get_or-push_empty columns i

sizes-with_segment : (columns : List Cells) → (kept_memory (columns ++ [] ∷ [])).sizes ≡ (with_segment (kept_memory columns)).sizes
unfolding kept_memory with_segment
sizes-with_segment columns = map-append length columns ([] ∷ [])

pub cell-with_segment : (m : RunMemory) (p : Place) → cell (with_segment m) p ≡ cell m p
unfolding cell with_segment
cell-with_segment m p = refl

-- an empty column is an empty segment
pub kept-with_segment : (columns : List Cells) → kept_memory (columns ++ [] ∷ []) ≡ with_segment (kept_memory columns)
kept-with_segment columns =
    same_memory (kept_memory (columns ++ [] ∷ [])) (with_segment (kept_memory columns)) (sizes-with_segment columns) (λ p.
    cell-kept (columns ++ [] ∷ []) p
    ∙ (ap (λ c. get_or c p.off None) (get_or-push_empty columns p.seg)
    ∙ (sym (cell-kept columns p) ∙ sym (cell-with_segment (kept_memory columns) p))))

-- a list of holes with a value at its end
item_after_holes : (n : ℕ) (v : Value) (j : ℕ) → get_or (replicate {A = Option Value} n None ++ Some v ∷ []) j None ≡ cond (nat_eq j n) (Some v) None
item_after_holes zero v zero = refl
item_after_holes zero v (suc j) = grind (arith, nat_tests)
item_after_holes (suc n) v zero = grind (arith, nat_tests)
item_after_holes (suc n) v (suc j) =
    let same : nat_eq j n ≡ nat_eq (suc j) (suc n) = grind (arith, nat_tests) in
    item_after_holes n v j ∙ ap (λ b. cond {A = Option Value} b (Some v) None) same

-- the length of a column with a value at an offset
pub length-with_value : (column : Cells) (off : ℕ) (v : Value) → length (with_value column off v) ≡ max (length column) (off + 1)
unfolding with_value
length-with_value column off v =
    elim (nat_lt off (length column)) as (λ b. nat_lt off (length column) ≡ b → length (cond b (slice_set column off (Some v)) (column ++ replicate (off - length column) None ++ Some v ∷ [])) ≡ max (length column) (off + 1)) [
      | true ↦ λ e. let inside : off < length column = grind (arith, nat_tests) in omega (arith, length-set column off (Some v))
      | false ↦ λ e.
          let past : length column ≤ off = grind (arith, nat_tests) in
          let holes : List (Option Value) = replicate (off - length column) None in
          omega (arith, length-append (column ++ holes) (Some v ∷ []), length-append column holes, length-replicate {A = Option Value} (off - length column) None)
    ] refl

-- the items of a column with a value in the place of another
item_in_place : (column : Cells) (off : ℕ) (v : Value) (j : ℕ) → off < length column → get_or (slice_set column off (Some v)) j None ≡ cond (nat_eq j off) (Some v) (get_or column j None)
item_in_place column off v j inside =
    elim (nat_eq j off) as (λ b. nat_eq j off ≡ b → get_or (slice_set column off (Some v)) j None ≡ cond b (Some v) (get_or column j None)) [
      | true ↦ λ e.
          let same : j ≡ off = grind (arith, nat_tests) in
          subst (λ (k : ℕ). get_or (slice_set column off (Some v)) k None ≡ Some v) (sym same) (get_or-set_same column off (Some v) None inside)
      | false ↦ λ e.
          let apart : j ≢ off = grind (arith, nat_tests) in
          get_or-set_other column off j (Some v) None apart
    ] refl

-- the items of a column with holes and a value behind it
item_behind : (column : Cells) (n : ℕ) (v : Value) (j : ℕ) → get_or ((column ++ replicate n None) ++ Some v ∷ []) j None ≡ cond (nat_eq j (length column + n)) (Some v) (get_or column j None)
item_behind [] n v j = item_after_holes n v j ∙ ap (λ k. cond {A = Option Value} (nat_eq j k) (Some v) None) (sym (zero-add n))
item_behind (x ∷ column) n v zero =
    let apart : false ≡ nat_eq 0 (suc (length column) + n) = grind (arith, nat_tests) in
    ap (λ b. cond {A = Option Value} b (Some v) x) apart
item_behind (x ∷ column) n v (suc j) =
    let same : nat_eq j (length column + n) ≡ nat_eq (suc j) (suc (length column) + n) = grind (arith, nat_tests) in
    item_behind column n v j ∙ ap (λ b. cond {A = Option Value} b (Some v) (get_or column j None)) same

-- its items
pub get_or-with_value : (column : Cells) (off : ℕ) (v : Value) (j : ℕ) → get_or (with_value column off v) j None ≡ cond (nat_eq j off) (Some v) (get_or column j None)
unfolding with_value
get_or-with_value column off v j =
    elim (nat_lt off (length column)) as (λ b. nat_lt off (length column) ≡ b → get_or (cond b (slice_set column off (Some v)) (column ++ replicate (off - length column) None ++ Some v ∷ [])) j None ≡ cond (nat_eq j off) (Some v) (get_or column j None)) [
      | true ↦ λ e. item_in_place column off v j (grind (arith, nat_tests))
      | false ↦ λ e.
          let end : length column + (off - length column) ≡ off = grind (arith, nat_tests) in
          item_behind column (off - length column) v j ∙ ap (λ k. cond {A = Option Value} (nat_eq j k) (Some v) (get_or column j None)) end
    ] refl

-- the columns with a value at a place
abbrev pub put_into : List Cells → Place → Value → List Cells
put_into columns p v = slice_set columns p.seg (with_value (get_or columns p.seg []) p.off v)

-- what they have then
value_at-put_into : (columns : List Cells) (p : Place) (v : Value) (q : Place) → p.seg < length columns → value_at (put_into columns p v) q ≡ cond (eq_by_cmp place_cmp q p) (Some v) (value_at columns q)
value_at-put_into columns p v q inside =
    elim (nat_eq q.seg p.seg) as (λ b. nat_eq q.seg p.seg ≡ b → value_at (put_into columns p v) q ≡ cond (eq_by_cmp place_cmp q p) (Some v) (value_at columns q)) [
      | true ↦ λ e.
          let same : q.seg ≡ p.seg = grind (arith, nat_tests) in
          let column : Cells = get_or columns p.seg [] in
          let written : get_or (put_into columns p v) q.seg [] ≡ with_value column p.off v =
          ap (λ s. get_or (put_into columns p v) s []) same ∙ get_or-set_same columns p.seg (with_value column p.off v) [] inside in
          let tests : nat_eq q.off p.off ≡ eq_by_cmp place_cmp q p = sym (place_test q p ∙ ap (λ t. t && nat_eq q.off p.off) e) in
          ap (λ (c : Cells). get_or c q.off None) written
          ∙ (get_or-with_value column p.off v q.off
          ∙ (ap (λ t. cond t (Some v) (get_or column q.off None)) tests
          ∙ ap (λ s. cond (eq_by_cmp place_cmp q p) (Some v) (get_or (get_or columns s []) q.off None)) (sym same)))
      | false ↦ λ e.
          let apart : q.seg ≢ p.seg = grind (arith, nat_tests) in
          ap (λ (c : Cells). get_or c q.off None) (get_or-set_other columns p.seg q.seg (with_value (get_or columns p.seg []) p.off v) [] apart)
          ∙ sym (ap (λ t. cond t (Some v) (value_at columns q)) (place_other_segment q p apart))
    ] refl

sizes-put_into : (columns : List Cells) (p : Place) (v : Value) → map length (put_into columns p v) ≡ sizes_with (kept_memory columns) p
unfolding sizes_with size kept_memory
sizes-put_into columns p v =
    let column : Cells = get_or columns p.seg [] in
    map-set length columns p.seg (with_value column p.off v)
    ∙ ap (λ n. slice_set (map length columns) p.seg n)
    (length-with_value column p.off v ∙ ap (λ n. max n (p.off + 1)) (sym (get_or-map length columns p.seg [])))

sizes-with_cell : (m : RunMemory) (p : Place) (v : Value) → (with_cell m p v).sizes ≡ sizes_with m p
unfolding with_cell
sizes-with_cell m p v = refl

-- to write into a column is to write into the memory
pub kept-with_cell : (columns : List Cells) (p : Place) (v : Value) → p.seg < length columns → kept_memory (put_into columns p v) ≡ with_cell (kept_memory columns) p v
kept-with_cell columns p v inside =
    same_memory (kept_memory (put_into columns p v)) (with_cell (kept_memory columns) p v)
    (sizes-kept (put_into columns p v) ∙ (sizes-put_into columns p v ∙ sym (sizes-with_cell (kept_memory columns) p v)))
    (λ q.
    cell-kept (put_into columns p v) q
    ∙ (value_at-put_into columns p v q inside
    ∙ (ap (λ o. cond (eq_by_cmp place_cmp q p) (Some v) o) (sym (cell-kept columns q))
    ∙ sym (cell-with_cell (kept_memory columns) p v q))))

-- the words of the program as entries
word_entries : (off : ℕ) (words : List Felt) → column_entries 0 off (map word_value words) ≡ map (λ w. (place 0 w.0, Num w.1)) (enumerate_from off words)
word_entries off [] = refl
word_entries off (x ∷ words) = ap (λ es. (place 0 off, Num x) ∷ es) (word_entries (off + 1) words)

-- a column of the words is the program's memory
pub kept-program : (words : List Felt) → kept_memory (map word_value words ∷ []) ≡ program_memory words
unfolding kept_memory program_memory
kept-program words =
    let es : List (Place × Value) = column_entries 0 0 (map word_value words) ++ [] in
    let same : es ≡ map (λ w. (place 0 w.0, Num w.1)) (enumerate_from 0 words) = append-nil (column_entries 0 0 (map word_value words)) ∙ word_entries 0 words in
    λ i. record { sizes = length-map words word_value i ∷ []; cells = from_entries (same i) }

pub count-kept : (columns : List Cells) → length (kept_memory columns).sizes ≡ length columns
unfolding kept_memory
count-kept columns = length-map columns length

-- past the last column there is nothing
get_or-past : (columns : List Cells) (i : ℕ) → length columns ≤ i → get_or columns i [] ≡ []
get_or-past [] i past = refl
get_or-past (column ∷ columns) zero past = absurd (omega arith)
get_or-past (column ∷ columns) (suc i) past = get_or-past columns i (omega arith)

pub cell-kept_past : (columns : List Cells) (p : Place) → length columns ≤ p.seg → cell (kept_memory columns) p ≡ None
cell-kept_past columns p past = cell-kept columns p ∙ ap (λ (column : Cells). get_or column p.off None) (get_or-past columns p.seg past)

-- what the kept memory has, by its columns
pub ruleset kept = (cell-kept, size-kept, count-kept, cell-kept_past)
