-- The memory has every cell that is read: those of the rows, the range cells, the program's words and the public cells.
use Rattle.std.proofs.Common.{◌≡◌, ℕ, zero, suc, ◌+◌, ◌%◌, ◌^◌, ◌<◌, List, [], ◌∷◌, ◌++◌, map, length, Option, Some, unwrap_or, refl, sym, ap, ◌∙◌, subst, arith, length-append}
use Rattle.std.specs.Prelude.{All}
use Rattle.std.specs.List.{AllByRecursion, AllZip, flat_map, range_with_len}
use Rattle.std.proofs.Math.Nat.{mod-eq_of_lt}
use Rattle.std.proofs.lemmas.List.{get_or_append_left, get_or-append-add}
use Rattle.std.proofs.lemmas.List.Elements.{All-append, All-cons, All-head, All-tail, All-contains, recursion_from_All, All-from_recursion}
use Rattle.goldilocks.specs.Field.{prime, field_add}
use Rattle.goldilocks.specs.declared.Felt.{Felt}
use Rattle.goldilocks.specs.declared.Pair.{Pair}
use Rattle.goldilocks.specs.Felts.{felt}
use Rattle.casm_word.specs.Transition.{Memory, Registers}
use Rattle.casm_word.specs.Run.{steps, LegalRun}
use Rattle.cpu_rows.specs.declared.Row.{Row}
use Rattle.cpu_rows.specs.Columns.{Columns, columns}
use Rattle.cpu_rows.specs.Steps.{HasCells, row_accesses}
use Rattle.memory_columns.specs.OneMemory.{Holds, OneValueEach}
use Rattle.range_columns.specs.declared.RangeRow.{RangeRow}
use Rattle.program_file.specs.Listing.{Listing}
use Rattle.public_input.specs.Statement.{Statement}
use Rattle.trace_files.specs.TraceFile.{IsState}
use Rattle.access_lists.specs.Accesses.{row_cells, range_cells, program_cells, accesses as accesses_of}
use Rattle.goldilocks.specs.Cells.{cell, cells_from}
use Rattle.table_builder.specs.Rows.{as_row, rows_of, range_address, limb_row, range_rows_of}
use Rattle.table_builder.specs.Columns.{reads}
use Rattle.table_builder.proofs.AsRows.{columns-as_row}
use Rattle.table_builder.proofs.RowsOfRun.{IsTold, columns_of, run_told}
use Rattle.table_builder.proofs.NothingFound.{Has, HasRange, Answered}

-- what holds of each piece holds of the pieces together
pub All-pieces : {X A : Type 0} (R : A → Type 0) (piece : X → List A) (items : List X) → AllByRecursion (λ x. All R (piece x)) items → All R (flat_map piece items)
All-pieces R piece [] all = λ k d within. absurd (omega arith)
All-pieces R piece (x ∷ items) all = All-append R (piece x) (flat_map piece items) all.0 (All-pieces R piece items all.1)

-- ---- the cells of rows

module _ (m : Memory) where
  pub row_held : (r : Row) → HasCells m (row_accesses (columns r)) → All (Has m) (row_cells r)
  unfolding row_cells row_accesses columns
  row_held r has =
      let each = recursion_from_All (λ at. m at.0 ≡ Some at.1) (row_accesses (columns r)) has in
      All-from_recursion (Has m) (row_cells r) (each.0, (each.1.0, (each.1.1.0, (each.1.1.1.0, tt))))

  pub rows_held : (pairs : List (Registers × Registers)) (cs : List Columns) → AllZip (IsTold m) pairs cs → AllByRecursion (λ r. All (Has m) (row_cells r)) (map as_row cs)
  rows_held [] [] all = tt
  rows_held [] (c ∷ cs) all = absurd all
  rows_held (step ∷ pairs) [] all = absurd all
  rows_held (step ∷ pairs) (c ∷ cs) all =
      let P : Columns → Type 0 = λ t. HasCells m (row_accesses t) in
      (row_held (as_row c) (subst P (sym (columns-as_row c all.0.row.in_field)) all.0.tells.cells), rows_held pairs cs all.1)

-- ---- the range cells

kept_number : (o : Option ℕ) (number : ℕ) → o ≡ Some number → number < 2 ^ 48 → o ≡ Some (unwrap_or o 0 % prime)
kept_number o number is low =
    let same : number % prime ≡ number = mod-eq_of_lt (omega arith) in
    is ∙ ap Some (sym same ∙ ap (λ p. unwrap_or p 0 % prime) (sym is))

module _ (m : Memory) (public : Statement) where
  -- the range row of a number
  abbrev ranged : ℕ → RangeRow
  ranged i = limb_row (unwrap_or (m (range_address public i)) 0)

  -- the cells from number k on
  ranged_held : (k n : ℕ) → All (HasRange public m) (range_with_len k n) → All (Has m) (cells_from (public.range_begin.number + k) (map (λ r. r.value) (map ranged (range_with_len k n))))
  unfolding cells_from field_add limb_row
  ranged_held k zero all = λ i d within. absurd (omega arith)
  ranged_held k (suc n) all =
      let begin : ℕ = public.range_begin.number in
      let has = All-head (HasRange public m) k (range_with_len (k + 1) n) all in
      let behind = ranged_held (k + 1) n (All-tail (HasRange public m) k (range_with_len (k + 1) n) all) in
      let values : List Felt = map (λ r. r.value) (map ranged (range_with_len (k + 1) n)) in
      let next : begin + (k + 1) ≡ begin + k + 1 = omega arith in
      All-cons (Has m) (cell (felt (begin + k)) (ranged k).value) (cells_from (begin + k + 1) values)
      (kept_number (m (range_address public k)) has.0 has.1 has.2)
      (subst (λ a. All (Has m) (cells_from a values)) next behind)

  pub range_held : (range : List RangeRow) → range ≡ range_rows_of public m → All (HasRange public m) (range_with_len 0 public.range_count) → All (Has m) (range_cells public.range_begin.number range)
  unfolding range_cells range_rows_of
  range_held range is all =
      let begin : public.range_begin.number + 0 ≡ public.range_begin.number = omega arith in
      subst (λ rows. All (Has m) (cells_from public.range_begin.number (map (λ r. r.value) rows))) (sym is)
      (subst (λ a. All (Has m) (cells_from a (map (λ r. r.value) (map ranged (range_with_len 0 public.range_count))))) begin
      (ranged_held 0 public.range_count all))

-- ---- all cells

-- what holds of two lists, one after the other, holds of each
pub all_both : {X : Type 0} (R : X → Type 0) (xs ys : List X) → All R (xs ++ ys) → All R xs × All R ys
all_both R xs ys all = (
  λ k d lt. subst R (get_or_append_left xs ys d k lt) (all k d (omega (arith, length-append xs ys))),
  λ k d lt. subst R (get_or-append-add xs ys k d) (all (length xs + k) d (omega (arith, length-append xs ys))),
)

-- where the memory has each, equal addresses have equal values
pub one_value-held : (m : Memory) (cells : List Pair) → All (Has m) cells → OneValueEach cells
unfolding OneValueEach
one_value-held m cells all x y at_x at_y same =
    let here : Has m x = All-contains (Has m) cells x all at_x in
    let there : Has m y = All-contains (Has m) cells y all at_y in
    let one : Some x.value.number ≡ Some y.value.number = sym here ∙ (ap m same ∙ there) in
    cc

module _ (program : Listing) (public : Statement) (m : Memory) (states : List Registers) (low : (a v : ℕ) → m a ≡ Some v → v < prime) (small : All IsState states) (run : LegalRun m states) where
  -- where it has the program's words, the public cells and the range cells
  pub reads_held_from : All (Has m) (program_cells program.words ++ public.cells) → All (HasRange public m) (range_with_len 0 public.range_count) → Holds m (reads program public m states)
  unfolding Holds reads accesses_of rows_of
  reads_held_from has_cells has_range =
      let R = Has m in
      let given = all_both R (program_cells program.words) public.cells has_cells in
      let rows : List Row = rows_of m states in
      let range : List RangeRow = range_rows_of public m in
      All-append R (flat_map row_cells rows ++ range_cells public.range_begin.number range ++ program_cells program.words ++ public.cells) []
      (All-append R (flat_map row_cells rows ++ range_cells public.range_begin.number range ++ program_cells program.words) public.cells
      (All-append R (flat_map row_cells rows ++ range_cells public.range_begin.number range) (program_cells program.words)
      (All-append R (flat_map row_cells rows) (range_cells public.range_begin.number range)
      (All-pieces R row_cells rows (rows_held m (steps states) (columns_of m (steps states)) (run_told m states low small run)))
      (range_held m public range refl has_range))
      given.0)
      given.1)
      (λ k d within. absurd (omega arith))

  module _ (answers : Answered program public m states) where
    pub reads_held : Holds m (reads program public m states)
    reads_held = reads_held_from answers.cells answers.range

    pub reads_one_value : OneValueEach (reads program public m states)
    unfolding Holds
    reads_one_value = one_value-held m (reads program public m states) reads_held
