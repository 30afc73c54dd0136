-- How long the lists of built tables are.
use Rattle.std.proofs.Common.{◌≡◌, ℕ, ◌+◌, ◌*◌, List, [], ◌∷◌, ◌++◌, map, length, unwrap_or, refl, ◌∙◌, arith, length-append}
use Rattle.std.specs.List.{flat_map, range_with_len, enumerate_from}
use Rattle.std.proofs.lemmas.List.{length-map}
use Rattle.std.proofs.lemmas.List.FromFn.{length-range_with_len, length-enumerate_from}
use Rattle.goldilocks.specs.declared.Felt.{Felt}
use Rattle.goldilocks.specs.Felts.{felt}
use Rattle.casm_word.specs.Transition.{Memory}
use Rattle.cpu_rows.specs.declared.Row.{Row}
use Rattle.range_columns.specs.declared.RangeRow.{RangeRow}
use Rattle.public_input.specs.Statement.{Statement}
use Rattle.access_lists.specs.Accesses.{row_cells, range_cells, program_cells, AccessParts, accesses}
use Rattle.access_lists.specs.SmallValues.{row_offsets, limbs, SmallParts, small_values}
use Rattle.goldilocks.specs.Cells.{cell, cells_from}
use Rattle.table_builder.specs.Rows.{range_address, limb_row, range_rows_of}

-- pieces of one length
pub length-pieces : {X A : Type 0} (piece : X → List A) (n : ℕ) (items : List X) → ((x : X) → length (piece x) ≡ n) → length (flat_map piece items) ≡ n * length items
length-pieces piece n [] each = omega arith
length-pieces piece n (x ∷ items) each = omega (arith, length-append (piece x) (flat_map piece items), each x, length-pieces piece n items each)

pub length-cells_from : (address : ℕ) (values : List Felt) → length (cells_from address values) ≡ length values
unfolding cells_from
length-cells_from address values = length-map (enumerate_from address values) (λ (at : ℕ × Felt). cell (felt at.0) at.1) ∙ length-enumerate_from address values

pub length-range_rows_of : (public : Statement) (m : Memory) → length (range_rows_of public m) ≡ public.range_count
unfolding range_rows_of
length-range_rows_of public m = length-map (range_with_len 0 public.range_count) (λ i. limb_row (unwrap_or (m (range_address public i)) 0)) ∙ length-range_with_len 0 public.range_count

length-row_cells : (rows : List Row) → length (flat_map row_cells rows) ≡ 4 * length rows
unfolding row_cells
length-row_cells rows = length-pieces row_cells 4 rows (λ r. refl)

length-row_offsets : (rows : List Row) → length (flat_map row_offsets rows) ≡ 3 * length rows
unfolding row_offsets
length-row_offsets rows = length-pieces row_offsets 3 rows (λ r. refl)

length-limbs : (rows : List RangeRow) → length (flat_map limbs rows) ≡ 3 * length rows
unfolding limbs
length-limbs rows = length-pieces limbs 3 rows (λ r. refl)

pub length-accesses : (p : AccessParts) → length (accesses p) ≡ 4 * length p.rows + length p.range_rows + length p.words + length p.public_cells + length p.fillers
unfolding accesses range_cells program_cells
length-accesses p =
    let rows = flat_map row_cells p.rows in
    let values : List Felt = map (λ r. r.value) p.range_rows in
    let range = cells_from p.range_begin values in
    let words = cells_from 1 p.words in
    omega (
      arith,
      length-append (rows ++ range ++ words ++ p.public_cells) p.fillers,
      length-append (rows ++ range ++ words) p.public_cells,
      length-append (rows ++ range) words,
      length-append rows range,
      length-row_cells p.rows,
      length-cells_from p.range_begin values,
      length-map p.range_rows (λ (r : RangeRow). r.value),
      length-cells_from 1 p.words,
    )

pub length-small_values : (p : SmallParts) → length (small_values p) ≡ 3 * length p.rows + 3 * length p.range_rows + length p.fillers
unfolding small_values
length-small_values p =
    let offsets = flat_map row_offsets p.rows in
    let digits = flat_map limbs p.range_rows in
    omega (
      arith,
      length-append (offsets ++ digits) p.fillers,
      length-append offsets digits,
      length-row_offsets p.rows,
      length-limbs p.range_rows,
    )
