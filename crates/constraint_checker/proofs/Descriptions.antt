-- Tables that meet every constraint describe a run: one lemma for each promise.
use Rattle.std.proofs.Common.{◌≡◌, ℕ, zero, suc, ◌+◌, ◌%◌, ◌^◌, ◌<◌, ◌≤◌, ◌∙◌, List, [], ◌∷◌, ◌++◌, length, get_or, map, Some, sym, ap, subst, arith, length-append, add-zero}
use Rattle.std.specs.Prelude.{All, slice_get, option_map}
use Rattle.std.specs.List.{flat_map}
use Rattle.std.proofs.Math.Nat.{mod-eq_of_lt}
use Rattle.std.proofs.lemmas.List.{length-map, get_or_append_left, get_or-append-add}
use Rattle.std.proofs.lemmas.List.Elements.{All-from_recursion, All-map}
use Rattle.std.proofs.lemmas.Option.{slice_get-map, slice_get_within, get_or_from_slice_get, slice_get-get_or}
use Rattle.goldilocks.specs.Field.{prime, field_add}
use Rattle.goldilocks.specs.declared.Felt.{Felt}
use Rattle.goldilocks.specs.declared.Pair.{Pair}
use Rattle.goldilocks.specs.Felts.{felt}
use Rattle.casm_word.specs.Transition.{Registers, registers}
use Rattle.cpu_rows.specs.declared.Row.{Row}
use Rattle.cpu_rows.specs.Columns.{columns}
use Rattle.cpu_rows.specs.Steps.{HasSmallOffsets, HasCells, row_accesses, offsets as offsets_of}
use Rattle.cpu_rows.proofs.FaultsOfRows.{length-states_of}
use Rattle.memory_columns.specs.OneMemory.{Holds}
use Rattle.memory_columns.proofs.OneMemory.{one_memory, no_fault_exactly as no_memory_fault}
use Rattle.range_columns.specs.declared.RangeRow.{RangeRow}
use Rattle.range_columns.specs.Limbs.{HasNarrowLimbs, limb_limit, range_bound}
use Rattle.range_columns.specs.Equations.{IsWithin}
use Rattle.range_columns.proofs.LimbLaws.{narrow_value}
use Rattle.range_columns.proofs.InRange.{within_range}
use Rattle.range_columns.proofs.FirstFault.{no_fault_exactly as no_range_fault}
use Rattle.program_file.specs.Listing.{Listing}
use Rattle.public_input.specs.Statement.{Statement}
use Rattle.public_input.specs.Valid.{KeepsLimits}
use Rattle.table_file.specs.Tables.{Contents, AreValid}
use Rattle.access_lists.specs.Accesses.{row_cells, range_cells, program_cells, accesses as accesses_of}
use Rattle.access_lists.specs.SmallValues.{row_offsets, limbs, small_values}
use Rattle.constraint_checker.specs.Lists.{accesses, table_small_values}
use Rattle.goldilocks.specs.Cells.{cell, cells_from}
use Rattle.constraint_checker.specs.Constraints.{MeetsAll, states, first_state}
use Rattle.constraint_checker.specs.Acceptance.{memory_in, DescribeRun}
use Rattle.constraint_checker.specs.Parts.{RunsAnywhere}

-- ---- lists

-- what holds of two lists, one after the other, holds of each
both_hold : {X : Type 0} (R : X → Type 0) (xs ys : List X) → All R (xs ++ ys) → All R xs × All R ys
both_hold R xs ys all = (
  λ k d lt. subst R (get_or_append_left xs ys d k lt) (all k d (omega (arith, length-append xs ys))),
  λ k d lt. subst R (get_or-append-add xs ys k d) (all (length xs + k) d (omega (arith, length-append xs ys))),
)

-- what holds of joined pieces holds of each piece
each_piece : {X A : Type 0} (R : A → Type 0) (piece : X → List A) (items : List X) → All R (flat_map piece items) → All (λ x. All R (piece x)) items
each_piece R piece [] all k d lt = absurd (omega arith)
each_piece R piece (x ∷ items) all zero d lt = (both_hold R (piece x) (flat_map piece items) all).0
each_piece R piece (x ∷ items) all (suc k) d lt = each_piece R piece items (both_hold R (piece x) (flat_map piece items) all).1 k d (omega arith)

-- what holds of all items holds of the one at a place
holds_at : {X : Type 0} (R : X → Type 0) (xs : List X) (i : ℕ) (x : X) → All R xs → slice_get xs i ≡ Some x → R x
holds_at R xs i x all e = subst R (get_or_from_slice_get xs i x x e) (all i x (slice_get_within xs i x e))

cells_from-at : (address : ℕ) (values : List Felt) (i : ℕ) (v : Felt) → slice_get values i ≡ Some v → slice_get (cells_from address values) i ≡ Some (cell (felt (address + i)) v)
unfolding cells_from
cells_from-at address [] i v e = absurd (cc)
cells_from-at address (x ∷ values) zero v e =
    let here : x ≡ v = cc in
    ap (λ y. Some (cell (felt address) y)) here ∙ ap (λ n. Some (cell (felt n) v)) (sym (add-zero address))
cells_from-at address (x ∷ values) (suc i) v e =
    cells_from-at (address + 1) values i v e ∙ ap (λ n. Some (cell (felt n) v)) (omega arith)

registers_are : (r : Registers) (pc apc fp : ℕ) → r.pc ≡ pc → r.ap ≡ apc → r.fp ≡ fp → r ≡ record { pc = pc; ap = apc; fp = fp }
registers_are r pc apc fp p q s =
    let by_pc : r ≡ record { pc = pc; ap = r.ap; fp = r.fp } = ap (λ n. record r { pc = n }) p in
    let by_ap : record { pc = pc; ap = r.ap; fp = r.fp } ≡ record { pc = pc; ap = apc; fp = r.fp } = ap (λ n. record { pc = pc; ap = n; fp = r.fp }) q in
    by_pc ∙ (by_ap ∙ ap (λ n. record { pc = pc; ap = apc; fp = n }) s)

-- ---- the promises

module _ (program : Listing) (public : Statement) (tables : Contents) (few : length program.words ≤ 2 ^ 18) (limits : KeepsLimits public) (valid : AreValid tables) (meets : MeetsAll program public tables) where
  abbrev Has : Pair → Type 0
  Has x = memory_in tables x.addr.number ≡ Some x.value.number

  all_accesses : Holds (memory_in tables) (accesses program public tables)
  all_accesses =
      (one_memory (accesses program public tables) tables.pairs
      ((no_memory_fault (accesses program public tables) tables.pairs).1 (meets.m1, meets.m2, meets.m3))
      (omega (arith, valid.pair_count))).holds

  access_parts : All Has (flat_map row_cells tables.rows) × All Has (range_cells public.range_begin.number tables.range) × All Has (program_cells program.words) × All Has public.cells
  unfolding Holds accesses_of
  access_parts =
      let rows = flat_map row_cells tables.rows in
      let range = range_cells public.range_begin.number tables.range in
      let words = program_cells program.words in
      let a = both_hold Has (rows ++ range ++ words ++ public.cells) tables.fillers all_accesses in
      let b = both_hold Has (rows ++ range ++ words) public.cells a.0 in
      let c = both_hold Has (rows ++ range) words b.0 in
      let d = both_hold Has rows range c.0 in
      (d.0, d.1, c.1, b.1)

  program_held : (i : ℕ) (word : Felt) → slice_get program.words i ≡ Some word → memory_in tables (1 + i) ≡ Some word.number
  unfolding program_cells
  program_held i word e =
      let there : memory_in tables ((1 + i) % prime) ≡ Some word.number =
      holds_at Has (cells_from 1 program.words) i (cell (felt (1 + i)) word) access_parts.2 (cells_from-at 1 program.words i word e) in
      let low : 1 + i < prime = omega (arith, few, slice_get_within program.words i word e) in
      subst (λ a. memory_in tables a ≡ Some word.number) (mod-eq_of_lt low) there

  range_held : (i : ℕ) (row : RangeRow) → slice_get tables.range i ≡ Some row → memory_in tables (field_add public.range_begin.number i) ≡ Some row.value.number
  unfolding range_cells field_add
  range_held i row e =
      let value : RangeRow → Felt = λ r. r.value in
      holds_at Has (cells_from public.range_begin.number (map value tables.range)) i (cell (felt (public.range_begin.number + i)) row.value) access_parts.1
      (cells_from-at public.range_begin.number (map value tables.range) i row.value (slice_get-map value tables.range i ∙ ap (option_map value) e))

  public_held : Holds (memory_in tables) public.cells
  unfolding Holds
  public_held = access_parts.3

  four_cells : (r : Row) → All Has (row_cells r) → HasCells (memory_in tables) (row_accesses (columns r))
  unfolding row_cells row_accesses columns
  four_cells r all =
      All-from_recursion (λ at. memory_in tables at.0 ≡ Some at.1) (row_accesses (columns r))
      (all 0 (cell r.pc r.inst) (omega arith), (all 1 (cell r.pc r.inst) (omega arith), (all 2 (cell r.pc r.inst) (omega arith), (all 3 (cell r.pc r.inst) (omega arith), tt))))

  rows_held : All (λ r. HasCells (memory_in tables) (row_accesses r)) (map columns tables.rows)
  rows_held =
      All-map (λ r. HasCells (memory_in tables) (row_accesses r)) columns tables.rows
      (λ k d lt. four_cells (get_or tables.rows k d) (each_piece Has row_cells tables.rows access_parts.0 k d lt))

  sorted_short : length tables.sorted_range < prime
  sorted_short = omega (arith, valid.row_count, valid.range_row_count, valid.range_filler_count, valid.sorted_range_count)

  small : All (IsWithin public.rc_min public.rc_max) (table_small_values tables)
  small =
      within_range (table_small_values tables) tables.sorted_range public.rc_min public.rc_max limits.in_order (omega (arith, limits.narrow)) sorted_short
      ((no_range_fault (table_small_values tables) tables.sorted_range public.rc_min public.rc_max).1 (meets.q1, meets.q2, meets.q3, meets.q4))

  small_parts : All (IsWithin public.rc_min public.rc_max) (flat_map row_offsets tables.rows) × All (IsWithin public.rc_min public.rc_max) (flat_map limbs tables.range)
  unfolding small_values
  small_parts =
      let W = IsWithin public.rc_min public.rc_max in
      let a = both_hold W (flat_map row_offsets tables.rows ++ flat_map limbs tables.range) tables.range_fillers small in
      both_hold W (flat_map row_offsets tables.rows) (flat_map limbs tables.range) a.0

  narrow_value_within : (x : Felt) → IsWithin public.rc_min public.rc_max x → x.number < 2 ^ 16
  unfolding IsWithin
  narrow_value_within x h = omega (arith, h.1, limits.narrow)

  three_offsets : (r : Row) → All (IsWithin public.rc_min public.rc_max) (row_offsets r) → HasSmallOffsets (columns r)
  unfolding row_offsets offsets_of columns
  three_offsets r all =
      All-from_recursion (λ offset. offset < 2 ^ 16) (offsets_of (columns r))
      (narrow_value_within r.off_dst (all 0 r.off_dst (omega arith)), (narrow_value_within r.off_op0 (all 1 r.off_dst (omega arith)), (narrow_value_within r.off_op1 (all 2 r.off_dst (omega arith)), tt)))

  narrow_offsets : All HasSmallOffsets (map columns tables.rows)
  narrow_offsets =
      All-map HasSmallOffsets columns tables.rows
      (λ k d lt. three_offsets (get_or tables.rows k d) (each_piece (IsWithin public.rc_min public.rc_max) row_offsets tables.rows small_parts.0 k d lt))

  three_limbs : (r : RangeRow) → All (IsWithin public.rc_min public.rc_max) (limbs r) → HasNarrowLimbs r
  unfolding limbs
  three_limbs r all = record {
    l0 = narrow_value_within r.l0 (all 0 r.l0 (omega arith));
    l1 = narrow_value_within r.l1 (all 1 r.l0 (omega arith));
    l2 = narrow_value_within r.l2 (all 2 r.l0 (omega arith));
  }

  narrow_cells : All (λ row. row.value.number < range_bound limb_limit) tables.range
  narrow_cells k d lt =
      narrow_value limb_limit (get_or tables.range k d) (omega arith, omega arith) (meets.v1 k d lt) (three_limbs (get_or tables.range k d) (each_piece (IsWithin public.rc_min public.rc_max) limbs tables.range small_parts.1 k d lt))

  length-states : length (states tables) ≡ public.steps + 1
  length-states = length-states_of (map columns tables.rows) (registers tables.last) ∙ ap (λ n. n + 1) (length-map tables.rows columns ∙ meets.p1)

  first_is : slice_get (states tables) 0 ≡ Some (record { pc = 1 + program.start; ap = public.ap_first.number; fp = public.ap_first.number })
  first_is =
      slice_get-get_or (states tables) 0 (registers tables.last) (omega (arith, length-states))
      ∙ ap Some (registers_are (first_state tables) (1 + program.start) public.ap_first.number public.ap_first.number meets.p3 meets.p4 meets.p5)

  pub describe_run : RunsAnywhere tables → DescribeRun program public tables
  describe_run runs = record {
    has_program = program_held;
    has_public_cells = public_held;
    has_range_cells = range_held;
    has_accesses = all_accesses;
    run = runs (omega (arith, meets.p1, limits.some_step)) narrow_offsets (memory_in tables) rows_held;
    steps = length-states;
    first = first_is;
    last_pc = meets.p6;
    last_ap = meets.p7;
    small_values = small;
    offsets = narrow_offsets;
    range_cells = narrow_cells;
    range_count = meets.p2;
  }
