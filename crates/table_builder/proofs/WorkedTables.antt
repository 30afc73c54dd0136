-- The definitions tried on a program of five instructions. Its run has four steps.
use Rattle.std.proofs.Common.{◌≡◌, ℕ, ◌-◌, ◌==◌, if◌then◌else◌, List, [], ◌∷◌, ◌++◌, map, length, Option, Some, None, option_map, false, slice_get, refl}
use Rattle.goldilocks.specs.Field.{field_add, field_mul, field_of_int, field_neg}
use Rattle.goldilocks.specs.Felts.{felt, numbers}
use Rattle.casm_word.specs.Word.{flags_of, word_of, breaks, first_broken, decoding}
use Rattle.casm_word.specs.Transition.{Memory, Registers, outcome}
use Rattle.casm_word.specs.Run.{first_refused}
use Rattle.cpu_rows.specs.Steps.{row_of, tilde_of}
use Rattle.sorted_lists.specs.Order.{in_order, with_item}
use Rattle.sorted_lists.specs.Gaps.{absent, gaps_between}
use Rattle.memory_columns.specs.Filling.{unaccessed, filler_at, numbers_of}
use Rattle.range_columns.specs.Limbs.{limb_at}
use Rattle.range_columns.specs.Filling.{absent_values}
use Rattle.program_file.specs.Listing.{Listing}
use Rattle.public_input.specs.Statement.{Statement}
use Rattle.table_file.specs.Tables.{Contents}
use Rattle.access_lists.specs.Accesses.{row_cells, program_cells, range_cells, accesses as accesses_of}
use Rattle.access_lists.specs.SmallValues.{row_offsets, limbs, small_values}
use Rattle.goldilocks.specs.Cells.{cell, cells_from, memory_of}
use Rattle.relocation.specs.Relocated.{RelocatedRun}
use Rattle.table_builder.specs.declared.faults.Field.TheVariants.{ApLast, RcMax}
use Rattle.table_builder.specs.Rows.{row_at, as_row, rows_of, limb_row, range_rows_of}
use Rattle.table_builder.specs.Columns.{least_of, greatest_of, reads, run_small_values, free_addresses, cells_at, tables_of}
use Rattle.table_builder.specs.Public.{stated_with, small_numbers, public_of}
use Rattle.table_builder.specs.Findings.{Finding, Mismatch, NoCell, first_found, end_findings, step_finding, cell_findings, range_findings, limit_findings, width_finding, findings}

-- `ap += 0`, `call rel 4`, `jmp rel 0`, `[ap] = 25; ap++` and `ret`
abbrev words : List ℕ
words = 0x40780017fff7fff ∷ 0x0 ∷ 0x1104800180018000 ∷ 0x4 ∷ 0x10780017fff7fff ∷ 0x0 ∷ 0x480680017fff8000 ∷ 0x19 ∷ 0x208b7fff7fff7ffe ∷ []

-- cells 10 to 14 are what the run wrote
abbrev memory : Memory
memory a = if a == 0 then None else slice_get (words ++ 12 ∷ 0 ∷ 12 ∷ 5 ∷ 25 ∷ []) (a - 1)

abbrev state : ℕ → ℕ → ℕ → Registers
state pc ap fp = record { pc = pc; ap = ap; fp = fp }

abbrev states : List Registers
states = state 1 12 12 ∷ state 3 12 12 ∷ state 7 14 14 ∷ state 9 15 14 ∷ state 5 15 12 ∷ []

abbrev program : Listing
program = record {
  words = map felt words;
  start = 0;
  end = 4;
  builtins = record { output = false; range = false };
}

-- a public input with this last ap, these limits and so many range cells, which begin with cell 10
abbrev public_with : ℕ → ℕ → ℕ → ℕ → Statement
public_with ap_last rc_min rc_max range_count = record {
  steps = 4;
  ap_first = felt 12;
  ap_last = felt ap_last;
  rc_min = rc_min;
  rc_max = rc_max;
  range_begin = felt 10;
  range_count = range_count;
  cells = cell (felt 11) (felt 0) ∷ [];
}

abbrev found : Statement → Option Finding
found public = first_found (findings program public memory states)

nothing_found : found (public_with 15 32765 32770 0) ≡ None
unfolding findings end_findings step_finding cell_findings range_findings limit_findings width_finding first_refused outcome reads run_small_values rows_of row_at as_row row_of tilde_of range_rows_of limb_row limb_at accesses_of row_cells program_cells range_cells cells_from small_values row_offsets limbs free_addresses unaccessed gaps_between absent least_of greatest_of decoding flags_of word_of breaks first_broken field_add field_mul field_of_int field_neg
nothing_found = refl

-- the limbs of the range cell are 12, 0 and 0
range_cell_found : found (public_with 15 0 32769 1) ≡ None
unfolding findings end_findings step_finding cell_findings range_findings limit_findings width_finding first_refused outcome reads run_small_values rows_of row_at as_row row_of tilde_of range_rows_of limb_row limb_at accesses_of row_cells program_cells range_cells cells_from small_values row_offsets limbs free_addresses unaccessed gaps_between absent least_of greatest_of decoding flags_of word_of breaks first_broken field_add field_mul field_of_int field_neg
range_cell_found = refl

-- cell 15 is missing
no_range_cell : found (public_with 15 0 32769 6) ≡ Some (NoCell 15)
unfolding findings end_findings step_finding cell_findings range_findings limit_findings width_finding first_refused outcome reads run_small_values rows_of row_at as_row row_of tilde_of range_rows_of limb_row limb_at accesses_of row_cells program_cells range_cells cells_from small_values row_offsets limbs free_addresses unaccessed gaps_between absent least_of greatest_of decoding flags_of word_of breaks first_broken field_add field_mul field_of_int field_neg
no_range_cell = refl

other_last_ap : found (public_with 16 32765 32770 0) ≡ Some (Mismatch ApLast 16 15)
unfolding findings end_findings step_finding cell_findings range_findings limit_findings width_finding first_refused outcome reads run_small_values rows_of row_at as_row row_of tilde_of range_rows_of limb_row limb_at accesses_of row_cells program_cells range_cells cells_from small_values row_offsets limbs free_addresses unaccessed gaps_between absent least_of greatest_of decoding flags_of word_of breaks first_broken field_add field_mul field_of_int field_neg
other_last_ap = refl

-- the greatest offset is 32769, with 2^15 added
narrow_limits : found (public_with 15 32765 32768 0) ≡ Some (Mismatch RcMax 32768 32769)
unfolding findings end_findings step_finding cell_findings range_findings limit_findings width_finding first_refused outcome reads run_small_values rows_of row_at as_row row_of tilde_of range_rows_of limb_row limb_at accesses_of row_cells program_cells range_cells cells_from small_values row_offsets limbs free_addresses unaccessed gaps_between absent least_of greatest_of decoding flags_of word_of breaks first_broken field_add field_mul field_of_int field_neg
narrow_limits = refl

abbrev tables : Contents
tables = tables_of program (public_with 15 32765 32770 0) memory states

-- only cell 10 is never accessed
one_filler : map numbers_of tables.fillers ≡ (10, 12) ∷ []
unfolding tables_of cells_at filler_at reads run_small_values rows_of row_at as_row row_of tilde_of range_rows_of limb_row limb_at accesses_of row_cells program_cells range_cells cells_from small_values row_offsets limbs free_addresses unaccessed gaps_between absent least_of greatest_of decoding flags_of word_of breaks first_broken field_add field_mul field_of_int field_neg
one_filler = refl

two_range_fillers : numbers tables.range_fillers ≡ 32765 ∷ 32770 ∷ []
unfolding tables_of absent_values reads run_small_values rows_of row_at as_row row_of tilde_of range_rows_of limb_row limb_at accesses_of row_cells program_cells range_cells cells_from small_values row_offsets limbs free_addresses unaccessed gaps_between absent least_of greatest_of decoding flags_of word_of breaks first_broken field_add field_mul field_of_int field_neg
two_range_fillers = refl

-- 16 cells of rows, 9 words, 1 public cell and 1 filler
pair_count : length tables.pairs ≡ 27
unfolding tables_of cells_at filler_at in_order with_item reads run_small_values rows_of row_at as_row row_of tilde_of range_rows_of limb_row limb_at accesses_of row_cells program_cells range_cells cells_from small_values row_offsets limbs free_addresses unaccessed gaps_between absent least_of greatest_of decoding flags_of word_of breaks first_broken field_add field_mul field_of_int field_neg
pair_count = refl

-- the last step returns to pc 5 and fp 12, which lie in the cells 13 and 12
last_row : option_map (λ c. c.op1_addr ∷ c.op1 ∷ c.dst_addr ∷ c.dst ∷ c.res ∷ []) (row_at memory (state 9 15 14)) ≡ Some (13 ∷ 5 ∷ 12 ∷ 12 ∷ 5 ∷ [])
unfolding row_at row_of tilde_of decoding flags_of word_of breaks first_broken field_add field_mul field_of_int field_neg
last_row = refl

-- ---- what the run states of itself

-- the run, whose stack begins with the cells 10 and 11, with so many range cells from cell 10 on
abbrev run_with : ℕ → RelocatedRun
run_with range_count = record {
  states = states;
  cells = cells_from 1 (map felt (words ++ 12 ∷ 0 ∷ 12 ∷ 5 ∷ 25 ∷ []));
  shown = 10 ∷ 11 ∷ [];
  range_begin = 10;
  range_count = range_count;
}

-- the offsets of the word at pc 5, where the last state is, lie within those of the others
stated_numbers : let s = public_of (run_with 0) in (s.steps ∷ s.ap_first.number ∷ s.ap_last.number ∷ s.rc_min ∷ s.rc_max ∷ []) ≡ 4 ∷ 12 ∷ 15 ∷ 32766 ∷ 32769 ∷ []
unfolding public_of stated_with small_numbers run_small_values rows_of row_at as_row row_of tilde_of range_rows_of limb_row limb_at cells_from small_values row_offsets limbs least_of greatest_of decoding flags_of word_of breaks first_broken field_add field_mul field_of_int field_neg memory_of
stated_numbers = refl

stated_cells : map numbers_of (public_of (run_with 0)).cells ≡ (10, 12) ∷ (11, 0) ∷ []
unfolding public_of stated_with cells_at filler_at cells_from memory_of
stated_cells = refl

-- the limbs of the range cell are 12, 0 and 0
stated_with_range_cell : let s = public_of (run_with 1) in (s.rc_min ∷ s.rc_max ∷ s.range_begin.number ∷ s.range_count ∷ []) ≡ 0 ∷ 32769 ∷ 10 ∷ 1 ∷ []
unfolding public_of stated_with small_numbers run_small_values rows_of row_at as_row row_of tilde_of range_rows_of limb_row limb_at cells_from small_values row_offsets limbs least_of greatest_of decoding flags_of word_of breaks first_broken field_add field_mul field_of_int field_neg memory_of
stated_with_range_cell = refl
