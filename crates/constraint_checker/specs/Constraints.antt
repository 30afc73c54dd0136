-- Every written constraint on the tables of a run, its program and its public input. "The whitepaper" is Cairo's, ePrint
-- 2021/1063.
use Rattle.std.specs.Prelude.{ℕ, ◌≡◌, ◌+◌, ◌-◌, Bool, ◌==◌, List, [], ◌∷◌, ◌++◌, map, length, drop, Option, is_none, unwrap_or, slice_index_or, All}
use Rattle.std.specs.List.{flat_map, enumerate_from, zip}
use Rattle.goldilocks.specs.declared.Felt.{Felt}
use Rattle.goldilocks.specs.declared.Pair.{Pair}
use Rattle.casm_word.specs.Transition.{Registers, registers}
use Rattle.program_file.specs.Listing.{Listing}
use Rattle.public_input.specs.Statement.{Statement}
use Rattle.cpu_rows.specs.Columns.{Columns, columns}
use Rattle.cpu_rows.specs.Equations.{equations, holds, Meets}
use Rattle.cpu_rows.specs.Table.{states_of, with_next}
use Rattle.sorted_lists.specs.Climbing.{climb}
use Rattle.memory_columns.specs.Equations.{m1, m2, pair_difference, M1, M2, M3}
use Rattle.range_columns.specs.declared.RangeRow.{RangeRow}
use Rattle.range_columns.specs.Limbs.{limb_limit, joined_limbs, V1}
use Rattle.range_columns.specs.Equations.{is_number, first_number, last_number, range_difference, Q1, Q2, Q3, Q4}
use Rattle.table_file.specs.Tables.{Contents}
use Rattle.constraint_checker.specs.declared.Constraint.{Constraint}
use Rattle.constraint_checker.specs.declared.Constraint.TheVariants.{P, C, V, M, Q}
use Rattle.constraint_checker.specs.Lists.{accesses, table_small_values}

-- ---- what the constraints speak of

-- Each row as numbers, with the state that follows it: that of the next row, and for the last row the last state. The
-- whitepaper's columns of the trace.
abbrev pub rows_with_next : Contents → List (Columns × Registers)
rows_with_next tables = with_next (map columns tables.rows) (registers tables.last)

-- The states of the rows, and the last state after them. The whitepaper's register columns.
abbrev pub states : Contents → List Registers
states tables = states_of (map columns tables.rows) (registers tables.last)

-- The first state: that of the first row. Without rows it is the last state. The whitepaper's register columns.
abbrev pub first_state : Contents → Registers
first_state tables = slice_index_or (states tables) 0 (registers tables.last)

-- The last state, after all rows. The whitepaper's register columns.
abbrev pub last_state : Contents → Registers
last_state tables = registers tables.last

-- ---- the constraints one after another

-- A written constraint at one place of the tables: its name, the row that its failure is reported at, and whether it
-- holds. Own.
pub record Condition : Type 0 where
  pub constraint : Constraint
  pub row : ℕ
  pub holds : Bool

-- A condition by its parts. Own.
abbrev pub condition : Constraint → ℕ → Bool → Condition
condition constraint row holds = record { constraint = constraint; row = row; holds = holds }

-- That two lists are one. They are given by the first place at which they differ, where there is one. Own.
abbrev pub are_one : Constraint → Option ℕ → Condition
are_one constraint difference = condition constraint (unwrap_or difference 0) (is_none difference)

-- What is asked of each item of a list and its place, one item after another. The first item has the place `start`. Own.
abbrev pub at_each : {X : Type 0} → ℕ → List X → (ℕ → X → List Condition) → List Condition
at_each start items asked = flat_map (λ at. asked at.0 at.1) (enumerate_from start items)

-- Each item with the one after it. Own.
abbrev pub neighbours : {X : Type 0} → List X → List (X × X)
neighbours items = zip items (drop 1 items)

-- P1 to P5: the counts and the first state. The whitepaper's constraints of the Cairo machine.
unfoldable pub start_conditions : Listing → Statement → Contents → List Condition
start_conditions program public tables =
    let first = first_state tables in
    condition (P 1) 0 (length tables.rows == public.steps)
    ∷ condition (P 2) 0 (length tables.range == public.range_count)
    ∷ condition (P 3) 0 (first.pc == 1 + program.start)
    ∷ condition (P 4) 0 (first.ap == public.ap_first.number)
    ∷ condition (P 5) 0 (first.fp == public.ap_first.number)
    ∷ []

-- C1 to C39 of each of these rows and the state after it, where the first of them is row `start`. The whitepaper's
-- constraints of the Cairo machine; C32 to C39 are own.
unfoldable pub row_conditions : ℕ → List (Columns × Registers) → List Condition
row_conditions start rows = at_each start rows (λ i row. map (λ e. condition (C e.number) i (holds e)) (equations row.0 row.1))

-- P6 and P7: the last state. The whitepaper's constraints of the Cairo machine.
unfoldable pub end_conditions : Listing → Statement → Contents → List Condition
end_conditions program public tables =
    let last = last_state tables in
    condition (P 6) (length tables.rows) (last.pc == 1 + program.end)
    ∷ condition (P 7) (length tables.rows) (last.ap == public.ap_last.number)
    ∷ []

-- V1 of each of these range rows for cells of so many limbs, where the first of them is range row `start`. Own.
unfoldable pub limb_conditions : (limbs start : ℕ) → List RangeRow → List Condition
limb_conditions limbs start rows =
    at_each start rows (λ i row. condition (V 1) i (row.value.number == joined_limbs limbs row) ∷ [])

-- M1 and M2 of each sorted pair and the next, and M3 of all accesses and the sorted pairs. The whitepaper's constraints
-- of the memory; M3 is own.
unfoldable pub memory_conditions : (accessed sorted : List Pair) → List Condition
memory_conditions accessed sorted =
    at_each 0 (neighbours sorted) (λ i pair.
    condition (M 1) i (m1 pair.0 pair.1 == 0)
    ∷ condition (M 2) i (m2 pair.0 pair.1 == 0)
    ∷ [])
    ++ (are_one (M 3) (pair_difference accessed sorted) ∷ [])

-- Q1, Q2 of each sorted value and the next, Q3, and Q4 of all values and the sorted ones. They are to lie from the least
-- to the greatest. The whitepaper's constraints of the range checks; Q4 is own.
unfoldable pub small_conditions : (values sorted : List Felt) → (least greatest : ℕ) → List Condition
small_conditions values sorted least greatest =
    (condition (Q 1) 0 (is_number least (first_number sorted)) ∷ [])
    ++ at_each 0 (neighbours sorted) (λ i pair. condition (Q 2) i (climb pair.0.number pair.1.number == 0) ∷ [])
    ++ (condition (Q 3) (length sorted - 1) (is_number greatest (last_number sorted))
    ∷ are_one (Q 4) (range_difference values sorted)
    ∷ [])

-- P1 to P7, C1 to C39 and V1, which speak of single rows. The whitepaper's constraints of the Cairo machine; C32 to C39
-- and V1 are own.
unfoldable pub run_conditions : Listing → Statement → Contents → List Condition
run_conditions program public tables =
    start_conditions program public tables
    ++ row_conditions 0 (rows_with_next tables)
    ++ end_conditions program public tables
    ++ limb_conditions limb_limit 0 tables.range

-- All written constraints in their order. The whitepaper's constraints of the Cairo machine, of its memory and of its
-- range checks; C32 to C39, V1, M3 and Q4 are own.
unfoldable pub conditions : Listing → Statement → Contents → List Condition
conditions program public tables =
    run_conditions program public tables
    ++ memory_conditions (accesses program public tables) tables.pairs
    ++ small_conditions (table_small_values tables) tables.sorted_range public.rc_min public.rc_max

-- ---- the constraints, each once

-- Every written constraint holds. The whitepaper's constraints of the Cairo machine, of its memory and of its range
-- checks; C32 to C39, V1, M3 and Q4 are own.
pub record MeetsAll (program : Listing) (public : Statement) (tables : Contents) : Type 0 where
  -- P1: there are as many rows as steps.
  pub p1 : length tables.rows ≡ public.steps
  -- P2: there are as many range rows as the public input says.
  pub p2 : length tables.range ≡ public.range_count
  -- P3 to P5: the first state lies at the program's start, with ap and fp at the public first ap.
  pub p3 : (first_state tables).pc ≡ 1 + program.start
  pub p4 : (first_state tables).ap ≡ public.ap_first.number
  pub p5 : (first_state tables).fp ≡ public.ap_first.number
  -- C1 to C39, of each row and the state after it.
  pub rows : All (λ row. Meets row.0 row.1) (rows_with_next tables)
  -- P6 and P7: the last state lies at the program's end, with ap at the public last ap.
  pub p6 : (last_state tables).pc ≡ 1 + program.end
  pub p7 : (last_state tables).ap ≡ public.ap_last.number
  -- V1, of each range row, for cells of three limbs.
  pub v1 : All (V1 limb_limit) tables.range
  -- M1 to M3, of all accesses to the memory and the sorted pairs.
  pub m1 : M1 tables.pairs
  pub m2 : M2 tables.pairs
  pub m3 : M3 (accesses program public tables) tables.pairs
  -- Q1 to Q4, of all values of the range check and the sorted ones.
  pub q1 : Q1 tables.sorted_range public.rc_min
  pub q2 : Q2 tables.sorted_range
  pub q3 : Q3 tables.sorted_range public.rc_max
  pub q4 : Q4 (table_small_values tables) tables.sorted_range
