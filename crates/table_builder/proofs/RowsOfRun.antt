-- The rows of a legal run: one for each step, which tells it.
use Rattle.std.proofs.Common.{◌≡◌, ℕ, suc, ◌+◌, ◌-◌, ◌<◌, ◌≤◌, ◌∙◌, List, [], ◌∷◌, ◌++◌, length, get_or, drop, map, zip, filter_map, Some, refl, sym, ap, ap₂, subst, arith}
use Rattle.std.specs.Prelude.{All}
use Rattle.std.specs.List.{AllByRecursion, AllZip}
use Rattle.std.proofs.lemmas.List.Elements.{All-from_recursion, recursion_from_All}
use Rattle.std.proofs.lemmas.List.{length-map}
use Rattle.goldilocks.specs.Field.{prime}
use Rattle.casm_word.specs.Transition.{Memory, Registers, registers, next}
use Rattle.casm_word.specs.Run.{steps, LegalRun}
use Rattle.casm_word.proofs.Runs.{length-steps}
use Rattle.cpu_rows.specs.Columns.{Columns, columns, state_of, IsRow}
use Rattle.cpu_rows.specs.Equations.{Meets}
use Rattle.cpu_rows.specs.Steps.{IsRowOf, Tells}
use Rattle.cpu_rows.specs.Table.{states_of, with_next}
use Rattle.cpu_rows.proofs.RowOfStep.{Tells-from_row_of}
use Rattle.trace_files.specs.TraceFile.{IsState}
use Rattle.table_builder.specs.Rows.{row_at, as_row, as_state, rows_of, last_of, no_state}
use Rattle.table_builder.proofs.AsRows.{columns-as_row, registers-as_state, sixteen-as_row}
use Rattle.table_builder.proofs.StepRows.{row_at-Some}

-- the row is that of the step, and tells it
pub record IsTold (m : Memory) (step : Registers × Registers) (c : Columns) : Type 0 where
  pub row : IsRow c
  pub of_step : IsRowOf m step.0 c
  pub tells : Tells m step.0 step.1 c

-- the rows of steps, as numbers
abbrev pub columns_of : Memory → List (Registers × Registers) → List Columns
columns_of m pairs = filter_map (λ step. row_at m step.0) pairs

module _ (m : Memory) (low : (a v : ℕ) → m a ≡ Some v → v < prime) where
  told_of_step : (step : Registers × Registers) → IsState step.0 → next m step.0 ≡ Some step.1 → (c : Columns) × (row_at m step.0 ≡ Some c) × IsTold m step c
  told_of_step step small legal =
      let made = row_at-Some m step.0 step.1 low small.pc small.ap small.fp legal in
      (made.0, made.1, record { row = made.2; of_step = made.3; tells = Tells-from_row_of m step.0 step.1 made.0 made.2 made.3 legal })

  pub told_rows : (pairs : List (Registers × Registers)) → AllByRecursion (λ step. IsState step.0) pairs → AllByRecursion (λ step. next m step.0 ≡ Some step.1) pairs → AllZip (IsTold m) pairs (columns_of m pairs)
  told_rows [] small legal = tt
  told_rows (step ∷ pairs) small legal =
      let made = told_of_step step small.0 legal.0 in
      let here = made.1 in
      rw here (made.2, told_rows pairs small.1 legal.1)

-- ---- what follows of rows that tell steps

pub columns_kept : (m : Memory) (pairs : List (Registers × Registers)) (cs : List Columns) → AllZip (IsTold m) pairs cs → map columns (map as_row cs) ≡ cs
columns_kept m [] [] all = refl
columns_kept m [] (c ∷ cs) all = absurd all
columns_kept m (step ∷ pairs) [] all = absurd all
columns_kept m (step ∷ pairs) (c ∷ cs) all = ap₂ (λ x xs. x ∷ xs) (columns-as_row c all.0.row.in_field) (columns_kept m pairs cs all.1)

pub count_kept : (m : Memory) (pairs : List (Registers × Registers)) (cs : List Columns) → AllZip (IsTold m) pairs cs → length cs ≡ length pairs
count_kept m [] [] all = refl
count_kept m [] (c ∷ cs) all = absurd all
count_kept m (step ∷ pairs) [] all = absurd all
count_kept m (step ∷ pairs) (c ∷ cs) all = ap suc (count_kept m pairs cs all.1)

pub all_sixteen : (m : Memory) (pairs : List (Registers × Registers)) (cs : List Columns) → AllZip (IsTold m) pairs cs → AllByRecursion (λ r. length r.tilde ≡ 16) (map as_row cs)
all_sixteen m [] [] all = tt
all_sixteen m [] (c ∷ cs) all = absurd all
all_sixteen m (step ∷ pairs) [] all = absurd all
all_sixteen m (step ∷ pairs) (c ∷ cs) all = (sixteen-as_row c all.0.row, all_sixteen m pairs cs all.1)

pub states_kept : (m : Memory) (pairs : List (Registers × Registers)) (cs : List Columns) → AllZip (IsTold m) pairs cs → map state_of cs ≡ map (λ step. step.0) pairs
states_kept m [] [] all = refl
states_kept m [] (c ∷ cs) all = absurd all
states_kept m (step ∷ pairs) [] all = absurd all
states_kept m (step ∷ pairs) (c ∷ cs) all = ap₂ (λ x xs. x ∷ xs) all.0.tells.state (states_kept m pairs cs all.1)

-- each row with the state behind it
pub all_meet : (m : Memory) (xs ys : List Registers) (cs : List Columns) → AllZip (IsTold m) (zip xs ys) cs → AllByRecursion (λ row. Meets row.0 row.1) (zip cs ys)
all_meet m [] ys [] all = tt
all_meet m [] ys (c ∷ cs) all = absurd all
all_meet m (x ∷ xs) [] [] all = tt
all_meet m (x ∷ xs) [] (c ∷ cs) all = absurd all
all_meet m (x ∷ xs) (y ∷ ys) [] all = absurd all
all_meet m (x ∷ xs) (y ∷ ys) (c ∷ cs) all = (all.0.tells.meets, all_meet m xs ys cs all.1)

-- ---- the states of a list are those that its steps begin in, and the last one

pub last_of-later : (s t : Registers) (rest : List Registers) → last_of (s ∷ t ∷ rest) ≡ last_of (t ∷ rest)
last_of-later s t rest =
    let place : length (s ∷ t ∷ rest) - 1 ≡ suc (length (t ∷ rest) - 1) = omega arith in
    ap (λ n. get_or (s ∷ t ∷ rest) n no_state) place

pub states_from_steps : (s : Registers) (rest : List Registers) → map (λ step. step.0) (steps (s ∷ rest)) ++ last_of (s ∷ rest) ∷ [] ≡ s ∷ rest
states_from_steps s [] = refl
states_from_steps s (t ∷ rest) =
    ap (λ ss. s ∷ ss) (ap (λ last. map (λ step. step.0) (steps (t ∷ rest)) ++ last ∷ []) (last_of-later s t rest) ∙ states_from_steps t rest)

-- ---- a whole run

module _ (m : Memory) (states : List Registers) (low : (a v : ℕ) → m a ≡ Some v → v < prime) (small : All IsState states) (run : LegalRun m states) where
  abbrev pub cs : List Columns
  cs = columns_of m (steps states)

  each_small : AllByRecursion (λ step. IsState step.0) (steps states)
  each_small = firsts_small states (drop 1 states) (recursion_from_All IsState states small)
    where
      firsts_small : (xs ys : List Registers) → AllByRecursion IsState xs → AllByRecursion (λ step. IsState step.0) (zip xs ys)
      firsts_small [] ys all = tt
      firsts_small (x ∷ xs) [] all = tt
      firsts_small (x ∷ xs) (y ∷ ys) all = (all.0, firsts_small xs ys all.1)

  pub run_told : AllZip (IsTold m) (steps states) cs
  run_told = told_rows m low (steps states) each_small (recursion_from_All (λ step. next m step.0 ≡ Some step.1) (steps states) run.each_next)

  pub run_columns : map columns (rows_of m states) ≡ cs
  unfolding rows_of
  run_columns = columns_kept m (steps states) cs run_told

  pub run_row_count : length (rows_of m states) + 1 ≡ length states
  unfolding rows_of
  run_row_count = omega (arith, length-map cs as_row, count_kept m (steps states) cs run_told, length-steps states, run.has_step)

  pub run_sixteen : All (λ r. length r.tilde ≡ 16) (rows_of m states)
  unfolding rows_of
  run_sixteen = All-from_recursion (λ r. length r.tilde ≡ 16) (map as_row cs) (all_sixteen m (steps states) cs run_told)

  pub last_kept : registers (as_state (last_of states)) ≡ last_of states
  last_kept =
      let is : IsState (last_of states) = small (length states - 1) no_state (omega (arith, run.has_step)) in
      registers-as_state (last_of states) is.pc is.ap is.fp

  pub run_states : states_of (map columns (rows_of m states)) (registers (as_state (last_of states))) ≡ states
  run_states =
      ap₂ states_of run_columns last_kept
      ∙ (ap (λ ss. ss ++ last_of states ∷ []) (states_kept m (steps states) cs run_told)
      ∙ from_steps states run.has_step)
    where
      from_steps : (xs : List Registers) → 2 ≤ length xs → map (λ step. step.0) (steps xs) ++ last_of xs ∷ [] ≡ xs
      from_steps [] some = absurd (omega arith)
      from_steps (s ∷ rest) some = states_from_steps s rest

  pub run_meets : All (λ row. Meets row.0 row.1) (with_next (map columns (rows_of m states)) (registers (as_state (last_of states))))
  run_meets =
      let P : List (Columns × Registers) → Type 0 = λ rows. All (λ row. Meets row.0 row.1) rows in
      let all : P (zip cs (drop 1 states)) = All-from_recursion (λ row. Meets row.0 row.1) (zip cs (drop 1 states)) (all_meet m states (drop 1 states) cs run_told) in
      subst P (sym (ap₂ (λ rows ss. zip rows (drop 1 ss)) run_columns run_states)) all
