-- The rows of the steps, built one after another.
use Rattle.std.proofs.Common.{◌≡◌, ℕ, ◌+◌, ◌≤◌, ◌<◌, ◌∙◌, Bool, true, false, List, [], ◌∷◌, ◌++◌, length, get_or, take, map, filter_map, Option, Some, None, refl, sym, ap, arith}
use Rattle.std.specs.List.{cons_option}
use Rattle.std.specs.Option.{option_map}
use Rattle.std.proofs.Math.ListN.{get_or-map}
use Rattle.std.proofs.lemmas.List.{length-map, map-append, take_more, take_all}
use Rattle.std.proofs.lemmas.List.Elements.{filter_map-append}
use Rattle.casm_word.specs.declared.State.{State}
use Rattle.casm_word.specs.Transition.{Memory, Registers, registers, outcome, next}
use Rattle.casm_word.specs.Run.{steps, is_next, first_refused}
use Rattle.casm_word.proofs.Outcomes.{outcome-next}
use Rattle.casm_word.proofs.Runs.{length-steps, get_or-steps}
use Rattle.casm_word.proofs.RefusedRuns.{is_next-true, is_next-same}
use Rattle.cpu_rows.specs.declared.Row.{Row}
use Rattle.cpu_rows.specs.Columns.{Columns, columns}
use Rattle.cpu_rows.specs.Steps.{IsRowOf}
use Rattle.table_builder.specs.Rows.{row_at, as_row, rows_of}
use Rattle.table_builder.specs.Findings.{Step, step_finding}
use Rattle.table_builder.proofs.BuiltRow.{row_at-row}
use Rattle.table_builder.proofs.Kept.{row_kept}

-- the rows of the first steps
abbrev pub rows_up_to : Memory → List State → ℕ → List Row
rows_up_to m states k = map as_row (filter_map (λ (step : Registers × Registers). row_at m step.0) (take k (steps (map registers states))))

pub step_goes : (m : Memory) (s t : Registers) → next m s ≡ Some t → is_next (outcome m s) t ≡ true
step_goes m s t goes = is_next-same (outcome m s) t ((outcome-next m s t).1 goes)

pub step_stays : (m : Memory) (s t : Registers) → (next m s ≡ Some t → false ≡ true) → is_next (outcome m s) t ≡ false
step_stays m s t stays = no (is_next (outcome m s) t) (λ same. stays ((outcome-next m s t).0 (is_next-true (outcome m s) t same)))
  where
    no : (b : Bool) → (b ≡ true → false ≡ true) → b ≡ false
    no true never = sym (never refl)
    no false never = refl

pub one_more_row : (m : Memory) (states : List State) (i : ℕ) (before : State) (row : Row) (rows after : List Row) → i + 1 < length states → before ≡ get_or states i before → IsRowOf m (registers before) (columns row) → rows ≡ rows_up_to m states i → after ≡ rows ++ row ∷ [] → after ≡ rows_up_to m states (i + 1)
one_more_row m states i before row rows after within before_is of_step so_far e =
    let all = steps (map registers states) in
    let d : Registers × Registers = (registers before, registers before) in
    let h : Registers × Registers → Option Columns = λ step. row_at m step.0 in
    let step : Registers × Registers = get_or all i d in
    let count : length (map registers states) ≡ length states = length-map states registers in
    let inside : i < length all = omega (arith, length-steps (map registers states), count) in
    let from : step.0 ≡ registers before =
    ap (λ (p : Registers × Registers). p.0) (get_or-steps (map registers states) i (registers before) (omega (arith, count)))
    ∙ (get_or-map registers states i before ∙ sym (ap registers before_is)) in
    let here : h step ≡ Some (columns row) = ap (row_at m) from ∙ row_at-row m (registers before) row of_step in
    let more : filter_map h (take (i + 1) all) ≡ filter_map h (take i all) ++ columns row ∷ [] =
    ap (filter_map h) (take_more all i d inside)
    ∙ (filter_map-append h (take i all) (step ∷ [])
    ∙ ap (λ o. filter_map h (take i all) ++ cons_option o []) here) in
    e
    ∙ (ap (λ rs. rs ++ row ∷ []) so_far
    ∙ sym (ap (map as_row) more
    ∙ (map-append as_row (filter_map h (take i all)) (columns row ∷ [])
    ∙ ap (λ r. rows_up_to m states i ++ r ∷ []) (row_kept row))))

pub all_rows : (m : Memory) (states : List State) (i : ℕ) (rows : List Row) → length states ≤ i + 1 → rows ≡ rows_up_to m states i → rows ≡ rows_of m (map registers states)
unfolding rows_of
all_rows m states i rows past so_far =
    let all = steps (map registers states) in
    so_far ∙ ap (λ ss. map as_row (filter_map (λ (step : Registers × Registers). row_at m step.0) ss)) (take_all i all (omega (arith, length-steps (map registers states), length-map states registers)))

pub step_refused : (m : Memory) (states : List Registers) (k : ℕ) (s : Registers) → Some (k, outcome m s) ≡ first_refused m states → step_finding m states ≡ Some (Step k (outcome m s))
unfolding step_finding
step_refused m states k s is = ap (option_map (λ refused. Step refused.0 refused.1)) (sym is)

pub no_step_refused : (m : Memory) (states : List Registers) → first_refused m states ≡ None → step_finding m states ≡ None
unfolding step_finding
no_step_refused m states none = ap (option_map (λ refused. Step refused.0 refused.1)) none
