-- Faults of rows one after another, and the run that rows with none are.
use Rattle.std.proofs.Common.{◌≡◌, ℕ, ◌+◌, ◌<◌, ◌∙◌, List, [], ◌∷◌, length, get_or, drop, map, Option, Some, None, sym, ap, subst, arith, length-drop, length-append, add_comm}
use Rattle.std.specs.List.{All}
use Rattle.std.specs.Prelude.{slice_get}
use Rattle.std.proofs.lemmas.List.{length-map, get_or_append_left, get_or_default}
use Rattle.std.proofs.lemmas.List.Elements.{All-get_or, All-from_get_or}
use Rattle.std.proofs.lemmas.Option.{slice_get-get_or}
use Rattle.std.proofs.Math.Seq.{get_or-append_seam}
use Rattle.std.proofs.lemmas.Grind.{get_or_after_one}
use Rattle.std.proofs.lemmas.Slice.Zip.{get_or-zip, length-zip}
use Rattle.std.proofs.Math.ListN.{get_or-map}
use Rattle.casm_word.specs.Transition.{Memory, Registers, next}
use Rattle.casm_word.specs.Run.{LegalRun}
use Rattle.casm_word.proofs.Runs.{legal_run-from_steps}
use Rattle.cpu_rows.specs.declared.Row.{Row}
use Rattle.cpu_rows.specs.Columns.{Columns, columns, state_of}
use Rattle.cpu_rows.specs.Equations.{Meets, fault}
use Rattle.cpu_rows.specs.Steps.{HasSmallOffsets, HasCells, row_accesses, IsStep}
use Rattle.cpu_rows.proofs.Faults.{fault-None}
use Rattle.cpu_rows.specs.Table.{states_of, with_next, faults}

pub length-states_of : (rows : List Columns) (last : Registers) → length (states_of rows last) ≡ length rows + 1
length-states_of rows last = omega (arith, length-append (map state_of rows) (last ∷ []), length-map rows state_of)

pub length-with_next : (rows : List Columns) (last : Registers) → length (with_next rows last) ≡ length rows
length-with_next rows last = omega (arith, length-zip rows (drop 1 (states_of rows last)), length-drop 1 (states_of rows last), length-states_of rows last)

pub get_or-with_next : (rows : List Columns) (last : Registers) (i : ℕ) (d : Columns) (e : Registers) → i < length rows → get_or (with_next rows last) i (d, e) ≡ (get_or rows i d, get_or (states_of rows last) (i + 1) e)
get_or-with_next rows last i d e h =
    get_or-zip rows (drop 1 (states_of rows last)) i (d, e) h (omega (arith, length-drop 1 (states_of rows last), length-states_of rows last))
    ∙ ap (λ t. (get_or rows i d, t)) (get_or_after_one (states_of rows last) i e ∙ ap (λ k. get_or (states_of rows last) k e) (add_comm 1 i))

pub get_or-states_of : (rows : List Columns) (last : Registers) (i : ℕ) (d : Columns) (e : Registers) → i < length rows → get_or (states_of rows last) i e ≡ state_of (get_or rows i d)
get_or-states_of rows last i d e h =
    let inside : i < length (map state_of rows) = omega (arith, length-map rows state_of) in
    get_or_append_left (map state_of rows) (last ∷ []) e i inside
    ∙ (get_or_default (map state_of rows) i e (state_of d) inside ∙ get_or-map state_of rows i d)

pub get_or-last : (rows : List Columns) (last e : Registers) → get_or (states_of rows last) (length rows) e ≡ last
get_or-last rows last e =
    ap (λ n. get_or (states_of rows last) n e) (sym (length-map rows state_of)) ∙ get_or-append_seam (map state_of rows) last [] e

-- the fault of the row at i
pub faults-at : (rows : List Columns) (last : Registers) (i : ℕ) (d : Columns) (e : Registers) → i < length rows → slice_get (faults rows last) i ≡ Some (fault (get_or rows i d) (get_or (states_of rows last) (i + 1) e))
unfolding faults
faults-at rows last i d e h =
    let f : Columns × Registers → Option ℕ = λ p. fault p.0 p.1 in
    let inside : i < length (map f (with_next rows last)) = omega (arith, length-map (with_next rows last) f, length-with_next rows last) in
    slice_get-get_or (map f (with_next rows last)) i (f (d, e)) inside
    ∙ ap Some (get_or-map f (with_next rows last) i (d, e) ∙ ap f (get_or-with_next rows last i d e h))

-- every row meets the equations exactly where each has no fault
pub all_meet : (rows : List Columns) (last : Registers) (d : Columns) (e : Registers) → ((i : ℕ) → i < length rows → slice_get (faults rows last) i ≡ Some None) → All (λ p. Meets p.0 p.1) (with_next rows last)
all_meet rows last d e none =
    let P : Columns × Registers → Type 0 = λ p. Meets p.0 p.1 in
    All-from_get_or P (with_next rows last) (d, e) (λ i h.
    let inside : i < length rows = omega (arith, length-with_next rows last) in
    let f : Some (fault (get_or rows i d) (get_or (states_of rows last) (i + 1) e)) ≡ Some None = sym (faults-at rows last i d e inside) ∙ none i inside in
    let g : fault (get_or rows i d) (get_or (states_of rows last) (i + 1) e) ≡ None = cc in
    subst P (sym (get_or-with_next rows last i d e inside)) ((fault-None (get_or rows i d) (get_or (states_of rows last) (i + 1) e)).0 g))

pub meet_at : (rows : List Columns) (last : Registers) (d : Columns) (e : Registers) (i : ℕ) → i < length rows → All (λ p. Meets p.0 p.1) (with_next rows last) → Meets (get_or rows i d) (get_or (states_of rows last) (i + 1) e)
meet_at rows last d e i h all =
    let P : Columns × Registers → Type 0 = λ p. Meets p.0 p.1 in
    subst P (get_or-with_next rows last i d e h) (All-get_or P (with_next rows last) i (d, e) (omega (arith, length-with_next rows last)) all)

-- a fault contradicts that all meet
pub not_all_meet : (rows : List Columns) (last : Registers) (d : Columns) (e : Registers) (i k : ℕ) → i < length rows → slice_get (faults rows last) i ≡ Some (Some k) → All (λ p. Meets p.0 p.1) (with_next rows last) → ⊥
not_all_meet rows last d e i k h f all =
    let g : fault (get_or rows i d) (get_or (states_of rows last) (i + 1) e) ≡ None = (fault-None (get_or rows i d) (get_or (states_of rows last) (i + 1) e)).1 (meet_at rows last d e i h all) in
    let s : Some (fault (get_or rows i d) (get_or (states_of rows last) (i + 1) e)) ≡ Some (Some k) = sym (faults-at rows last i d e h) ∙ f in
    some_none (sym s ∙ ap Some g)
  where
    some_none : Some (Some k) ≡ Some None → ⊥
    some_none h = cc

-- the row at k is a step, where its offsets have sixteen bits
abbrev pub IsStepAt : List Columns → Registers → ℕ → Type 0
IsStepAt rows last k = (d : Columns) → HasSmallOffsets (get_or rows k d) → IsStep (get_or rows k d) (get_or (states_of rows last) (k + 1) last)

-- rows that are all steps are a run
pub run_of_steps : (rows : List Columns) (last : Registers) (d : Columns) → 0 < length rows → ((k : ℕ) → k < length rows → IsStepAt rows last k) → All HasSmallOffsets rows → (m : Memory) → All (λ r. HasCells m (row_accesses r)) rows → LegalRun m (states_of rows last)
run_of_steps rows last d some steps small m cells =
    legal_run-from_steps m (states_of rows last) last (omega (arith, length-states_of rows last)) (λ k h.
    let inside : k < length rows = omega (arith, length-states_of rows last) in
    let step : next m (state_of (get_or rows k d)) ≡ Some (get_or (states_of rows last) (k + 1) last) =
    (steps k inside d (All-get_or HasSmallOffsets rows k d inside small)).step m
    (All-get_or (λ r. HasCells m (row_accesses r)) rows k d inside cells) in
    rw (get_or-states_of rows last k d last inside) step)

-- ---- the same of a list of rows as the code has them

pub faults-of_row : (rows : List Row) (last : Registers) (i : ℕ) (row : Row) (after : Registers) (found : Option ℕ) → i < length rows → row ≡ get_or rows i row → after ≡ get_or (states_of (map columns rows) last) (i + 1) last → found ≡ fault (columns row) after → slice_get (faults (map columns rows) last) i ≡ Some found
faults-of_row rows last i row after found h e p f =
    let inside : i < length (map columns rows) = omega (arith, length-map rows columns) in
    let same : get_or (map columns rows) i (columns row) ≡ columns row = get_or-map columns rows i row ∙ sym (ap columns e) in
    faults-at (map columns rows) last i (columns row) last inside
    ∙ ap Some (rw (same, ← p) (sym f))

abbrev nowhere : Columns
nowhere = record {
  pc = 0;
  ap = 0;
  fp = 0;
  inst = 0;
  tilde = [];
  off_dst = 0;
  off_op0 = 0;
  off_op1 = 0;
  dst_addr = 0;
  op0_addr = 0;
  op1_addr = 0;
  dst = 0;
  op0 = 0;
  op1 = 0;
  mul = 0;
  res = 0;
  t0 = 0;
  t1 = 0;
}

pub all_meet_in : (rows : List Row) (last : Registers) → ((i : ℕ) → i < length rows → slice_get (faults (map columns rows) last) i ≡ Some None) → All (λ p. Meets p.0 p.1) (with_next (map columns rows) last)
all_meet_in rows last none = all_meet (map columns rows) last nowhere last (λ i h. none i (omega (arith, h, length-map rows columns)))

pub not_all_meet_in : (rows : List Row) (last : Registers) (i k : ℕ) → i < length rows → slice_get (faults (map columns rows) last) i ≡ Some (Some k) → All (λ p. Meets p.0 p.1) (with_next (map columns rows) last) → ⊥
not_all_meet_in rows last i k h f all = not_all_meet (map columns rows) last nowhere last i k (omega (arith, length-map rows columns)) f all

pub step-of_row : (rows : List Row) (last : Registers) (i : ℕ) (row : Row) (after : Registers) → i < length rows → row ≡ get_or rows i row → after ≡ get_or (states_of (map columns rows) last) (i + 1) last → (HasSmallOffsets (columns row) → IsStep (columns row) after) → IsStepAt (map columns rows) last i
step-of_row rows last i row after h e p step d =
    let inside : i < length (map columns rows) = omega (arith, length-map rows columns) in
    let same : get_or (map columns rows) i d ≡ columns row =
    get_or_default (map columns rows) i d (columns row) inside ∙ (get_or-map columns rows i row ∙ sym (ap columns e)) in
    rw (same, ← p) step

pub run_in : (rows : List Row) (last : Registers) → 0 < length rows → ((k : ℕ) → k < length rows → IsStepAt (map columns rows) last k) → All HasSmallOffsets (map columns rows) → (m : Memory) → All (λ r. HasCells m (row_accesses r)) (map columns rows) → LegalRun m (states_of (map columns rows) last)
run_in rows last some steps small m cells =
    run_of_steps (map columns rows) last nowhere (omega (arith, length-map rows columns)) (λ k h. steps k (omega (arith, h, length-map rows columns))) small m cells
