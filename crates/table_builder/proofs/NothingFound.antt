-- What it means that nothing is found: each question has the answer that lets tables stand.
use Rattle.std.proofs.Common.{◌≡◌, ℕ, ◌+◌, ◌-◌, ◌^◌, ◌<◌, ◌≤◌, Bool, true, false, nat_lt, if◌then◌else◌, List, [], ◌∷◌, ◌++◌, length, Option, Some, None, option_map, refl, sym, ap, ◌∙◌}
use Rattle.std.specs.Prelude.{All}
use Rattle.std.specs.List.{range_with_len}
use Rattle.std.proofs.lemmas.Bool.{ltb-true, ltb-false, lt-ltb, le-ltb}
use Rattle.std.proofs.lemmas.List.Elements.{All-weaker}
use Rattle.goldilocks.specs.declared.Pair.{Pair}
use Rattle.casm_word.specs.Transition.{Memory, Registers, Outcome}
use Rattle.casm_word.specs.Run.{first_refused}
use Rattle.goldilocks.specs.Felts.{numbers}
use Rattle.memory_columns.specs.Filling.{filler_limit}
use Rattle.program_file.specs.Listing.{Listing}
use Rattle.public_input.specs.Statement.{Statement}
use Rattle.access_lists.specs.Accesses.{program_cells}
use Rattle.table_builder.specs.declared.faults.Field.TheVariants.{Steps, PcFirst, ApFirst, FpFirst, PcLast, ApLast, Cell, RcMin, RcMax}
use Rattle.table_builder.specs.Rows.{first_of, last_of, range_address}
use Rattle.table_builder.specs.Columns.{least_of, greatest_of, reads, run_small_values, free_addresses}
use Rattle.table_builder.specs.Findings.{Finding, Mismatch, Step, RangeWidth, first_found, differs, end_findings, step_finding, cell_finding, cell_findings, range_finding, range_findings, limit_findings, width_finding, findings}
use Rattle.table_builder.proofs.Findings.{first_found-none, first_found-none_append, first_found-none_cons, first_found-cons_none, map-all_none, first_found-map_none, differs-none, differs-same}

-- the memory has the cell
abbrev pub Has : Memory → Pair → Type 0
Has m x = m x.addr.number ≡ Some x.value.number

-- the memory has range cell i, below 2^48
abbrev pub HasRange : Statement → Memory → ℕ → Type 0
HasRange public m i = (number : ℕ) × (m (range_address public i) ≡ Some number) × (number < 2 ^ 48)

pub record HasEnds (program : Listing) (public : Statement) (states : List Registers) : Type 0 where
  pub steps : public.steps ≡ length states - 1
  pub pc_first : 1 + program.start ≡ (first_of states).pc
  pub ap_first : public.ap_first.number ≡ (first_of states).ap
  pub fp_first : public.ap_first.number ≡ (first_of states).fp
  pub pc_last : 1 + program.end ≡ (last_of states).pc
  pub ap_last : public.ap_last.number ≡ (last_of states).ap

-- all answers
pub record Answered (program : Listing) (public : Statement) (m : Memory) (states : List Registers) : Type 0 where
  pub ends : HasEnds program public states
  pub legal : first_refused m states ≡ None
  pub cells : All (Has m) (program_cells program.words ++ public.cells)
  pub range : All (HasRange public m) (range_with_len 0 public.range_count)
  pub least : public.rc_min ≤ least_of (numbers (run_small_values public m states))
  pub greatest : greatest_of (numbers (run_small_values public m states)) ≤ public.rc_max
  pub width : length (free_addresses (reads program public m states)) ≤ filler_limit

-- ---- one question after another

ends-answered : (program : Listing) (public : Statement) (states : List Registers) → first_found (end_findings program public states) ≡ None → HasEnds program public states
unfolding end_findings
ends-answered program public states none =
    let a = first_found-none_cons (differs Steps public.steps (length states - 1)) _ none in
    let b = first_found-none_cons (differs PcFirst (1 + program.start) (first_of states).pc) _ a.1 in
    let c = first_found-none_cons (differs ApFirst public.ap_first.number (first_of states).ap) _ b.1 in
    let d = first_found-none_cons (differs FpFirst public.ap_first.number (first_of states).fp) _ c.1 in
    let e = first_found-none_cons (differs PcLast (1 + program.end) (last_of states).pc) _ d.1 in
    let f = first_found-none_cons (differs ApLast public.ap_last.number (last_of states).ap) _ e.1 in
    record {
      steps = differs-none Steps _ _ a.0;
      pc_first = differs-none PcFirst _ _ b.0;
      ap_first = differs-none ApFirst _ _ c.0;
      fp_first = differs-none FpFirst _ _ d.0;
      pc_last = differs-none PcLast _ _ e.0;
      ap_last = differs-none ApLast _ _ f.0;
    }

ends-asked : (program : Listing) (public : Statement) (states : List Registers) → HasEnds program public states → first_found (end_findings program public states) ≡ None
unfolding end_findings
ends-asked program public states h =
    first_found-cons_none (differs Steps public.steps (length states - 1)) _ (differs-same Steps _ _ h.steps)
    (first_found-cons_none (differs PcFirst (1 + program.start) (first_of states).pc) _ (differs-same PcFirst _ _ h.pc_first)
    (first_found-cons_none (differs ApFirst public.ap_first.number (first_of states).ap) _ (differs-same ApFirst _ _ h.ap_first)
    (first_found-cons_none (differs FpFirst public.ap_first.number (first_of states).fp) _ (differs-same FpFirst _ _ h.fp_first)
    (first_found-cons_none (differs PcLast (1 + program.end) (last_of states).pc) _ (differs-same PcLast _ _ h.pc_last)
    (first_found-cons_none (differs ApLast public.ap_last.number (last_of states).ap) [] (differs-same ApLast _ _ h.ap_last) refl)))))

step-answered : (m : Memory) (states : List Registers) → step_finding m states ≡ None → first_refused m states ≡ None
unfolding step_finding
step-answered m states none = nothing (first_refused m states) none
  where
    nothing : (o : Option (ℕ × Outcome)) → option_map (λ refused. Step refused.0 refused.1) o ≡ None → o ≡ None
    nothing None e = refl
    nothing (Some refused) e = cc

step-asked : (m : Memory) (states : List Registers) → first_refused m states ≡ None → step_finding m states ≡ None
unfolding step_finding
step-asked m states none = ap (option_map (λ refused. Step refused.0 refused.1)) none

cell-answered : (x : Pair) (o : Option ℕ) → cell_finding x o ≡ None → o ≡ Some x.value.number
cell-answered x None none = cc
cell-answered x (Some found) none = ap Some (sym (differs-none (Cell x.addr) x.value.number found none))

cell-asked : (x : Pair) (o : Option ℕ) → o ≡ Some x.value.number → cell_finding x o ≡ None
cell-asked x o has = ap (cell_finding x) has ∙ differs-same (Cell x.addr) x.value.number x.value.number refl

range-answered : (i address : ℕ) (o : Option ℕ) → range_finding i address o ≡ None → (number : ℕ) × (o ≡ Some number) × (number < 2 ^ 48)
range-answered i address None none = cc
range-answered i address (Some number) none = (number, refl, ltb-true number (2 ^ 48) (below (nat_lt number (2 ^ 48)) none))
  where
    below : (b : Bool) → (if b then None else Some (RangeWidth i)) ≡ None → b ≡ true
    below true e = refl
    below false e = cc

range-asked : (i address number : ℕ) (o : Option ℕ) → o ≡ Some number → number < 2 ^ 48 → range_finding i address o ≡ None
range-asked i address number o has low =
    ap (range_finding i address) has ∙ ap (λ b. if b then None else Some (RangeWidth i)) (lt-ltb number (2 ^ 48) low)

not_told : (b : Bool) (found : Finding) → (if b then Some found else None) ≡ None → b ≡ false
not_told true found e = cc
not_told false found e = refl

pub not_below : (a b : ℕ) (found : Finding) → (if nat_lt a b then Some found else None) ≡ None → b ≤ a
not_below a b found none = ltb-false a b (not_told (nat_lt a b) found none)

nothing_below : (a b : ℕ) (found : Finding) → b ≤ a → (if nat_lt a b then Some found else None) ≡ None
nothing_below a b found le = ap (λ t. if t then Some found else None) (le-ltb a b le)

-- ---- all of them

pub answered : (program : Listing) (public : Statement) (m : Memory) (states : List Registers) → first_found (findings program public m states) ≡ None → Answered program public m states
unfolding findings cell_findings range_findings limit_findings width_finding
answered program public m states none =
    let small = numbers (run_small_values public m states) in
    let accessed = reads program public m states in
    let ends = end_findings program public states in
    let step = step_finding m states ∷ [] in
    let cells = cell_findings program public m in
    let range = range_findings public m in
    let limits = limit_findings public small in
    let e = first_found-none (ends ++ step ++ cells ++ range ++ limits) (width_finding accessed ∷ []) none in
    let d = first_found-none (ends ++ step ++ cells ++ range) limits e.0 in
    let c = first_found-none (ends ++ step ++ cells) range d.0 in
    let b = first_found-none (ends ++ step) cells c.0 in
    let a = first_found-none ends step b.0 in
    let low = first_found-none_cons (if nat_lt (least_of small) public.rc_min then Some (Mismatch RcMin public.rc_min (least_of small)) else None) _ d.1 in
    let high = first_found-none_cons (if nat_lt public.rc_max (greatest_of small) then Some (Mismatch RcMax public.rc_max (greatest_of small)) else None) _ low.1 in
    record {
      ends = ends-answered program public states a.0;
      legal = step-answered m states (first_found-none_cons (step_finding m states) [] a.1).0;
      cells =
          All-weaker (λ x. cell_finding x (m x.addr.number) ≡ None) (Has m) (λ x. cell-answered x (m x.addr.number)) (program_cells program.words ++ public.cells)
          (map-all_none (λ x. cell_finding x (m x.addr.number)) (program_cells program.words ++ public.cells) b.1);
      range =
          All-weaker (λ i. range_finding i (range_address public i) (m (range_address public i)) ≡ None) (HasRange public m) (λ i. range-answered i (range_address public i) (m (range_address public i))) (range_with_len 0 public.range_count)
          (map-all_none (λ i. range_finding i (range_address public i) (m (range_address public i))) (range_with_len 0 public.range_count) c.1);
      least = not_below _ _ _ low.0;
      greatest = not_below _ _ _ high.0;
      width = not_below _ _ _ (first_found-none_cons (width_finding accessed) [] e.1).0;
    }

pub asked : (program : Listing) (public : Statement) (m : Memory) (states : List Registers) → Answered program public m states → first_found (findings program public m states) ≡ None
unfolding findings cell_findings range_findings limit_findings width_finding
asked program public m states h =
    let small = numbers (run_small_values public m states) in
    let accessed = reads program public m states in
    let ends = end_findings program public states in
    let step = step_finding m states ∷ [] in
    let cells = cell_findings program public m in
    let range = range_findings public m in
    let limits = limit_findings public small in
    first_found-none_append (ends ++ step ++ cells ++ range ++ limits) (width_finding accessed ∷ [])
    (first_found-none_append (ends ++ step ++ cells ++ range) limits
    (first_found-none_append (ends ++ step ++ cells) range
    (first_found-none_append (ends ++ step) cells
    (first_found-none_append ends step (ends-asked program public states h.ends)
    (first_found-cons_none (step_finding m states) [] (step-asked m states h.legal) refl))
    (first_found-map_none (λ x. cell_finding x (m x.addr.number)) (program_cells program.words ++ public.cells)
    (All-weaker (Has m) (λ x. cell_finding x (m x.addr.number) ≡ None) (λ x. cell-asked x (m x.addr.number)) (program_cells program.words ++ public.cells) h.cells)))
    (first_found-map_none (λ i. range_finding i (range_address public i) (m (range_address public i))) (range_with_len 0 public.range_count)
    (All-weaker (HasRange public m) (λ i. range_finding i (range_address public i) (m (range_address public i)) ≡ None) (λ i has. range-asked i (range_address public i) has.0 (m (range_address public i)) has.1 has.2) (range_with_len 0 public.range_count) h.range)))
    (first_found-cons_none _ _ (nothing_below (least_of small) public.rc_min _ h.least)
    (first_found-cons_none _ [] (nothing_below public.rc_max (greatest_of small) _ h.greatest) refl)))
    (first_found-cons_none (width_finding accessed) [] (nothing_below filler_limit (length (free_addresses accessed)) _ h.width) refl)
