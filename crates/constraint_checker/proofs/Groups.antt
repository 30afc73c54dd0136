-- The verdict on each group of conditions, by what the crates below find, and the verdict on all of them.
use Rattle.std.proofs.Common.{◌≡◌, ◌↔◌, ℕ, zero, suc, ◌+◌, ◌-◌, ◌<◌, ◌∙◌, inl, inr, Bool, true, false, not, eqb, cond, List, [], ◌∷◌, ◌++◌, length, get_or, map, Option, Some, None, refl, sym, ap, arith, zero-add}
use Rattle.std.specs.Prelude.{All, slice_get, position, unwrap_or}
use Rattle.std.specs.Option.{option_map, option_or}
use Rattle.std.proofs.lemmas.Bool.{cases_Bool, eqb-true, eq-eqb, not-true, not-false}
use Rattle.std.proofs.lemmas.List.Quantifiers.{position-Some}
use Rattle.goldilocks.specs.declared.Felt.{Felt}
use Rattle.goldilocks.specs.declared.Pair.{Pair}
use Rattle.casm_word.specs.Transition.{Registers, registers}
use Rattle.program_file.specs.Listing.{Listing}
use Rattle.public_input.specs.Statement.{Statement}
use Rattle.cpu_rows.specs.Columns.{Columns, columns}
use Rattle.cpu_rows.specs.Equations.{Meets, equations, fault}
use Rattle.cpu_rows.specs.Table.{faults, IsFirstFault}
use Rattle.cpu_rows.proofs.Faults.{fault-None}
use Rattle.sorted_lists.specs.Order.{in_order}
use Rattle.sorted_lists.specs.Difference.{list_difference}
use Rattle.sorted_lists.specs.Climbing.{climb, first_between}
use Rattle.memory_columns.specs.declared.ListFault.{ListFault}
use Rattle.memory_columns.specs.Equations.{pair_cmp, is_same_pair, m1, m2, pair_fault, first_memory_fault, fault_at as list_fault_at}
use Rattle.range_columns.specs.declared.RangeFault.{RangeFault}
use Rattle.range_columns.specs.declared.RangeRow.{RangeRow}
use Rattle.range_columns.specs.Limbs.{V1, meets_v1, joined_limbs, limb_limit}
use Rattle.range_columns.specs.Equations.{felt_cmp, is_same_felt, is_number, first_number, last_number, fault_at as range_fault_at, q1_fault, q2_fault, q3_fault, q4_fault, step_fault, first_range_fault}
use Rattle.table_file.specs.Tables.{Contents}
use Rattle.constraint_checker.specs.declared.Constraint.{Constraint}
use Rattle.constraint_checker.specs.declared.Constraint.TheVariants.{C, V, M, Q}
use Rattle.constraint_checker.specs.declared.Verdict.{Verdict}
use Rattle.constraint_checker.specs.declared.Verdict.TheVariants.{Accepted, Refused}
use Rattle.constraint_checker.specs.Lists.{accesses, table_small_values}
use Rattle.constraint_checker.specs.Constraints.{Condition, condition, are_one, at_each, neighbours, start_conditions, row_conditions, end_conditions, limb_conditions, run_conditions, memory_conditions, small_conditions, conditions, rows_with_next}
use Rattle.constraint_checker.specs.Verdict.{verdict_on, verdict}
use Rattle.constraint_checker.proofs.Verdicts.{first_refused, verdict_on-append, fails_here, holds_here, stays, second_stays, first_stays}
use Rattle.constraint_checker.proofs.EachItem.{none_refused, each_accepted, refused_at, of_number, of_number-accepted, of_equations, verdict_on-equations, of_place, verdict_on-neighbours}

-- ---- rows

asked_of_row : ℕ → Columns × Registers → List Condition
asked_of_row i row = of_equations i (equations row.0 row.1)

by_fault : (k : ℕ) (row : Columns × Registers) → verdict_on (asked_of_row k row) ≡ of_number C k (fault row.0 row.1)
unfolding fault asked_of_row
by_fault k row = verdict_on-equations k (equations row.0 row.1)

-- an item of a mapped list
mapped_at : {A B : Type 0} (f : A → B) (xs : List A) (j : ℕ) (y : B) → slice_get (map f xs) j ≡ Some y → (j < length xs) × ((d : A) → f (get_or xs j d) ≡ y)
mapped_at f [] j y e = absurd (cc)
mapped_at f (x ∷ xs) zero y e = (omega arith, λ d. cc)
mapped_at f (x ∷ xs) (suc j) y e =
    let later : (j < length xs) × ((d : _) → f (get_or xs j d) ≡ y) = mapped_at f xs j y e in
    (omega (arith, later.0), later.1)

pub rows_refused : (tables : Contents) (i k : ℕ) → IsFirstFault (map columns tables.rows) (registers tables.last) i k → verdict_on (row_conditions 0 (rows_with_next tables)) ≡ Refused (C k) i
unfolding row_conditions asked_of_row faults
rows_refused tables i k first =
    let f : Columns × Registers → Option ℕ = λ p. fault p.0 p.1 in
    let rows : List (Columns × Registers) = rows_with_next tables in
    let here = mapped_at f rows i (Some k) first.here in
    refused_at asked_of_row 0 i rows (Refused (C k) i) (λ e. cc) here.0
    (λ j d below. by_fault (0 + j) (get_or rows j d) ∙ ap (of_number C (0 + j)) ((mapped_at f rows j None (first.before j below)).1 d))
    (λ d. by_fault (0 + i) (get_or rows i d) ∙ (ap (of_number C (0 + i)) (here.1 d) ∙ ap (Refused (C k)) (zero-add i)))

pub rows_accepted : (tables : Contents) → (verdict_on (row_conditions 0 (rows_with_next tables)) ≡ Accepted) ↔ All (λ p. Meets p.0 p.1) (rows_with_next tables)
unfolding row_conditions asked_of_row
rows_accepted tables =
    let rows : List (Columns × Registers) = rows_with_next tables in (
      λ e j d lt.
          let none : of_number C (0 + j) (fault (get_or rows j d).0 (get_or rows j d).1) ≡ Accepted = sym (by_fault (0 + j) (get_or rows j d)) ∙ each_accepted asked_of_row 0 rows e j d lt in
          (fault-None (get_or rows j d).0 (get_or rows j d).1).0 (of_number-accepted C (0 + j) _ none),
      λ all.
          none_refused asked_of_row 0 rows
          (λ j d lt. by_fault (0 + j) (get_or rows j d) ∙ ap (of_number C (0 + j)) ((fault-None (get_or rows j d).0 (get_or rows j d).1).1 (all j d lt))),
    )

-- ---- range rows

asked_of_limbs : ℕ → ℕ → RangeRow → List Condition
asked_of_limbs limbs i row = condition (V 1) i (eqb row.value.number (joined_limbs limbs row)) ∷ []

limbs_hold : (limbs k : ℕ) (row : RangeRow) → meets_v1 limbs row ≡ true → verdict_on (asked_of_limbs limbs k row) ≡ Accepted
unfolding asked_of_limbs meets_v1
limbs_hold limbs k row e = holds_here (V 1) k (eqb row.value.number (joined_limbs limbs row)) [] e

limbs_fail : (limbs k : ℕ) (row : RangeRow) → meets_v1 limbs row ≡ false → verdict_on (asked_of_limbs limbs k row) ≡ Refused (V 1) k
unfolding asked_of_limbs meets_v1
limbs_fail limbs k row e = fails_here (V 1) k (eqb row.value.number (joined_limbs limbs row)) [] e

met_limbs : (limbs : ℕ) (row : RangeRow) → V1 limbs row → meets_v1 limbs row ≡ true
unfolding V1 meets_v1
met_limbs limbs row e = eq-eqb row.value.number (joined_limbs limbs row) e

met_where_accepted : (limbs k : ℕ) (row : RangeRow) → verdict_on (asked_of_limbs limbs k row) ≡ Accepted → V1 limbs row
unfolding V1 meets_v1
met_where_accepted limbs k row e =
    elim (cases_Bool (meets_v1 limbs row)) [
      | inl t ↦ eqb-true row.value.number (joined_limbs limbs row) t
      | inr f ↦ absurd (let h : Refused (V 1) k ≡ Accepted = sym (limbs_fail limbs k row f) ∙ e in cc)
    ]

pub limbs_refused : (limbs : ℕ) (rows : List RangeRow) (i : ℕ) → position (λ r. not (meets_v1 limbs r)) rows ≡ Some i → verdict_on (limb_conditions limbs 0 rows) ≡ Refused (V 1) i
unfolding limb_conditions asked_of_limbs
limbs_refused limbs rows i e =
    let fails : RangeRow → Bool = λ r. not (meets_v1 limbs r) in
    refused_at (asked_of_limbs limbs) 0 i rows (Refused (V 1) i) (λ h. cc) (position_within fails rows i e)
    (λ j d below. limbs_hold limbs (0 + j) (get_or rows j d) (not-false (meets_v1 limbs (get_or rows j d)) ((position-Some fails rows i d e).2 j below)))
    (λ d. limbs_fail limbs (0 + i) (get_or rows i d) (not-true (meets_v1 limbs (get_or rows i d)) ((position-Some fails rows i d e).1)) ∙ ap (Refused (V 1)) (zero-add i))
  where
    position_within : {X : Type 0} (p : X → Bool) (xs : List X) (i : ℕ) → position p xs ≡ Some i → i < length xs
    position_within p [] i e = absurd (cc)
    position_within p (x ∷ xs) i e = (position-Some p (x ∷ xs) i x e).0

pub limbs_accepted : (limbs : ℕ) (rows : List RangeRow) → (verdict_on (limb_conditions limbs 0 rows) ≡ Accepted) ↔ All (V1 limbs) rows
unfolding limb_conditions asked_of_limbs
limbs_accepted limbs rows = (
  λ e j d lt. met_where_accepted limbs (0 + j) (get_or rows j d) (each_accepted (asked_of_limbs limbs) 0 rows e j d lt),
  λ all. none_refused (asked_of_limbs limbs) 0 rows (λ j d lt. limbs_hold limbs (0 + j) (get_or rows j d) (met_limbs limbs (get_or rows j d) (all j d lt))),
)

-- ---- two lists that are to be one

asked_of_lists : (constraint : Constraint) (difference : Option ℕ) → verdict_on (are_one constraint difference ∷ []) ≡ of_number (λ _. constraint) (unwrap_or difference 0) difference
asked_of_lists constraint None = refl
asked_of_lists constraint (Some row) = refl

-- ---- the memory

asked_of_pairs : ℕ → Pair × Pair → List Condition
asked_of_pairs i pair = condition (M 1) i (eqb (m1 pair.0 pair.1) 0) ∷ condition (M 2) i (eqb (m2 pair.0 pair.1) 0) ∷ []

pairs_by_fault : (k : ℕ) (x y : Pair) → verdict_on (asked_of_pairs k (x, y)) ≡ of_number M k (pair_fault x y)
unfolding asked_of_pairs pair_fault
pairs_by_fault k x y = by_tests (eqb (m1 x y) 0) (eqb (m2 x y) 0)
  where
    by_tests : (a b : Bool) → verdict_on (condition (M 1) k a ∷ condition (M 2) k b ∷ []) ≡ of_number M k (cond a (cond b None (Some 2)) (Some 1))
    by_tests true true = refl
    by_tests true false = refl
    by_tests false b = refl

abbrev pub of_list_fault : Option ListFault → Verdict
of_list_fault None = Accepted
of_list_fault (Some f) = Refused (M f.number) f.row

pub memory_by_fault : (accessed sorted : List Pair) → verdict_on (memory_conditions accessed sorted) ≡ of_list_fault (first_memory_fault accessed sorted)
unfolding memory_conditions asked_of_pairs first_memory_fault
memory_by_fault accessed sorted =
    let difference : Option ℕ = list_difference is_same_pair (in_order pair_cmp accessed) (in_order pair_cmp sorted) in
    verdict_on-append (at_each 0 (neighbours sorted) asked_of_pairs) (are_one (M 3) difference ∷ [])
    ∙ (rw (verdict_on-neighbours M asked_of_pairs pair_fault pairs_by_fault sorted, asked_of_lists (M 3) difference)
    (joined (first_between pair_fault sorted) difference))
  where
    joined : (a : Option (ℕ × ℕ)) (b : Option ℕ) → first_refused (of_place M 0 a) (of_number (λ _. M 3) (unwrap_or b 0) b) ≡ of_list_fault (option_or (option_map (λ p. list_fault_at p.1 p.0) a) (option_map (λ row. list_fault_at 3 row) b))
    joined None None = refl
    joined None (Some row) = refl
    joined (Some p) b = ap (Refused (M p.1)) (zero-add p.0)

-- ---- the range checks

asked_of_values : ℕ → Felt × Felt → List Condition
asked_of_values i pair = condition (Q 2) i (eqb (climb pair.0.number pair.1.number) 0) ∷ []

values_by_fault : (k : ℕ) (x y : Felt) → verdict_on (asked_of_values k (x, y)) ≡ of_number Q k (step_fault x y)
unfolding asked_of_values step_fault
values_by_fault k x y = by_test (eqb (climb x.number y.number) 0)
  where
    by_test : (a : Bool) → verdict_on (condition (Q 2) k a ∷ []) ≡ of_number Q k (cond a None (Some 2))
    by_test true = refl
    by_test false = refl

abbrev pub of_range_fault : Option RangeFault → Verdict
of_range_fault None = Accepted
of_range_fault (Some f) = Refused (Q f.number) f.row

pub small_by_fault : (values sorted : List Felt) (low high : ℕ) → verdict_on (small_conditions values sorted low high) ≡ of_range_fault (first_range_fault values sorted low high)
unfolding small_conditions asked_of_values first_range_fault q1_fault q2_fault q3_fault q4_fault
small_by_fault values sorted low high =
    let difference : Option ℕ = list_difference is_same_felt (in_order felt_cmp values) (in_order felt_cmp sorted) in
    let least : Bool = is_number low (first_number sorted) in
    let greatest : Bool = is_number high (last_number sorted) in
    let first : List Condition = condition (Q 1) 0 least ∷ [] in
    let steps : List Condition = at_each 0 (neighbours sorted) asked_of_values in
    let front : verdict_on (first ++ steps) ≡ first_refused (verdict_on first) (of_place Q 0 (first_between step_fault sorted)) =
    verdict_on-append first steps ∙ ap (first_refused (verdict_on first)) (verdict_on-neighbours Q asked_of_values step_fault values_by_fault sorted) in
    verdict_on-append (first ++ steps) (condition (Q 3) (length sorted - 1) greatest ∷ are_one (Q 4) difference ∷ [])
    ∙ (rw front (joined least (first_between step_fault sorted) greatest (length sorted - 1) difference))
  where
    joined : (least : Bool) (steps : Option (ℕ × ℕ)) (greatest : Bool) (place : ℕ) (difference : Option ℕ) →
        first_refused (first_refused (verdict_on (condition (Q 1) 0 least ∷ [])) (of_place Q 0 steps)) (verdict_on (condition (Q 3) place greatest ∷ are_one (Q 4) difference ∷ []))
        ≡ of_range_fault (option_or (cond least None (Some (range_fault_at 1 0))) (option_or (option_map (λ p. range_fault_at p.1 p.0) steps) (option_or (cond greatest None (Some (range_fault_at 3 place))) (option_map (λ row. range_fault_at 4 row) difference))))
    joined false steps greatest place difference = refl
    joined true (Some p) greatest place difference = ap (Refused (Q p.1)) (zero-add p.0)
    joined true None false place difference = refl
    joined true None true place None = refl
    joined true None true place (Some row) = refl

-- ---- all of them

-- the conditions of the memory, and those of the small values
abbrev pub on_memory : Listing → Statement → Contents → List Condition
on_memory program public tables = memory_conditions (accesses program public tables) tables.pairs

abbrev pub on_small_values : Statement → Contents → List Condition
on_small_values public tables = small_conditions (table_small_values tables) tables.sorted_range public.rc_min public.rc_max

pub by_groups : (program : Listing) (public : Statement) (tables : Contents) → verdict program public tables
    ≡ first_refused (first_refused (verdict_on (run_conditions program public tables)) (verdict_on (on_memory program public tables))) (verdict_on (on_small_values public tables))
unfolding verdict conditions run_conditions
by_groups program public tables =
    let run : List Condition = run_conditions program public tables in
    let memory : List Condition = on_memory program public tables in
    let small : List Condition = on_small_values public tables in
    verdict_on-append (run ++ memory) small ∙ ap (λ v. first_refused v (verdict_on small)) (verdict_on-append run memory)

-- the verdict on the conditions of the run, by the first part that refuses
module _ (program : Listing) (public : Statement) (tables : Contents) where
  run_verdict : verdict_on (run_conditions program public tables)
      ≡ first_refused (first_refused (first_refused (verdict_on (start_conditions program public tables)) (verdict_on (row_conditions 0 (rows_with_next tables)))) (verdict_on (end_conditions program public tables))) (verdict_on (limb_conditions limb_limit 0 tables.range))
  unfolding run_conditions
  run_verdict =
      let start : List Condition = start_conditions program public tables in
      let rows : List Condition = row_conditions 0 (rows_with_next tables) in
      let end : List Condition = end_conditions program public tables in
      let limbs : List Condition = limb_conditions limb_limit 0 tables.range in
      verdict_on-append (start ++ rows ++ end) limbs ∙ (rw (verdict_on-append (start ++ rows) end, verdict_on-append start rows) refl)

  pub run-at_start : (verdict_on (start_conditions program public tables) ≡ Accepted → ⊥) → verdict_on (run_conditions program public tables) ≡ verdict_on (start_conditions program public tables)
  run-at_start h = run_verdict ∙ first_stays (verdict_on (start_conditions program public tables)) _ _ _ h

  pub run-at_rows : verdict_on (start_conditions program public tables) ≡ Accepted → (verdict_on (row_conditions 0 (rows_with_next tables)) ≡ Accepted → ⊥) → verdict_on (run_conditions program public tables) ≡ verdict_on (row_conditions 0 (rows_with_next tables))
  run-at_rows a h = run_verdict ∙ (rw a (second_stays (verdict_on (row_conditions 0 (rows_with_next tables))) _ _ h))

  pub run-at_end : verdict_on (start_conditions program public tables) ≡ Accepted → verdict_on (row_conditions 0 (rows_with_next tables)) ≡ Accepted → (verdict_on (end_conditions program public tables) ≡ Accepted → ⊥) → verdict_on (run_conditions program public tables) ≡ verdict_on (end_conditions program public tables)
  run-at_end a b h = run_verdict ∙ (rw (a, b) (stays (verdict_on (end_conditions program public tables)) _ h))

  pub run-at_limbs : verdict_on (start_conditions program public tables) ≡ Accepted → verdict_on (row_conditions 0 (rows_with_next tables)) ≡ Accepted → verdict_on (end_conditions program public tables) ≡ Accepted → verdict_on (run_conditions program public tables) ≡ verdict_on (limb_conditions limb_limit 0 tables.range)
  run-at_limbs a b d = run_verdict ∙ (rw (a, b, d) refl)

  -- the verdict, by the first group that refuses
  pub at_run : (verdict_on (run_conditions program public tables) ≡ Accepted → ⊥) → verdict program public tables ≡ verdict_on (run_conditions program public tables)
  at_run h = by_groups program public tables ∙ second_stays (verdict_on (run_conditions program public tables)) _ _ h

  pub at_memory : verdict_on (run_conditions program public tables) ≡ Accepted → (verdict_on (on_memory program public tables) ≡ Accepted → ⊥) → verdict program public tables ≡ verdict_on (on_memory program public tables)
  at_memory a h = by_groups program public tables ∙ (rw a (stays (verdict_on (on_memory program public tables)) _ h))

  pub at_small_values : verdict_on (run_conditions program public tables) ≡ Accepted → verdict_on (on_memory program public tables) ≡ Accepted → verdict program public tables ≡ verdict_on (on_small_values public tables)
  at_small_values a b = by_groups program public tables ∙ (rw (a, b) refl)
