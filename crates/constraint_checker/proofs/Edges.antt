-- The conditions on the counts, on the first state and on the last one.
use Rattle.std.proofs.Common.{◌≡◌, ℕ, ◌+◌, ◌∙◌, Bool, true, false, eqb, List, [], ◌∷◌, length, refl, sym, ap}
use Rattle.std.proofs.lemmas.Bool.{eqb-true, eq-eqb, ne_eqb}
use Rattle.program_file.specs.Listing.{Listing}
use Rattle.public_input.specs.Statement.{Statement}
use Rattle.table_file.specs.Tables.{Contents}
use Rattle.constraint_checker.specs.declared.Constraint.TheVariants.{P}
use Rattle.constraint_checker.specs.declared.Verdict.TheVariants.{Accepted, Refused}
use Rattle.constraint_checker.specs.Constraints.{Condition, condition, first_state, last_state, start_conditions, end_conditions}
use Rattle.constraint_checker.specs.Verdict.{verdict_on}
use Rattle.constraint_checker.proofs.Verdicts.{accepted-cons}

module _ (program : Listing) (public : Statement) (tables : Contents) where
  abbrev row_count : Bool
  row_count = eqb (length tables.rows) public.steps

  abbrev range_count : Bool
  range_count = eqb (length tables.range) public.range_count

  abbrev pc_first : Bool
  pc_first = eqb (first_state tables).pc (1 + program.start)

  abbrev ap_first : Bool
  ap_first = eqb (first_state tables).ap public.ap_first.number

  abbrev fp_first : Bool
  fp_first = eqb (first_state tables).fp public.ap_first.number

  abbrev pc_last : Bool
  pc_last = eqb (last_state tables).pc (1 + program.end)

  abbrev ap_last : Bool
  ap_last = eqb (last_state tables).ap public.ap_last.number

  pub start-p1 : (length tables.rows ≡ public.steps → ⊥) → Refused (P 1) 0 ≡ verdict_on (start_conditions program public tables)
  unfolding start_conditions
  start-p1 h =
      let a : row_count ≡ false = ne_eqb _ _ h in
      sym (rw a refl)

  pub start-p2 : length tables.rows ≡ public.steps → (length tables.range ≡ public.range_count → ⊥) → Refused (P 2) 0 ≡ verdict_on (start_conditions program public tables)
  unfolding start_conditions
  start-p2 p1 h =
      let a : row_count ≡ true = eq-eqb _ _ p1 in
      let b : range_count ≡ false = ne_eqb _ _ h in
      sym (rw (a, b) refl)

  pub start-p3 : length tables.rows ≡ public.steps → length tables.range ≡ public.range_count → ((first_state tables).pc ≡ 1 + program.start → ⊥) → Refused (P 3) 0 ≡ verdict_on (start_conditions program public tables)
  unfolding start_conditions
  start-p3 p1 p2 h =
      let a : row_count ≡ true = eq-eqb _ _ p1 in
      let b : range_count ≡ true = eq-eqb _ _ p2 in
      let c : pc_first ≡ false = ne_eqb _ _ h in
      sym (rw (a, b, c) refl)

  pub start-p4 : length tables.rows ≡ public.steps → length tables.range ≡ public.range_count → (first_state tables).pc ≡ 1 + program.start → ((first_state tables).ap ≡ public.ap_first.number → ⊥) → Refused (P 4) 0 ≡ verdict_on (start_conditions program public tables)
  unfolding start_conditions
  start-p4 p1 p2 p3 h =
      let a : row_count ≡ true = eq-eqb _ _ p1 in
      let b : range_count ≡ true = eq-eqb _ _ p2 in
      let c : pc_first ≡ true = eq-eqb _ _ p3 in
      let d : ap_first ≡ false = ne_eqb _ _ h in
      sym (rw (a, b, c, d) refl)

  pub start-p5 : length tables.rows ≡ public.steps → length tables.range ≡ public.range_count → (first_state tables).pc ≡ 1 + program.start → (first_state tables).ap ≡ public.ap_first.number → ((first_state tables).fp ≡ public.ap_first.number → ⊥) → Refused (P 5) 0 ≡ verdict_on (start_conditions program public tables)
  unfolding start_conditions
  start-p5 p1 p2 p3 p4 h =
      let a : row_count ≡ true = eq-eqb _ _ p1 in
      let b : range_count ≡ true = eq-eqb _ _ p2 in
      let c : pc_first ≡ true = eq-eqb _ _ p3 in
      let d : ap_first ≡ true = eq-eqb _ _ p4 in
      let e : fp_first ≡ false = ne_eqb _ _ h in
      sym (rw (a, b, c, d, e) refl)

  pub start-met : length tables.rows ≡ public.steps → length tables.range ≡ public.range_count → (first_state tables).pc ≡ 1 + program.start → (first_state tables).ap ≡ public.ap_first.number → (first_state tables).fp ≡ public.ap_first.number → Accepted ≡ verdict_on (start_conditions program public tables)
  unfolding start_conditions
  start-met p1 p2 p3 p4 p5 =
      let a : row_count ≡ true = eq-eqb _ _ p1 in
      let b : range_count ≡ true = eq-eqb _ _ p2 in
      let c : pc_first ≡ true = eq-eqb _ _ p3 in
      let d : ap_first ≡ true = eq-eqb _ _ p4 in
      let e : fp_first ≡ true = eq-eqb _ _ p5 in
      sym (rw (a, b, c, d, e) refl)

  pub start_accepted : verdict_on (start_conditions program public tables) ≡ Accepted → (length tables.rows ≡ public.steps) × (length tables.range ≡ public.range_count) × ((first_state tables).pc ≡ 1 + program.start) × ((first_state tables).ap ≡ public.ap_first.number) × ((first_state tables).fp ≡ public.ap_first.number)
  unfolding start_conditions
  start_accepted h =
      let fifth : List Condition = condition (P 5) 0 fp_first ∷ [] in
      let fourth : List Condition = condition (P 4) 0 ap_first ∷ fifth in
      let third : List Condition = condition (P 3) 0 pc_first ∷ fourth in
      let second : List Condition = condition (P 2) 0 range_count ∷ third in
      let a = (accepted-cons (P 1) 0 row_count second).0 h in
      let b = (accepted-cons (P 2) 0 range_count third).0 a.1 in
      let c = (accepted-cons (P 3) 0 pc_first fourth).0 b.1 in
      let d = (accepted-cons (P 4) 0 ap_first fifth).0 c.1 in
      let e = (accepted-cons (P 5) 0 fp_first []).0 d.1 in
      (eqb-true _ _ a.0, eqb-true _ _ b.0, eqb-true _ _ c.0, eqb-true _ _ d.0, eqb-true _ _ e.0)

  pub end-p6 : (steps : ℕ) → steps ≡ length tables.rows → ((last_state tables).pc ≡ 1 + program.end → ⊥) → Refused (P 6) steps ≡ verdict_on (end_conditions program public tables)
  unfolding end_conditions
  end-p6 steps s h =
      let a : pc_last ≡ false = ne_eqb _ _ h in
      ap (Refused (P 6)) s ∙ sym (rw a refl)

  pub end-p7 : (steps : ℕ) → steps ≡ length tables.rows → (last_state tables).pc ≡ 1 + program.end → ((last_state tables).ap ≡ public.ap_last.number → ⊥) → Refused (P 7) steps ≡ verdict_on (end_conditions program public tables)
  unfolding end_conditions
  end-p7 steps s p6 h =
      let a : pc_last ≡ true = eq-eqb _ _ p6 in
      let b : ap_last ≡ false = ne_eqb _ _ h in
      ap (Refused (P 7)) s ∙ sym (rw (a, b) refl)

  pub end-met : (last_state tables).pc ≡ 1 + program.end → (last_state tables).ap ≡ public.ap_last.number → Accepted ≡ verdict_on (end_conditions program public tables)
  unfolding end_conditions
  end-met p6 p7 =
      let a : pc_last ≡ true = eq-eqb _ _ p6 in
      let b : ap_last ≡ true = eq-eqb _ _ p7 in
      sym (rw (a, b) refl)

  pub end_accepted : verdict_on (end_conditions program public tables) ≡ Accepted → ((last_state tables).pc ≡ 1 + program.end) × ((last_state tables).ap ≡ public.ap_last.number)
  unfolding end_conditions
  end_accepted h =
      let a = (accepted-cons (P 6) (length tables.rows) pc_last (condition (P 7) (length tables.rows) ap_last ∷ [])).0 h in
      let b = (accepted-cons (P 7) (length tables.rows) ap_last []).0 a.1 in
      (eqb-true _ _ a.0, eqb-true _ _ b.0)
