-- The verdict is accepted exactly where every constraint is met.
use Rattle.std.proofs.Common.{◌≡◌, ◌↔◌, ◌++◌, length, Option, Some, None, refl, sym, ◌∙◌, ap}
use Rattle.memory_columns.specs.declared.ListFault.{ListFault}
use Rattle.memory_columns.specs.Equations.{M1, M2, M3, first_memory_fault}
use Rattle.memory_columns.proofs.OneMemory.{no_fault_exactly as no_memory_fault}
use Rattle.range_columns.specs.declared.RangeFault.{RangeFault}
use Rattle.range_columns.specs.Equations.{Q1, Q2, Q3, Q4, first_range_fault}
use Rattle.range_columns.proofs.FirstFault.{no_fault_exactly as no_range_fault}
use Rattle.program_file.specs.Listing.{Listing}
use Rattle.range_columns.specs.Limbs.{limb_limit}
use Rattle.public_input.specs.Statement.{Statement}
use Rattle.table_file.specs.Tables.{Contents}
use Rattle.constraint_checker.specs.declared.Verdict.TheVariants.{Accepted}
use Rattle.constraint_checker.specs.Lists.{accesses, table_small_values}
use Rattle.constraint_checker.specs.Constraints.{MeetsAll, rows_with_next, start_conditions, row_conditions, end_conditions, limb_conditions, run_conditions}
use Rattle.constraint_checker.specs.Verdict.{verdict_on, verdict}
use Rattle.constraint_checker.proofs.Verdicts.{first_refused, both_accepted, accepted-append}
use Rattle.constraint_checker.proofs.Groups.{rows_accepted, limbs_accepted, of_list_fault, memory_by_fault, of_range_fault, small_by_fault, on_memory, on_small_values, by_groups}
use Rattle.constraint_checker.proofs.Edges.{start-met, start_accepted, end-met, end_accepted}

no_list_fault : (o : Option ListFault) → of_list_fault o ≡ Accepted → o ≡ None
no_list_fault None e = refl
no_list_fault (Some f) e = absurd (cc)

no_small_fault : (o : Option RangeFault) → of_range_fault o ≡ Accepted → o ≡ None
no_small_fault None e = refl
no_small_fault (Some f) e = absurd (cc)

module _ (program : Listing) (public : Statement) (tables : Contents) where
  run_parts : (verdict_on (run_conditions program public tables) ≡ Accepted) ↔ ((verdict_on (start_conditions program public tables) ≡ Accepted) × (verdict_on (row_conditions 0 (rows_with_next tables)) ≡ Accepted) × (verdict_on (end_conditions program public tables) ≡ Accepted) × (verdict_on (limb_conditions limb_limit 0 tables.range) ≡ Accepted))
  unfolding run_conditions
  run_parts =
      let start = start_conditions program public tables in
      let rows = row_conditions 0 (rows_with_next tables) in
      let end = end_conditions program public tables in
      let limbs = limb_conditions limb_limit 0 tables.range in (
        λ e.
            let a = (accepted-append (start ++ rows ++ end) limbs).0 e in
            let b = (accepted-append (start ++ rows) end).0 a.0 in
            let c = (accepted-append start rows).0 b.0 in
            (c.0, c.1, b.1, a.1),
        λ h.
            (accepted-append (start ++ rows ++ end) limbs).1 ((accepted-append (start ++ rows) end).1 ((accepted-append start rows).1 (h.0, h.1), h.2), h.3),
      )

  pub rows_counted : verdict_on (run_conditions program public tables) ≡ Accepted → length tables.rows ≡ public.steps
  rows_counted e = (start_accepted program public tables (run_parts.0 e).0).0

  memory_parts : (verdict_on (on_memory program public tables) ≡ Accepted) ↔ (M1 tables.pairs × M2 tables.pairs × M3 (accesses program public tables) tables.pairs)
  memory_parts =
      let fault = first_memory_fault (accesses program public tables) tables.pairs in
      let exactly = no_memory_fault (accesses program public tables) tables.pairs in (
        λ e. exactly.0 (no_list_fault fault (sym (memory_by_fault (accesses program public tables) tables.pairs) ∙ e)),
        λ h. memory_by_fault (accesses program public tables) tables.pairs ∙ ap of_list_fault (exactly.1 h),
      )

  small_parts : (verdict_on (on_small_values public tables) ≡ Accepted) ↔ (Q1 tables.sorted_range public.rc_min × Q2 tables.sorted_range × Q3 tables.sorted_range public.rc_max × Q4 (table_small_values tables) tables.sorted_range)
  small_parts =
      let fault = first_range_fault (table_small_values tables) tables.sorted_range public.rc_min public.rc_max in
      let exactly = no_range_fault (table_small_values tables) tables.sorted_range public.rc_min public.rc_max in (
        λ e. exactly.0 (no_small_fault fault (sym (small_by_fault (table_small_values tables) tables.sorted_range public.rc_min public.rc_max) ∙ e)),
        λ h. small_by_fault (table_small_values tables) tables.sorted_range public.rc_min public.rc_max ∙ ap of_range_fault (exactly.1 h),
      )

  all_met : verdict program public tables ≡ Accepted → MeetsAll program public tables
  all_met e =
      let run = verdict_on (run_conditions program public tables) in
      let memory = verdict_on (on_memory program public tables) in
      let small = verdict_on (on_small_values public tables) in
      let whole = (both_accepted (first_refused run memory) small).0 (sym (by_groups program public tables) ∙ e) in
      let front = (both_accepted run memory).0 whole.0 in
      let parts = run_parts.0 front.0 in
      let start = start_accepted program public tables parts.0 in
      let end = end_accepted program public tables parts.2 in
      let m = memory_parts.0 front.1 in
      let q = small_parts.0 whole.1 in
      record {
        p1 = start.0;
        p2 = start.1;
        p3 = start.2;
        p4 = start.3;
        p5 = start.4;
        rows = (rows_accepted tables).0 parts.1;
        p6 = end.0;
        p7 = end.1;
        v1 = (limbs_accepted limb_limit tables.range).0 parts.3;
        m1 = m.0;
        m2 = m.1;
        m3 = m.2;
        q1 = q.0;
        q2 = q.1;
        q3 = q.2;
        q4 = q.3;
      }

  accepted_where_met : MeetsAll program public tables → verdict program public tables ≡ Accepted
  accepted_where_met h =
      let run = verdict_on (run_conditions program public tables) in
      let memory = verdict_on (on_memory program public tables) in
      let small = verdict_on (on_small_values public tables) in
      let start : verdict_on (start_conditions program public tables) ≡ Accepted = sym (start-met program public tables h.p1 h.p2 h.p3 h.p4 h.p5) in
      let end : verdict_on (end_conditions program public tables) ≡ Accepted = sym (end-met program public tables h.p6 h.p7) in
      by_groups program public tables
      ∙ (both_accepted (first_refused run memory) small).1 (
        (both_accepted run memory).1 (run_parts.1 (start, (rows_accepted tables).1 h.rows, end, (limbs_accepted limb_limit tables.range).1 h.v1), memory_parts.1 (h.m1, h.m2, h.m3)),
        small_parts.1 (h.q1, h.q2, h.q3, h.q4),
      )

  pub accepted_exactly : (verdict program public tables ≡ Accepted) ↔ MeetsAll program public tables
  accepted_exactly = (all_met, accepted_where_met)
