-- What is found first in six groups of questions, and what is built for it.
use Rattle.std.proofs.Common.{◌≡◌, List, [], ◌∷◌, ◌++◌, Option, Some, None, Ok, Err, refl, ap}
use Rattle.casm_word.specs.Transition.{Memory, Registers}
use Rattle.goldilocks.specs.Felts.{numbers}
use Rattle.program_file.specs.Listing.{Listing}
use Rattle.public_input.specs.Statement.{Statement}
use Rattle.table_builder.specs.Columns.{reads, run_small_values, tables_of}
use Rattle.table_builder.specs.Findings.{Finding, first_found, end_findings, step_finding, cell_findings, range_findings, limit_findings, width_finding, findings}
use Rattle.table_builder.specs.Building.{unless_found, building}
use Rattle.table_builder.proofs.Findings.{first_found-none_append, first_found-cons_none}
use Rattle.table_builder.proofs.Told.{found_sooner, found_later}
use Rattle.table_builder.proofs.EndFindings.{first_is_found}

module _ (program : Listing) (public : Statement) (m : Memory) (states : List Registers) where
  abbrev a : List (Option Finding)
  a = end_findings program public states

  abbrev b : List (Option Finding)
  b = step_finding m states ∷ []

  abbrev c : List (Option Finding)
  c = cell_findings program public m

  abbrev d : List (Option Finding)
  d = range_findings public m

  abbrev e : List (Option Finding)
  e = limit_findings public (numbers (run_small_values public m states))

  abbrev f : List (Option Finding)
  f = width_finding (reads program public m states) ∷ []

  refused : (told : Finding) → first_found (findings program public m states) ≡ Some told → building program public m states ≡ Err told
  unfolding building
  refused told found = ap (λ o. unless_found o (tables_of program public m states)) found

  pub ends_refuse : (told : Finding) → first_found a ≡ Some told → building program public m states ≡ Err told
  unfolding findings
  ends_refuse told found =
      refused told (found_sooner (a ++ b ++ c ++ d ++ e) f told (found_sooner (a ++ b ++ c ++ d) e told (found_sooner (a ++ b ++ c) d told (found_sooner (a ++ b) c told (found_sooner a b told found)))))

  module _ (no_end : first_found a ≡ None) where
    pub step_refuses : (told : Finding) → step_finding m states ≡ Some told → building program public m states ≡ Err told
    unfolding findings
    step_refuses told found =
        refused told (found_sooner (a ++ b ++ c ++ d ++ e) f told (found_sooner (a ++ b ++ c ++ d) e told (found_sooner (a ++ b ++ c) d told (found_sooner (a ++ b) c told
        (found_later a b told no_end (first_is_found (step_finding m states) [] told found))))))

    module _ (no_step : step_finding m states ≡ None) where
      none_b : first_found (a ++ b) ≡ None
      none_b = first_found-none_append a b no_end (first_found-cons_none (step_finding m states) [] no_step refl)

      pub cells_refuse : (told : Finding) → first_found c ≡ Some told → building program public m states ≡ Err told
      unfolding findings
      cells_refuse told found =
          refused told (found_sooner (a ++ b ++ c ++ d ++ e) f told (found_sooner (a ++ b ++ c ++ d) e told (found_sooner (a ++ b ++ c) d told
          (found_later (a ++ b) c told none_b found))))

      module _ (no_cell : first_found c ≡ None) where
        none_c : first_found (a ++ b ++ c) ≡ None
        none_c = first_found-none_append (a ++ b) c none_b no_cell

        pub range_refuses : (told : Finding) → first_found d ≡ Some told → building program public m states ≡ Err told
        unfolding findings
        range_refuses told found =
            refused told (found_sooner (a ++ b ++ c ++ d ++ e) f told (found_sooner (a ++ b ++ c ++ d) e told
            (found_later (a ++ b ++ c) d told none_c found)))

        module _ (no_range : first_found d ≡ None) where
          none_d : first_found (a ++ b ++ c ++ d) ≡ None
          none_d = first_found-none_append (a ++ b ++ c) d none_c no_range

          pub limits_refuse : (told : Finding) → first_found e ≡ Some told → building program public m states ≡ Err told
          unfolding findings
          limits_refuse told found =
              refused told (found_sooner (a ++ b ++ c ++ d ++ e) f told (found_later (a ++ b ++ c ++ d) e told none_d found))

          module _ (no_limit : first_found e ≡ None) where
            none_e : first_found (a ++ b ++ c ++ d ++ e) ≡ None
            none_e = first_found-none_append (a ++ b ++ c ++ d) e none_d no_limit

            pub width_refuses : (told : Finding) → width_finding (reads program public m states) ≡ Some told → building program public m states ≡ Err told
            unfolding findings
            width_refuses told found =
                refused told (found_later (a ++ b ++ c ++ d ++ e) f told none_e (first_is_found (width_finding (reads program public m states)) [] told found))

            pub all_built : width_finding (reads program public m states) ≡ None → building program public m states ≡ Ok (tables_of program public m states)
            unfolding findings building
            all_built no_width =
                ap (λ o. unless_found o (tables_of program public m states))
                (first_found-none_append (a ++ b ++ c ++ d ++ e) f none_e (first_found-cons_none (width_finding (reads program public m states)) [] no_width refl))
