-- What is found at the two ends of a run, by the states that the code reads there.
use Rattle.std.proofs.Common.{◌≡◌, ℕ, ◌+◌, ◌-◌, ◌≤◌, ◌<◌, ◌∙◌, List, [], ◌∷◌, length, get_or, map, Option, Some, None, sym, ap, refl, arith}
use Rattle.std.proofs.Math.ListN.{get_or-map}
use Rattle.std.proofs.lemmas.List.{length-map, get_or_default}
use Rattle.casm_word.specs.declared.State.{State}
use Rattle.casm_word.specs.Transition.{Registers, registers}
use Rattle.program_file.specs.Listing.{Listing}
use Rattle.public_input.specs.Statement.{Statement}
use Rattle.table_builder.specs.declared.faults.Field.TheVariants.{Steps, PcFirst, ApFirst, FpFirst, PcLast, ApLast}
use Rattle.table_builder.specs.Rows.{first_of, last_of, no_state}
use Rattle.table_builder.specs.Findings.{Finding, differs, end_findings, first_found}

pub first_is_found : (o : Option Finding) (later : List (Option Finding)) (told : Finding) → o ≡ Some told → first_found (o ∷ later) ≡ Some told
first_is_found None later told found = cc
first_is_found (Some other) later told found = found

pub first_is_none : (o : Option Finding) (later : List (Option Finding)) → o ≡ None → first_found (o ∷ later) ≡ first_found later
first_is_none None later none = refl
first_is_none (Some other) later none = cc

-- the findings for this number of steps and these ends
abbrev pub findings_of : Listing → Statement → ℕ → Registers → Registers → List (Option Finding)
findings_of program public count first last =
    differs Steps public.steps count
    ∷ differs PcFirst (1 + program.start) first.pc
    ∷ differs ApFirst public.ap_first.number first.ap
    ∷ differs FpFirst public.ap_first.number first.fp
    ∷ differs PcLast (1 + program.end) last.pc
    ∷ differs ApLast public.ap_last.number last.ap
    ∷ []

module _ (states : List State) (some : 2 ≤ length states) where
  state_at : (k : ℕ) (s : State) → k < length states → s ≡ get_or states k s → get_or (map registers states) k no_state ≡ registers s
  state_at k s within is =
      get_or_default (map registers states) k no_state (registers s) (omega (arith, length-map states registers))
      ∙ (get_or-map registers states k s ∙ sym (ap registers is))

  pub first_state : (s : State) → s ≡ get_or states 0 s → first_of (map registers states) ≡ registers s
  first_state s is = state_at 0 s (omega arith) is

  pub last_state : (s : State) → s ≡ get_or states (length states - 1) s → last_of (map registers states) ≡ registers s
  last_state s is =
      ap (λ n. get_or (map registers states) (n - 1) no_state) (length-map states registers)
      ∙ state_at (length states - 1) s (omega arith) is

  pub ends_are : (program : Listing) (public : Statement) (first last : State) → first ≡ get_or states 0 first → last ≡ get_or states (length states - 1) last → end_findings program public (map registers states) ≡ findings_of program public (length states - 1) (registers first) (registers last)
  unfolding end_findings
  ends_are program public first last first_is last_is =
      ap (λ n. findings_of program public (n - 1) (first_of (map registers states)) (last_of (map registers states))) (length-map states registers)
      ∙ (ap (λ s. findings_of program public (length states - 1) s (last_of (map registers states))) (first_state first first_is)
      ∙ ap (λ s. findings_of program public (length states - 1) (registers first) s) (last_state last last_is))

pub only_one : (o : Option Finding) → first_found (o ∷ []) ≡ o
only_one None = refl
only_one (Some found) = refl
