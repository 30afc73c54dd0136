-- What the code puts together is the public input of the run.
use Rattle.std.proofs.Common.{◌≡◌, ℕ, ◌-◌, ◌≤◌, List, ◌++◌, fold, min, max, length, get_or, map, take, sym, ap, ap₂, ◌∙◌, arith}
use Rattle.std.specs.Prelude.{unwrap_or}
use Rattle.std.specs.List.{range_with_len}
use Rattle.std.proofs.lemmas.List.{length-map}
use Rattle.std.proofs.lemmas.List.Sums.{fold-append}
use Rattle.goldilocks.specs.Field.{field_add}
use Rattle.goldilocks.specs.declared.Felt.{Felt}
use Rattle.goldilocks.specs.declared.Pair.{Pair}
use Rattle.goldilocks.specs.Felts.{felt, numbers}
use Rattle.goldilocks.proofs.Pairs.{felt-number}
use Rattle.casm_word.specs.declared.State.{State}
use Rattle.casm_word.specs.Transition.{Memory, Registers, registers}
use Rattle.relocation.specs.declared.run.FieldRun.{FieldRun}
use Rattle.relocation.specs.Relocated.{RelocatedRun, field_run}
use Rattle.table_builder.specs.Rows.{first_of, last_of}
use Rattle.table_builder.specs.Columns.{least_of, greatest_of, cells_at}
use Rattle.table_builder.specs.Public.{memory_in, stated_with, small_numbers, public_of, CanBeStated}
use Rattle.table_builder.specs.PublicParts.{all_digits, words_at, numbers_from}
use Rattle.table_builder.proofs.BuiltRun.{registers_low}
use Rattle.table_builder.proofs.EndFindings.{first_state, last_state}
use Rattle.table_builder.proofs.Kept.{felt_is}
use Rattle.table_builder.proofs.Digits.{range_numbers, words_of_run}
use Rattle.table_builder.proofs.Stated.{fold_least, fold_greatest, small_numbers_are, all_small, some_small}

module _ (run : FieldRun) (can : CanBeStated (field_run run)) where
  abbrev r : RelocatedRun
  r = field_run run

  abbrev m : Memory
  m = memory_in r

  abbrev states : List State
  states = run.states.items

  abbrev words : List ℕ
  words = all_digits (words_at m (take (length states - 1) states))

  abbrev cells : List ℕ
  cells = all_digits (numbers_from m run.range_begin.number run.range_count)

  range_same : range_numbers (stated_with 0 0 r) m ≡ numbers_from m run.range_begin.number run.range_count
  unfolding stated_with
  range_same = ap (λ (b : Felt). map (λ i. unwrap_or (m (field_add b.number i)) 0) (range_with_len 0 run.range_count)) (felt-number run.range_begin)

  code_small : small_numbers r ≡ words ++ cells
  code_small =
      small_numbers_are r (registers_low states) can.legal
      ∙ ap₂ (λ xs ys. all_digits xs ++ all_digits ys) (words_of_run m states) range_same

  code_least : fold min (fold min 65535 words) cells ≡ least_of (small_numbers r)
  code_least =
      sym (fold-append min 65535 words cells)
      ∙ (ap (fold min 65535) (sym code_small)
      ∙ fold_least (small_numbers r) (some_small r (registers_low states) can.legal) (all_small r (registers_low states) can.legal))

  code_greatest : fold max (fold max 0 words) cells ≡ greatest_of (small_numbers r)
  code_greatest =
      sym (fold-append max 0 words cells)
      ∙ (ap (fold max 0) (sym code_small)
      ∙ fold_greatest (small_numbers r) (some_small r (registers_low states) can.legal))

  some_states : 2 ≤ length states
  some_states = omega (arith, length-map states registers, can.legal.has_step)

  pub code_statement : (count low high : ℕ) (first last : State) (shown : List Pair) → count ≡ length states - 1 → first ≡ get_or states 0 first → last ≡ get_or states (length states - 1) last →
      low ≡ fold min (fold min 65535 words) cells → high ≡ fold max (fold max 0 words) cells → shown ≡ cells_at m (numbers run.shown.items) →
      record { steps = count; ap_first = first.ap; ap_last = last.ap; rc_min = low; rc_max = high; range_begin = run.range_begin; range_count = run.range_count; cells = shown } ≡ public_of r
  unfolding public_of stated_with registers
  code_statement count low high first last shown count_is first_is last_is low_is high_is shown_is =
      let steps_same : count ≡ length (map registers states) - 1 = omega (arith, count_is, length-map states registers) in
      let first_same : first.ap ≡ felt (first_of (map registers states)).ap = felt_is first.ap _ (sym (ap (λ (s : Registers). s.ap) (first_state states some_states first first_is))) in
      let last_same : last.ap ≡ felt (last_of (map registers states)).ap = felt_is last.ap _ (sym (ap (λ (s : Registers). s.ap) (last_state states some_states last last_is))) in
      let low_same = low_is ∙ code_least in
      let high_same = high_is ∙ code_greatest in
      let begin_same = sym (felt-number run.range_begin) in
      λ i. record {
        steps = steps_same i;
        ap_first = first_same i;
        ap_last = last_same i;
        rc_min = low_same i;
        rc_max = high_same i;
        range_begin = begin_same i;
        range_count = run.range_count;
        cells = shown_is i;
      }
