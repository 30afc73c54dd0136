-- Reading the entries of a list one after another.
use Rattle.std.proofs.Common.{◌≡◌, ℕ, suc, ◌+◌, ◌<◌, ◌≤◌, List, [], ◌∷◌, ◌++◌, length, get_or, drop, map, Some, None, Ok, Err, sym, ap, ◌∙◌, add-one, drop-cons}
use Rattle.std.proofs.lemmas.List.{drop_all}
use Rattle.goldilocks.specs.declared.Felt.{Felt}
use Rattle.serde_json.specs.View.{view}
use Rattle.serde_json.specs.declared.value.Value.{Value}
use Rattle.json_fields.specs.Values.{felt_in}
use Rattle.json_fields.specs.Faults.{in_turn}
use Rattle.program_file.specs.declared.faults.ProgramFault.TheVariants as fault
use Rattle.program_file.specs.Reading.{word_in}

module _ (texts : List Value) (before : List Felt) (i : ℕ) where
  module _ (x : Value) (within : i < length texts) (is : get_or texts i x ≡ x) where
    at_entry : drop i texts ≡ x ∷ drop (i + 1) texts
    at_entry = drop-cons texts i x within ∙ ap (λ y. y ∷ drop (suc i) texts) is ∙ ap (λ n. x ∷ drop n texts) (sym (add-one i))

    pub one_more : (w : Felt) → Some w ≡ felt_in (view x) → in_turn word_in before (map view (drop i texts)) ≡ in_turn word_in (before ++ w ∷ []) (map view (drop (i + 1) texts))
    unfolding in_turn word_in
    one_more w e = ap (λ ys. in_turn word_in before (map view ys)) at_entry ∙ rw (← e)

    pub refused : length before ≡ i → None ≡ felt_in (view x) → in_turn word_in before (map view (drop i texts)) ≡ Err (fault.Felt i)
    unfolding in_turn word_in
    refused count e = ap (λ ys. in_turn word_in before (map view ys)) at_entry ∙ rw (← e) (ap (λ n. Err (fault.Felt n)) count)

  pub all_read : length texts ≤ i → in_turn word_in before (map view (drop i texts)) ≡ Ok before
  unfolding in_turn
  all_read h = ap (λ ys. in_turn word_in before (map view ys)) (drop_all i texts h)
