-- Reading the entries of the list of cells one after another.
use Rattle.std.proofs.Common.{◌≡◌, ℕ, suc, ◌+◌, ◌<◌, ◌≤◌, List, [], ◌∷◌, ◌++◌, length, get_or, drop, map, Some, None, Ok, Err, sym, ap, ◌∙◌, add-one, drop-cons}
use Rattle.std.proofs.lemmas.List.{drop_all}
use Rattle.serde_json.specs.View.{view}
use Rattle.serde_json.specs.declared.value.Value.{Value}
use Rattle.json_fields.specs.Faults.{in_turn}
use Rattle.hint_cells.specs.declared.HintCell.{HintCell}
use Rattle.hint_cells.specs.declared.fault.HintFault.TheVariants as fault
use Rattle.hint_cells.specs.Cells.{cell_in}
use Rattle.hint_cells.specs.Reading.{next_cell}

module _ (entries : List Value) (before : List HintCell) (i : ℕ) where
  module _ (x : Value) (within : i < length entries) (is : get_or entries i x ≡ x) where
    at_entry : drop i entries ≡ x ∷ drop (i + 1) entries
    at_entry = drop-cons entries i x within ∙ ap (λ y. y ∷ drop (suc i) entries) is ∙ ap (λ n. x ∷ drop n entries) (sym (add-one i))

    pub one_more : (c : HintCell) → Some c ≡ cell_in (view x) → in_turn next_cell before (map view (drop i entries)) ≡ in_turn next_cell (before ++ c ∷ []) (map view (drop (i + 1) entries))
    unfolding in_turn next_cell
    one_more c e = ap (λ ys. in_turn next_cell before (map view ys)) at_entry ∙ rw (← e)

    pub refused : length before ≡ i → None ≡ cell_in (view x) → in_turn next_cell before (map view (drop i entries)) ≡ Err (fault.Cell i)
    unfolding in_turn next_cell
    refused count e = ap (λ ys. in_turn next_cell before (map view ys)) at_entry ∙ rw (← e) (ap (λ n. Err (fault.Cell n)) count)

  pub all_read : length entries ≤ i → in_turn next_cell before (map view (drop i entries)) ≡ Ok before
  unfolding in_turn
  all_read h = ap (λ ys. in_turn next_cell before (map view ys)) (drop_all i entries h)
