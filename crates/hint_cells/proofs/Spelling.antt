-- The reading and the relation say the same.
use Rattle.std.proofs.Common.{◌≡◌, ◌≢◌, ℕ, ◌≤◌, List, [], length, map, Some, None, Result, Ok, Err, IfOk, IfErr, refl, sym, ap, ◌∙◌, subst, arith, le-leb}
use Rattle.std.proofs.lemmas.Bool.{leb-true}
use Rattle.std.proofs.lemmas.List.{length-map}
use Rattle.serde_json.specs.Data.{Data}
use Rattle.json_fields.specs.Values.{json_of, list_at}
use Rattle.json_fields.specs.Faults.{needed, in_turn}
use Rattle.json_fields.proofs.Steps.{needed_then, demand_then, ok_then, in_turn_ok, in_turn_back}
use Rattle.hint_cells.specs.declared.HintCell.{HintCell}
use Rattle.hint_cells.specs.declared.Hints.{Hints}
use Rattle.hint_cells.specs.declared.fault.HintKey.TheVariants as key
use Rattle.hint_cells.specs.declared.fault.HintFault.{HintFault}
use Rattle.hint_cells.specs.declared.fault.HintFault.TheVariants as fault
use Rattle.hint_cells.specs.Limits.{extra_limit, hint_cell_limit}
use Rattle.hint_cells.specs.Shown.{key_name}
use Rattle.hint_cells.specs.HintList.{HintList, hint_list}
use Rattle.hint_cells.specs.Cells.{cell_in}
use Rattle.hint_cells.specs.Format.{SpellsHints}
use Rattle.hint_cells.specs.Reading.{reading, hints_in, extra_in, cells_under, next_cell}
use Rattle.hint_cells.proofs.ReadCells.{cells_fit}

alone : (before : List HintCell) (d : Data) → next_cell before d ≡ needed (fault.Cell (length before)) (cell_in d)
unfolding next_cell
alone before d = refl

same_length : (ds : List Data) (cs : List HintCell) → map cell_in ds ≡ map Some cs → length ds ≡ length cs
same_length ds cs e = sym (length-map ds cell_in) ∙ ap length e ∙ length-map cs Some

pub reading-SpellsHints : (bytes : List ℕ) (h : HintList) → SpellsHints bytes h → reading bytes ≡ Ok h
unfolding reading hints_in extra_in cells_under
reading-SpellsHints bytes h s =
    let few : length s.entries ≤ hint_cell_limit = omega (arith, same_length s.entries h.cells s.cells_are, s.hints.few_cells) in
    let cells : in_turn next_cell [] s.entries ≡ Ok h.cells = in_turn_back next_cell fault.Cell cell_in alone [] s.entries h.cells s.cells_are in
    rw (s.is_json, s.extra_is, le-leb h.extra extra_limit s.hints.few_extra, s.entries_are, le-leb (length s.entries) hint_cell_limit few, cells) refl

ok_value : {A F : Type 0} (a b : A) → ◌≡◌ {A = Result A F} (Ok a) (Ok b) → a ≡ b
ok_value a b e = cc

-- the cells that lines give, and the entries that they are
pub record AreCells (top : Data) (cells : List HintCell) : Type 0 where
  pub entries : List Data
  pub entries_are : list_at (key_name key.Cells) top ≡ Some entries
  pub few : length entries ≤ hint_cell_limit
  pub cells_are : map cell_in entries ≡ map Some cells

pub cells_under-ok : (top : Data) (cells : List HintCell) → cells_under top ≡ Ok cells → AreCells top cells
unfolding cells_under
cells_under-ok top cells e =
    let entries = needed_then _ _ _ _ e in
    let few = demand_then _ _ _ _ entries.2 in
    let read = in_turn_ok next_cell fault.Cell cell_in alone [] entries.0 cells few.1 in
    let these : cells ≡ read.0 = read.1 in
    record {
      entries = entries.0;
      entries_are = entries.1;
      few = leb-true _ _ few.0;
      cells_are = read.2 ∙ ap (map Some) (sym these);
    }

pub SpellsHints-reading : (bytes : List ℕ) (h : HintList) → reading bytes ≡ Ok h → SpellsHints bytes h
unfolding reading hints_in extra_in
SpellsHints-reading bytes h e =
    let top = needed_then _ _ _ _ e in
    let extra_line = ok_then (extra_in top.0) _ _ top.2 in
    let extra = needed_then _ _ _ _ extra_line.1 in
    let few = demand_then _ _ _ _ extra.2 in
    let same : extra.0 ≡ extra_line.0 = ok_value _ _ few.1 in
    let cells_line = ok_then (cells_under top.0) _ _ extra_line.2 in
    let are = cells_under-ok top.0 cells_line.0 cells_line.1 in
    let found : HintList = record { extra = extra_line.0; cells = cells_line.0 } in
    let low : extra.0 ≤ extra_limit = leb-true _ _ few.0 in
    let spelled : SpellsHints bytes found = record {
      top = top.0;
      is_json = top.1;
      extra_is = extra.1 ∙ ap Some same;
      entries = are.entries;
      entries_are = are.entries_are;
      cells_are = are.cells_are;
      hints = record {
        few_extra = subst (λ n. n ≤ extra_limit) same low;
        few_cells = omega (arith, same_length are.entries cells_line.0 are.cells_are, are.few);
        fit = cells_fit are.entries cells_line.0 are.cells_are;
      };
    } in
    subst (SpellsHints bytes) (ok_value found h cells_line.2) spelled

pub one_list : (bytes : List ℕ) (h k : HintList) → SpellsHints bytes h → SpellsHints bytes k → h ≡ k
one_list bytes h k s t = ok_value h k (sym (reading-SpellsHints bytes h s) ∙ reading-SpellsHints bytes k t)

-- ---- what reading answers

pub reading-no_json : (bytes : List ℕ) → None ≡ json_of bytes → reading bytes ≡ Err fault.Json
unfolding reading
reading-no_json bytes e = rw (← e) refl

pub reading-hints_in : (bytes : List ℕ) (top : Data) → Some top ≡ json_of bytes → reading bytes ≡ hints_in top
unfolding reading
reading-hints_in bytes top e = rw (← e) refl

pub told : (bytes : List ℕ) (top : Data) (r : Result Hints HintFault) → Some top ≡ json_of bytes → IfOk r (λ h. hints_in top ≡ Ok (hint_list h)) → IfOk r (λ h. reading bytes ≡ Ok (hint_list h))
told bytes top (Ok h) e is = reading-hints_in bytes top e ∙ is
told bytes top (Err f) e is = tt

pub refused : (bytes : List ℕ) (top : Data) (r : Result Hints HintFault) → Some top ≡ json_of bytes → IfErr r (λ f. f ≢ fault.Memory → hints_in top ≡ Err f) → IfErr r (λ f. f ≢ fault.Memory → reading bytes ≡ Err f)
refused bytes top (Ok h) e is = tt
refused bytes top (Err f) e is = λ known. reading-hints_in bytes top e ∙ is known

pub answer_spells : (bytes : List ℕ) (r : Result Hints HintFault) → IfOk r (λ h. reading bytes ≡ Ok (hint_list h)) → IfOk r (λ h. SpellsHints bytes (hint_list h))
answer_spells bytes (Ok h) is = SpellsHints-reading bytes (hint_list h) is
answer_spells bytes (Err f) is = tt

differ : {A F : Type 0} (a : A) (f : F) → ◌≡◌ {A = Result A F} (Ok a) (Err f) → ⊥
differ a f e = cc

pub fault_spells_nothing : (bytes : List ℕ) (f : HintFault) → reading bytes ≡ Err f → (h : HintList) → SpellsHints bytes h → ⊥
fault_spells_nothing bytes f e h s = differ h f (sym (reading-SpellsHints bytes h s) ∙ e)

pub answer_spells_nothing : (bytes : List ℕ) (r : Result Hints HintFault) → IfErr r (λ f. f ≢ fault.Memory → reading bytes ≡ Err f) → IfErr r (λ f. f ≢ fault.Memory → (h : HintList) → SpellsHints bytes h → ⊥)
answer_spells_nothing bytes (Ok h) is = tt
answer_spells_nothing bytes (Err f) is = λ known. fault_spells_nothing bytes f (is known)
