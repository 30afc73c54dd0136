-- The cells at some addresses, with the memory's values.
use Rattle.std.proofs.Common.{◌≡◌, ℕ, ◌+◌, ◌<◌, List, [], ◌∷◌, ◌++◌, length, get_or, take, map, refl, sym, ap, ap₂, ◌∙◌}
use Rattle.std.specs.Prelude.{unwrap_or}
use Rattle.std.proofs.lemmas.List.{map_more}
use Rattle.goldilocks.specs.declared.Felt.{Felt}
use Rattle.goldilocks.specs.declared.Pair.{Pair}
use Rattle.goldilocks.specs.Felts.{felt, numbers}
use Rattle.goldilocks.specs.Cells.{cell}
use Rattle.goldilocks.proofs.Pairs.{felt-number}
use Rattle.casm_word.specs.Transition.{Memory}
use Rattle.memory_columns.specs.Filling.{filler_at}
use Rattle.memory_columns.proofs.Fillings.{map-map}
use Rattle.table_builder.specs.Columns.{cells_at}
use Rattle.table_builder.proofs.Kept.{felt_is}

module _ (m : Memory) where
  -- the cell at an address
  abbrev at_address : ℕ → Pair
  at_address a = cell (felt a) (felt (unwrap_or (m a) 0))

  abbrev at_value : Felt → Pair
  at_value x = at_address x.number

  cells_of_values : (xs : List Felt) → cells_at m (numbers xs) ≡ map at_value xs
  unfolding cells_at filler_at
  cells_of_values xs = map-map at_address (λ (x : Felt). x.number) xs

  pub no_cells : cells_at m [] ≡ []
  unfolding cells_at
  no_cells = refl

  pub one_more_cell : (shown : List Felt) (i : ℕ) (addr value : Felt) (before after : List Pair) → i < length shown → addr ≡ get_or shown i addr → value.number ≡ unwrap_or (m addr.number) 0 → before ≡ cells_at m (numbers (take i shown)) → after ≡ before ++ cell addr value ∷ [] → after ≡ cells_at m (numbers (take (i + 1) shown))
  one_more_cell shown i addr value before after within at is so_far e =
      let here : cell addr value ≡ at_value addr = ap₂ cell (sym (felt-number addr)) (felt_is value (unwrap_or (m addr.number) 0) is) in
      e
      ∙ (ap₂ (λ cells c. cells ++ c ∷ []) (so_far ∙ cells_of_values (take i shown)) (here ∙ ap at_value at)
      ∙ (sym (map_more at_value shown i addr within)
      ∙ sym (cells_of_values (take (i + 1) shown))))
