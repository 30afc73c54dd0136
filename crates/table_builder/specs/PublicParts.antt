-- What the parts of `public_of` say to one another. No public contract cites it. Own.
use Rattle.std.specs.Prelude.{ℕ, List, [], ◌∷◌, map, unwrap_or}
use Rattle.std.specs.List.{flat_map, range_with_len}
use Rattle.goldilocks.specs.Field.{field_add}
use Rattle.casm_word.specs.declared.State.{State}
use Rattle.casm_word.specs.Transition.{Memory}
use Rattle.range_columns.specs.Limbs.{limb_at}

-- The three lowest digits of a number to the base 2^16: the biased offsets of a word, and the limbs of a range cell.
-- Own.
abbrev pub digits : ℕ → List ℕ
digits number = limb_at 0 number ∷ limb_at 1 number ∷ limb_at 2 number ∷ []

-- The digits of each number, one after another. Own.
abbrev pub all_digits : List ℕ → List ℕ
all_digits ns = flat_map digits ns

-- The number of the word at the pc of each state. A missing cell counts as 0. Own.
abbrev pub words_at : Memory → List State → List ℕ
words_at m states = map (λ s. unwrap_or (m s.pc.number) 0) states

-- The numbers of so many cells from an address on. A missing cell counts as 0. Own.
abbrev pub numbers_from : Memory → ℕ → ℕ → List ℕ
numbers_from m begin count = map (λ i. unwrap_or (m (field_add begin i)) 0) (range_with_len 0 count)
