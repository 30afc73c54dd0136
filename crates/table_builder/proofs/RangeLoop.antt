-- The range cells, looked at one after another.
use Rattle.std.proofs.Common.{◌≡◌, ℕ, ◌+◌, ◌<◌, ◌∙◌, List, [], ◌∷◌, ◌++◌, length, get_or, take, map, Option, sym, ap, arith}
use Rattle.std.specs.Prelude.{unwrap_or}
use Rattle.std.specs.List.{range_with_len}
use Rattle.std.proofs.lemmas.List.{map_more}
use Rattle.std.proofs.lemmas.List.FromFn.{length-range_with_len, get_or-range_with_len}
use Rattle.goldilocks.specs.Field.{field_add}
use Rattle.casm_word.specs.Transition.{Memory}
use Rattle.range_columns.specs.declared.RangeRow.{RangeRow}
use Rattle.public_input.specs.Statement.{Statement}
use Rattle.access_lists.proofs.Pieces.{first_address, next_address}
use Rattle.table_builder.specs.Rows.{range_address, limb_row}
use Rattle.table_builder.specs.Findings.{Finding, range_finding}

-- what is asked of a range cell, and the row that is made of it
abbrev pub asked : Statement → Memory → ℕ → Option Finding
asked public m i = range_finding i (range_address public i) (m (range_address public i))

abbrev pub made : Statement → Memory → ℕ → RangeRow
made public m i = limb_row (unwrap_or (m (range_address public i)) 0)

pub first_place : (public : Statement) → public.range_begin.number ≡ range_address public 0
unfolding field_add
first_place public = first_address public.range_begin

pub next_place : (public : Statement) (i n : ℕ) → n ≡ range_address public i → field_add n 1 ≡ range_address public (i + 1)
unfolding field_add
next_place public i n at = next_address public.range_begin.number i n at

-- the number at a place is the place
pub within_range : (count i : ℕ) → i < count → i < length (range_with_len 0 count)
within_range count i lt = omega (arith, length-range_with_len 0 count)

pub at_range : (count i : ℕ) → i < count → i ≡ get_or (range_with_len 0 count) i i
at_range count i lt = omega (arith, get_or-range_with_len 0 count i i lt)

pub one_more_row : (public : Statement) (m : Memory) (i : ℕ) (before after : List RangeRow) (row : RangeRow) → i < public.range_count → before ≡ map (made public m) (take i (range_with_len 0 public.range_count)) → row ≡ made public m i → after ≡ before ++ row ∷ [] → after ≡ map (made public m) (take (i + 1) (range_with_len 0 public.range_count))
one_more_row public m i before after row lt so_far is e =
    let all = range_with_len 0 public.range_count in
    e
    ∙ (ap (λ rows. rows ++ row ∷ []) so_far
    ∙ (ap (λ r. map (made public m) (take i all) ++ r ∷ []) (is ∙ ap (made public m) (at_range public.range_count i lt))
    ∙ sym (map_more (made public m) all i i (within_range public.range_count i lt))))
