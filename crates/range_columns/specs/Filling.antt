-- The fillers of the range columns: the values of the range that are absent.
use Rattle.std.specs.Prelude.{ℕ, List}
use Rattle.goldilocks.specs.declared.Felt.{Felt}
use Rattle.sorted_lists.specs.Gaps.{gaps_between}

-- The numbers from the least to the greatest that aren't among the values, ascending. Own.
unfoldable pub absent_values : List Felt → ℕ → ℕ → List ℕ
absent_values values least greatest = gaps_between (λ x. x.number) values least greatest
