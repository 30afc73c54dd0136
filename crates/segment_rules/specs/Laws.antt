-- Which numbers the cells of a ruled segment may hold.
use Rattle.std.specs.Prelude.{ℕ, Bool, ◌==◌, nat_lt, List}
use Rattle.std.specs.List.{list_any}
use Rattle.segment_rules.specs.declared.CellLaw.{CellLaw}
use Rattle.segment_rules.specs.declared.CellLaw.TheVariants as cell

-- A law: the numbers below a bound, or those of a list. Own.
pub data Law : Type 0 where
  Below : (bound : ℕ) → Law
  Listed : (numbers : List ℕ) → Law

-- What a law of the code says. Own.
abbrev pub law_of : CellLaw → Law
law_of (cell.Below bound) = Below bound
law_of (cell.Listed numbers) = Listed numbers.items

-- Whether the law allows the number. Own.
unfoldable pub allows : Law → ℕ → Bool
allows (Below bound) number = nat_lt number bound
allows (Listed numbers) number = list_any (λ n. n == number) numbers
