use Rattle.std.proofs.Common.{◌≡◌, ◌++◌, map, sym, ap, ◌∙◌, lit<}
use Rattle.std.proofs.lemmas.List.Sorted.{All-permutation}
use Rattle.sorted_lists.specs.Order.{in_order}
use Rattle.sorted_lists.proofs.InOrder.{in_order-from_sorted}
use Rattle.range_columns.specs.Equations.{felt_cmp, IsWithin}
use Rattle.range_columns.specs.Filling.{absent_values}
use Rattle.range_columns.proofs.Values.{felt_total, felt_equal, numbers_ascend}
use Rattle.range_columns.proofs.InRange.{number_of}
use Rattle.range_columns.proofs.Fillings.{made_absent, sorted_values, columns_no_fault}
use Rattle.range_columns.proofs.sorting.sort_range.Goals as goal
use Rattle.range_columns.proofs.sorting.sort_range.Goals.{In_ok-sort}

pub gaps-requires-clause-ascends : goal.gaps-requires-clause-ascends
gaps-requires-clause-ascends c = rw c.deref.ensures.value (numbers_ascend c.sort_unstable.new.self.items c.sort_unstable.ensures.sorted)

pub gaps-requires-clause-within : goal.gaps-requires-clause-within
unfolding IsWithin
gaps-requires-clause-within c =
    rw (c.deref.ensures.value, c.from.ensures, c.from-2.ensures) (All-permutation (IsWithin c.args.min c.args.max) c.args.values.items c.sort_unstable.new.self.items c.sort_unstable.ensures.permutation c.requires.within)

-- the fillers of the values in order
made : (c : In_ok-sort) → map number_of c.in_ok-fill.fill.items ≡ absent_values c.sort_unstable.new.self.items c.args.min c.args.max
unfolding absent_values
made c = rw (c.deref.ensures.value, c.from.ensures, c.from-2.ensures) at c.in_ok-fill.ensures

-- both in order
in_turn : (c : In_ok-sort) → c.sort.new.self.items ≡ in_order felt_cmp (c.sort_unstable.new.self.items ++ c.in_ok-fill.fill.items)
in_turn c =
    let both : c.extend_from_slice.new.self.items ≡ c.sort_unstable.new.self.items ++ c.in_ok-fill.fill.items = c.in_ok-extend_from_slice.ensures.items ∙ ap (λ ys. c.sort_unstable.new.self.items ++ ys) c.deref-2.ensures.value in
    sym (ap (in_order felt_cmp) (sym both) ∙ in_order-from_sorted felt_cmp felt_total felt_equal c.extend_from_slice.new.self.items c.sort.new.self.items c.in_ok-sort.ensures.permutation c.in_ok-sort.ensures.sorted)

pub returns-clause-fill : goal.returns-clause-fill
returns-clause-fill c = made_absent c.args.values.items c.sort_unstable.new.self.items c.in_ok-fill.fill.items c.sort.new.self.items c.args.min c.args.max c.sort_unstable.ensures.permutation (made c) (in_turn c)

pub returns-clause-sorted : goal.returns-clause-sorted
returns-clause-sorted c = sorted_values c.args.values.items c.sort_unstable.new.self.items c.in_ok-fill.fill.items c.sort.new.self.items c.args.min c.args.max c.sort_unstable.ensures.permutation (made c) (in_turn c)

pub returns-clause-no_fault : goal.returns-clause-no_fault
returns-clause-no_fault c =
    columns_no_fault c.args.values.items c.sort_unstable.new.self.items c.in_ok-fill.fill.items c.sort.new.self.items c.args.min c.args.max c.sort_unstable.ensures.permutation (made c) (in_turn c)
    c.requires.range c.requires.within record { number = 0; in_field = lit< tt }
