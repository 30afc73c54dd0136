use Rattle.std.proofs.Common.{◌≡◌, ◌++◌, map, sym, ap, ◌∙◌}
use Rattle.goldilocks.specs.declared.Felt.{Felt}
use Rattle.goldilocks.specs.declared.Pair.{Pair}
use Rattle.sorted_lists.specs.Order.{in_order}
use Rattle.sorted_lists.specs.Gaps.{gaps_between}
use Rattle.memory_columns.specs.Filling.{filler_at, numbers_of, unaccessed}
use Rattle.memory_columns.specs.Equations.{pair_cmp}
use Rattle.memory_columns.proofs.Fillings.{map-map}
use Rattle.memory_columns.proofs.Cells.{pair_total, pair_equal}
use Rattle.sorted_lists.proofs.InOrder.{in_order-from_sorted}
use Rattle.memory_columns.proofs.sorting.filled.Goals as goal

pub returns-clause-fill : goal.returns-clause-fill
unfolding unaccessed
returns-clause-fill g c =
    let filler = filler_at (g.M.Reads.cells c.args.m.now) in
    let made : map numbers_of c.in_ok-fill.fill.items ≡ map (λ (a : Felt). filler a.number) c.in_ok-addresses.addresses.items = c.in_ok-fill.ensures ∙ ap (map (λ (a : Felt). filler a.number)) c.deref-2.ensures.value in
    let gaps : map (λ (a : Felt). a.number) c.in_ok-addresses.addresses.items ≡ gaps_between (λ (x : Pair). x.addr.number) c.args.ordered.items c.args.least.number c.args.greatest.number =
    c.in_ok-addresses.ensures ∙ ap (λ xs. gaps_between (λ (x : Pair). x.addr.number) xs c.args.least.number c.args.greatest.number) c.deref.ensures.value in
    made ∙ (sym (map-map filler (λ (a : Felt). a.number) c.in_ok-addresses.addresses.items) ∙ ap (map filler) gaps)

pub returns-clause-sorted : goal.returns-clause-sorted
returns-clause-sorted g c =
    let both : c.extend_from_slice.new.self.items ≡ c.args.ordered.items ++ c.in_ok-fill.fill.items = c.in_ok-extend_from_slice.ensures.items ∙ ap (λ ys. c.args.ordered.items ++ ys) c.deref-3.ensures.value in
    sym (ap (in_order pair_cmp) (sym both) ∙ in_order-from_sorted pair_cmp pair_total pair_equal c.extend_from_slice.new.self.items c.sort.new.self.items c.in_ok-sort.ensures.permutation c.in_ok-sort.ensures.sorted)
