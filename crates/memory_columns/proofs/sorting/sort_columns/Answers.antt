use Rattle.std.proofs.Common.{◌≡◌, ◌-◌, List, [], ◌++◌, map, length, get_or, ap, subst, sym, ◌∙◌, arith, Result, Ok, Err, IsErrAnd, IfErr}
use Rattle.goldilocks.specs.declared.Pair.{Pair}
use Rattle.memory_columns.specs.declared.fault.SortFault.{SortFault}
use Rattle.memory_columns.specs.declared.fault.SortFault.TheVariants.{Memory}
use Rattle.sorted_lists.specs.Order.{in_order}
use Rattle.memory_columns.specs.Equations.{pair_cmp}
use Rattle.memory_columns.specs.Filling.{unaccessed, numbers_of, filler_at, HasRoom, IsCause}
use Rattle.memory_columns.proofs.Cells.{pair_equal}
use Rattle.memory_columns.proofs.Fillings.{Ordered, ordered_ascend, ordered_spans, accessed_spans, ordered_range, same_unaccessed, are_fillers, sorted_accesses, fillers_fit, columns_no_fault, made_none, in_order_alone}
use Rattle.memory_columns.proofs.sorting.sort_columns.Given.{Over}
use Rattle.memory_columns.proofs.sorting.sort_columns.Goals as goal
use Rattle.memory_columns.proofs.sorting.sort_columns.Goals.{After-deref, Then-count-eq0}

-- want of memory comes where there is room
memory_cause : {A : Type 0} (accesses : List Pair) (r : Result A SortFault) → HasRoom accesses → IsErrAnd r (λ e. e ≡ Memory) → IfErr r (IsCause accesses)
unfolding IsCause
memory_cause accesses (Ok a) room is = tt
memory_cause accesses (Err e) room is = subst (IsCause accesses) (sym is) room

-- the accesses as they are after the first sort
ordered : (g : Over) (c : After-deref g) → Ordered c.args.accesses.items c.put_in_order-sorted.result.items c.index.result.now c.index-2.result.now
ordered g c =
    let long : c.len.result ≡ length c.put_in_order-sorted.result.items = omega arith in
    record {
      moved = c.put_in_order-sorted.ensures.permutation;
      up = c.put_in_order-sorted.ensures.sorted;
      some = omega arith;
      at_first = c.index.ensures;
      at_last = c.index-2.ensures ∙ ap (λ n. get_or c.put_in_order-sorted.result.items (n - 1) c.index-2.result.now) long;
    }

pub put_in_order-sorted-requires : goal.put_in_order-sorted-requires
put_in_order-sorted-requires g c = pair_equal

pub gap_count-count-requires-clause-range : goal.gap_count-count-requires-clause-range
gap_count-count-requires-clause-range g c = ordered_range c.args.accesses.items c.put_in_order-sorted.result.items c.index.result.now c.index-2.result.now (ordered g c)

pub gap_count-count-requires-clause-ascends : goal.gap_count-count-requires-clause-ascends
gap_count-count-requires-clause-ascends g c = rw c.deref.ensures.value (ordered_ascend c.args.accesses.items c.put_in_order-sorted.result.items c.index.result.now c.index-2.result.now (ordered g c))

pub gap_count-count-requires-clause-within : goal.gap_count-count-requires-clause-within
gap_count-count-requires-clause-within g c = rw c.deref.ensures.value ((ordered_spans c.args.accesses.items c.put_in_order-sorted.result.items c.index.result.now c.index-2.result.now (ordered g c)).within)

pub filled-requires-clause-range : goal.filled-requires-clause-range
filled-requires-clause-range g c = ordered_range c.args.accesses.items c.put_in_order-sorted.result.items c.index.result.now c.index-2.result.now (ordered g (goal.at.filled-requires-clause-range g c).After-deref)

pub filled-requires-clause-ascends : goal.filled-requires-clause-ascends
filled-requires-clause-ascends g c = ordered_ascend c.args.accesses.items c.put_in_order-sorted.result.items c.index.result.now c.index-2.result.now (ordered g (goal.at.filled-requires-clause-ascends g c).After-deref)

pub filled-requires-clause-within : goal.filled-requires-clause-within
filled-requires-clause-within g c = (ordered_spans c.args.accesses.items c.put_in_order-sorted.result.items c.index.result.now c.index-2.result.now (ordered g (goal.at.filled-requires-clause-within g c).After-deref)).within

pub returns-then-count-gt-FILLER_LIMIT-clause-cause : goal.returns-then-count-gt-FILLER_LIMIT-clause-cause
unfolding IsCause unaccessed
returns-then-count-gt-FILLER_LIMIT-clause-cause g c =
    let o : Ordered c.args.accesses.items c.put_in_order-sorted.result.items c.index.result.now c.index-2.result.now = (ordered g (goal.at.returns-then-count-gt-FILLER_LIMIT-clause-cause g c).After-deref) in
    let count : c.gap_count-count.result ≡ length (unaccessed c.args.accesses.items c.index.result.now.addr.number c.index-2.result.now.addr.number) =
    (rw c.deref.ensures.value at c.gap_count-count.ensures) ∙ ap length (same_unaccessed c.args.accesses.items c.put_in_order-sorted.result.items c.index.result.now c.index-2.result.now o) in
    (accessed_spans c.args.accesses.items c.put_in_order-sorted.result.items c.index.result.now c.index-2.result.now o, omega (arith, count))

-- where none is counted, the fillers are none, and the ordered accesses are all of them
none_made : (g : Over) (c : Then-count-eq0 g) → map numbers_of [] ≡ map (filler_at (g.M.Reads.cells c.args.m.now)) (unaccessed c.put_in_order-sorted.result.items c.index.result.now.addr.number c.index-2.result.now.addr.number)
unfolding unaccessed
none_made g c =
    let count : c.gap_count-count.result ≡ length (unaccessed c.put_in_order-sorted.result.items c.index.result.now.addr.number c.index-2.result.now.addr.number) = rw c.deref.ensures.value at c.gap_count-count.ensures in
    made_none (filler_at (g.M.Reads.cells c.args.m.now)) (unaccessed c.put_in_order-sorted.result.items c.index.result.now.addr.number c.index-2.result.now.addr.number) (omega (arith, count))

all_ordered : (g : Over) (c : Then-count-eq0 g) → c.put_in_order-sorted.result.items ≡ in_order pair_cmp (c.put_in_order-sorted.result.items ++ [])
all_ordered g c = in_order_alone c.put_in_order-sorted.result.items c.put_in_order-sorted.ensures.sorted

pub returns-then-count-eq0-clause-fill : goal.returns-then-count-eq0-clause-fill
returns-then-count-eq0-clause-fill g c =
    let o : Ordered c.args.accesses.items c.put_in_order-sorted.result.items c.index.result.now c.index-2.result.now = ordered g (goal.at.returns-then-count-eq0-clause-fill g c).After-deref in
    rw c.new-fill.ensures.items (are_fillers c.args.accesses.items c.put_in_order-sorted.result.items c.index.result.now c.index-2.result.now o (g.M.Reads.cells c.args.m.now) [] c.put_in_order-sorted.result.items (none_made g (goal.at.returns-then-count-eq0-clause-fill g c).Then-count-eq0) (all_ordered g (goal.at.returns-then-count-eq0-clause-fill g c).Then-count-eq0))

pub returns-then-count-eq0-clause-sorted : goal.returns-then-count-eq0-clause-sorted
returns-then-count-eq0-clause-sorted g c =
    let o : Ordered c.args.accesses.items c.put_in_order-sorted.result.items c.index.result.now c.index-2.result.now = ordered g (goal.at.returns-then-count-eq0-clause-sorted g c).After-deref in
    rw c.new-fill.ensures.items (sorted_accesses c.args.accesses.items c.put_in_order-sorted.result.items c.index.result.now c.index-2.result.now o (g.M.Reads.cells c.args.m.now) [] c.put_in_order-sorted.result.items (none_made g (goal.at.returns-then-count-eq0-clause-sorted g c).Then-count-eq0) (all_ordered g (goal.at.returns-then-count-eq0-clause-sorted g c).Then-count-eq0))

pub returns-then-count-eq0-clause-no_fault : goal.returns-then-count-eq0-clause-no_fault
returns-then-count-eq0-clause-no_fault g c =
    let o : Ordered c.args.accesses.items c.put_in_order-sorted.result.items c.index.result.now c.index-2.result.now = ordered g (goal.at.returns-then-count-eq0-clause-no_fault g c).After-deref in
    rw c.new-fill.ensures.items (columns_no_fault c.args.accesses.items c.put_in_order-sorted.result.items c.index.result.now c.index-2.result.now o (g.M.Reads.cells c.args.m.now) [] c.put_in_order-sorted.result.items (none_made g (goal.at.returns-then-count-eq0-clause-no_fault g c).Then-count-eq0) (all_ordered g (goal.at.returns-then-count-eq0-clause-no_fault g c).Then-count-eq0))

pub returns-clause-fill : goal.returns-clause-fill
returns-clause-fill g c = are_fillers c.args.accesses.items c.put_in_order-sorted.result.items c.index.result.now c.index-2.result.now (ordered g (goal.at.returns-clause-fill g c).After-deref) (g.M.Reads.cells c.args.m.now) c.in_ok-filled.field-0.fill.items c.in_ok-filled.field-0.sorted.items c.in_ok-filled.ensures.fill c.in_ok-filled.ensures.sorted

pub returns-clause-sorted : goal.returns-clause-sorted
returns-clause-sorted g c = sorted_accesses c.args.accesses.items c.put_in_order-sorted.result.items c.index.result.now c.index-2.result.now (ordered g (goal.at.returns-clause-sorted g c).After-deref) (g.M.Reads.cells c.args.m.now) c.in_ok-filled.field-0.fill.items c.in_ok-filled.field-0.sorted.items c.in_ok-filled.ensures.fill c.in_ok-filled.ensures.sorted

pub returns-clause-room : goal.returns-clause-room
unfolding unaccessed
returns-clause-room g c =
    let count : c.gap_count-count.result ≡ length (unaccessed c.put_in_order-sorted.result.items c.index.result.now.addr.number c.index-2.result.now.addr.number) = rw c.deref.ensures.value at c.gap_count-count.ensures in
    fillers_fit c.args.accesses.items c.put_in_order-sorted.result.items c.index.result.now c.index-2.result.now (ordered g (goal.at.returns-clause-room g c).After-deref) (g.M.Reads.cells c.args.m.now) c.in_ok-filled.field-0.fill.items c.in_ok-filled.field-0.sorted.items c.in_ok-filled.ensures.fill c.in_ok-filled.ensures.sorted (omega (arith, count))

pub returns-clause-no_fault : goal.returns-clause-no_fault
returns-clause-no_fault g c = columns_no_fault c.args.accesses.items c.put_in_order-sorted.result.items c.index.result.now c.index-2.result.now (ordered g (goal.at.returns-clause-no_fault g c).After-deref) (g.M.Reads.cells c.args.m.now) c.in_ok-filled.field-0.fill.items c.in_ok-filled.field-0.sorted.items c.in_ok-filled.ensures.fill c.in_ok-filled.ensures.sorted

pub returns-in_err-filled-clause-cause : goal.returns-in_err-filled-clause-cause
unfolding IsCause unaccessed
returns-in_err-filled-clause-cause g c =
    let o : Ordered c.args.accesses.items c.put_in_order-sorted.result.items c.index.result.now c.index-2.result.now = (ordered g (goal.at.returns-in_err-filled-clause-cause g c).After-deref) in
    let count : c.gap_count-count.result ≡ length (unaccessed c.args.accesses.items c.index.result.now.addr.number c.index-2.result.now.addr.number) =
    (rw c.deref.ensures.value at c.gap_count-count.ensures) ∙ ap length (same_unaccessed c.args.accesses.items c.put_in_order-sorted.result.items c.index.result.now c.index-2.result.now o) in
    let room : HasRoom c.args.accesses.items = record {
      least = c.index.result.now.addr.number;
      greatest = c.index-2.result.now.addr.number;
      spans = accessed_spans c.args.accesses.items c.put_in_order-sorted.result.items c.index.result.now c.index-2.result.now o;
      few = omega (arith, count);
    } in
    memory_cause c.args.accesses.items c.from_residual.result room c.from_residual.ensures.1
