use Rattle.std.proofs.Common.{◌≡◌, ◌-◌, ◌+◌, length, get_or, sym, ap, ◌∙◌, arith}
use Rattle.sorted_lists.specs.Gaps.{absent, is_taken, gaps_between}
use Rattle.sorted_lists.proofs.Absent.{walked_at, walked_start, count_at, count_end, length-absent-le, length-gaps-le, absent_none}
use Rattle.sorted_lists.proofs.keys.gap_count.Given.{Over}
use Rattle.sorted_lists.proofs.keys.gap_count.Goals as goal
use Rattle.sorted_lists.proofs.keys.gap_count.Goals.{After-saturating_sub-count}

pub loop-x-init : goal.loop-x-init
loop-x-init g c = record {
  walked = walked_start g.T.Keyed.key c.args.ordered.now c.args.low.number (λ k d lt. (c.requires.within k d lt).0);
  counted = ap length (sym (absent_none (is_taken g.T.Keyed.key c.args.ordered.now) c.args.low.number));
  within = omega arith;
}

-- where the item stands
at : (g : Over) (c : After-saturating_sub-count g) → g.T.Keyed.key (get_or c.args.ordered.now c.loop-x.x-index c.x-item.result) ≡ c.key-key.result.number
at g c = ap g.T.Keyed.key (sym c.x-item.is) ∙ sym c.key-key.ensures

counted : (g : Over) (c : After-saturating_sub-count g) → c.loop-x.count + c.saturating_sub-count.result ≡ length (absent (is_taken g.T.Keyed.key c.args.ordered.now) c.args.low.number (c.key-key.result.number + 1 - c.args.low.number))
counted g c = ap (λ n. c.loop-x.count + n) c.saturating_sub-count.ensures
    ∙ count_at g.T.Keyed.key c.args.ordered.now c.args.low.number c.requires.ascends c.loop-x.x-index c.loop-x.next c.key-key.result.number c.x-item.result c.loop-x-test.true (at g c) c.loop-x.invariant.walked c.loop-x.count c.loop-x.invariant.counted

pub loop-x-preserved : goal.loop-x-preserved
loop-x-preserved g c = record {
  walked = walked_at g.T.Keyed.key c.args.ordered.now c.args.low.number c.requires.ascends c.loop-x.x-index c.loop-x.next c.key-key.result.number c.x-item.result c.loop-x-test.true (at g c) c.loop-x.invariant.walked;
  counted = counted g c;
  within = omega (arith, at g c, (c.requires.within c.loop-x.x-index c.x-item.result c.loop-x-test.true).1);
}

pub overflow_add-count : goal.overflow_add-count
overflow_add-count g c =
    omega (arith, counted g c, length-absent-le (is_taken g.T.Keyed.key c.args.ordered.now) c.args.low.number (c.key-key.result.number + 1 - c.args.low.number), c.key-key.result.in_field)

total : (g : Over) (c : goal.After-struct_known-1 g) → c.loop-x.count + (c.args.high.number + 1 - c.loop-x.next) ≡ length (gaps_between g.T.Keyed.key c.args.ordered.now c.args.low.number c.args.high.number)
total g c = count_end g.T.Keyed.key c.args.ordered.now c.args.low.number c.args.high.number c.requires.ascends c.loop-x.x-index c.loop-x.next (omega arith) c.loop-x.invariant.within c.loop-x.invariant.walked c.loop-x.count c.loop-x.invariant.counted

pub overflow_add-result-2 : goal.overflow_add-result-2
overflow_add-result-2 g c =
    omega (arith, total g c, length-gaps-le g.T.Keyed.key c.args.ordered.now c.args.low.number c.args.high.number, c.args.high.in_field)

pub returns : goal.returns
returns g c = total g c
