use Rattle.std.proofs.Common.{◌≡◌, get_or, map, sym, ap, ◌∙◌, arith}
use Rattle.goldilocks.specs.declared.Felt.{Felt}
use Rattle.sorted_lists.specs.Gaps.{is_taken}
use Rattle.sorted_lists.proofs.Absent.{walked_at, walked_start, absent_at, gaps_end, absent_none}
use Rattle.sorted_lists.proofs.keys.gaps.Given.{Over}
use Rattle.sorted_lists.proofs.keys.gaps.Goals as goal
use Rattle.sorted_lists.proofs.keys.gaps.Goals.{In_ok-push_range}

pub loop-x-init : goal.loop-x-init
loop-x-init g c = record {
  walked = walked_start g.T.Keyed.key c.args.ordered.now c.args.low.number (λ k d lt. (c.requires.within k d lt).0);
  found_so_far = ap (map (λ (x : Felt). x.number)) c.in_ok-found.ensures.items ∙ sym (absent_none (is_taken g.T.Keyed.key c.args.ordered.now) c.args.low.number);
  within = omega arith;
}

-- where the item stands
at : (g : Over) (c : In_ok-push_range g) → g.T.Keyed.key (get_or c.args.ordered.now c.loop-x.x-index c.x-item.result) ≡ c.key-key.result.number
at g c = ap g.T.Keyed.key (sym c.x-item.is) ∙ sym c.key-key.ensures

pub loop-x-preserved : goal.loop-x-preserved
loop-x-preserved g c = record {
  walked = walked_at g.T.Keyed.key c.args.ordered.now c.args.low.number c.requires.ascends c.loop-x.x-index c.loop-x.next c.key-key.result.number c.x-item.result c.loop-x-test.true (at g c) c.loop-x.invariant.walked;
  found_so_far = rw (c.in_ok-push_range.ensures, c.loop-x.invariant.found_so_far)
      (sym (absent_at g.T.Keyed.key c.args.ordered.now c.args.low.number c.requires.ascends c.loop-x.x-index c.loop-x.next c.key-key.result.number c.x-item.result c.loop-x-test.true (at g c) c.loop-x.invariant.walked));
  within = omega (arith, at g c, (c.requires.within c.loop-x.x-index c.x-item.result c.loop-x-test.true).1);
}

pub returns : goal.returns
returns g c =
    rw (c.in_ok-push_range-2.ensures, c.loop-x.invariant.found_so_far)
    (sym (gaps_end g.T.Keyed.key c.args.ordered.now c.args.low.number c.args.high.number c.requires.ascends c.loop-x.x-index c.loop-x.next (omega arith) c.loop-x.invariant.within c.loop-x.invariant.walked))
