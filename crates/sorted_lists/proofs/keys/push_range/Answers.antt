use Rattle.std.proofs.Common.{◌≡◌, ◌-◌, refl, arith}
use Rattle.sorted_lists.proofs.Absent.{numbers_pushed, range_end}
use Rattle.sorted_lists.proofs.keys.push_range.Goals as goal

pub loop-number-preserved : goal.loop-number-preserved
loop-number-preserved c = record {
  pushed = numbers_pushed c.loop-number.found.items c.push.new.self.items c.args.found.now.items _ c.args.from c.loop-number.number c.in_ok-push.ensures.items refl (omega arith) c.loop-number.invariant.pushed;
  empty = λ h. absurd (omega arith);
}

pub returns : goal.returns
returns c =
    let reached : c.loop-number.number - c.args.from ≡ c.args.to - c.args.from = range_end c.args.from c.args.to c.loop-number.number c.loop-number.auto.number-end c.loop-number.invariant.empty (omega arith) in
    rw (← reached) c.loop-number.invariant.pushed
