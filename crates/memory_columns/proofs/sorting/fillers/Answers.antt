use Rattle.goldilocks.specs.declared.Felt.{Felt}
use Rattle.memory_columns.specs.Filling.{filler_at, numbers_of}
use Rattle.memory_columns.proofs.Fillings.{made_more, made_all}
use Rattle.memory_columns.proofs.sorting.fillers.Goals as goal

pub loop-addr-preserved : goal.loop-addr-preserved
loop-addr-preserved g c =
    made_more numbers_of (λ (a : Felt). filler_at (g.M.Reads.cells c.args.m.now) a.number) c.args.addresses.now c.loop-addr.addr-index c.loop-addr.fill.items c.push.new.self.items c.addr-item.result c.filler_at.result c.loop-addr-test.true c.addr-item.is c.in_ok-push.ensures.items c.filler_at.ensures c.loop-addr.invariant

pub returns : goal.returns
returns g c =
    made_all numbers_of (λ (a : Felt). filler_at (g.M.Reads.cells c.args.m.now) a.number) c.args.addresses.now c.loop-addr.addr-index c.loop-addr.fill.items c.loop-addr-test.false c.loop-addr.invariant
