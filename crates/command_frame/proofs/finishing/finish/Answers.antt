use Rattle.command_frame.proofs.Carried.{Carries-written}
use Rattle.command_frame.proofs.Evidence.{Finishes-carried}
use Rattle.command_frame.proofs.finishing.finish.Goals as goal

pub returns-clause-finishes : goal.returns-clause-finishes
returns-clause-finishes g c = λ task before plans told.
    let after = g.S.Store.seen c.write-ending.new.store in
    let ending = c.write-ending.result in
    Finishes-carried before after (g.K.Sink.seen c.args.sink.now) (g.K.Sink.seen c.print.new.sink) c.print.result ending c.print.ensures.prints c.print.ensures.sink_faults
    (λ none. (c.print.ensures.silent none).0) task
    (Carries-written task before (g.S.Store.seen c.args.store.now) after c.args.planned ending plans told c.write-ending.ensures.writes)
