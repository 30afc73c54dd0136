use Rattle.std.proofs.Common.{List, String, Global, Vec, Result, subst, sym, IfOk, drop}
use Rattle.std.specs.declared.alloc.AllocError.{AllocError}
use Rattle.cairo_commands.specs.Perform.{Performs}
use Rattle.cairo_cli.proofs.answer.Goals as goal

pub returns-in-Ok-clause-performs : goal.returns-in-Ok-clause-performs
returns-in-Ok-clause-performs g c =
    let before = g.S.Store.seen c.args.store.now in
    let after = g.S.Store.seen c.perform.new.store in
    let sink_before = g.K.Sink.seen c.args.sink.now in
    let sink_after = g.K.Sink.seen c.perform.new.sink in
    subst (λ (found : Result (Vec (String Global) Global) AllocError). IfOk found (λ words. Performs (drop 1 words.items) before after sink_before sink_after c.perform.result))
    (sym c.in-Ok.is)
    (subst (λ (words : List (String Global)). Performs (drop 1 words) before after sink_before sink_after c.perform.result)
    c.deref.ensures.value
    (subst (λ (words : List (String Global)). Performs words before after sink_before sink_after c.perform.result)
    c.after_name.ensures c.perform.ensures.performs))
