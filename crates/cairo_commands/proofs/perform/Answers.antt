use Rattle.std.proofs.Common.{Option, Some, None, IfSome}
use Rattle.command_words.specs.Names.{texts}
use Rattle.cairo_commands.specs.Reply.{request_of, task_of}
use Rattle.cairo_commands.proofs.AskedNames.{KeepsNames-asked}
use Rattle.cairo_commands.proofs.Means.{Means-from_reply}
use Rattle.cairo_commands.proofs.perform.Goals as goal

IfSome-to : {X : Type 0} (o : Option X) (P Q : X → Type 0) → IfSome o P → ((x : X) → P x → Q x) → IfSome o Q
IfSome-to None P Q holds to = tt
IfSome-to (Some x) P Q holds to = to x holds

pub returns-clause-performs : goal.returns-clause-performs
returns-clause-performs g c =
    let words = c.args.words.now in
    let before = g.S.Store.seen c.args.store.now in
    let after = g.S.Store.seen c.finish.new.store in
    let call = c.finish.ensures.finishes (task_of words) before c.plan-planned.ensures.uses c.plan-planned.ensures.told in
    record {
      call = call;
      means = IfSome-to before.files _ _ call.replies (λ files replies decided.
          Means-from_reply files c.finish.result after (g.K.Sink.seen c.args.sink.now) (g.K.Sink.seen c.finish.new.sink) (request_of words) (KeepsNames-asked (texts words)) (replies decided));
    }
