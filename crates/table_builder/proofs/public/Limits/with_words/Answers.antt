use Rattle.std.proofs.Common.{fold, min, max, ap, ◌∙◌}
use Rattle.table_builder.specs.PublicParts.{digits}
use Rattle.table_builder.proofs.SmallNumbers.{fold_word}
use Rattle.table_builder.proofs.public.Limits.with_words.Goals as goal

pub loop-state-preserved : goal.loop-state-preserved
loop-state-preserved g c =
    let m = g.M.Reads.cells c.args.m.now in
    let l = c.loop-state in
    record {
      least =
          fold_word min c.args.self.least m c.args.states.now l.state-index c.state-item.result l.limits.least c.with_digits-limits.result.least c.loop-state-test.true c.state-item.is l.invariant.least
          (c.with_digits-limits.ensures.least ∙ ap (λ n. fold min l.limits.least (digits n)) c.number_at.ensures);
      greatest =
          fold_word max c.args.self.greatest m c.args.states.now l.state-index c.state-item.result l.limits.greatest c.with_digits-limits.result.greatest c.loop-state-test.true c.state-item.is l.invariant.greatest
          (c.with_digits-limits.ensures.greatest ∙ ap (λ n. fold max l.limits.greatest (digits n)) c.number_at.ensures);
    }
