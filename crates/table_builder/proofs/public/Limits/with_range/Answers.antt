use Rattle.std.proofs.Common.{fold, min, max, refl, ap, ◌∙◌}
use Rattle.goldilocks.specs.Field.{field_add}
use Rattle.access_lists.proofs.Pieces.{first_address, next_address}
use Rattle.table_builder.specs.PublicParts.{digits}
use Rattle.table_builder.proofs.SmallNumbers.{fold_cell}
use Rattle.table_builder.proofs.public.Limits.with_range.Goals as goal

pub loop-init : goal.loop-init
unfolding field_add
loop-init g c = record { address = first_address c.args.begin; least = refl; greatest = refl }

pub loop-preserved : goal.loop-preserved
unfolding field_add
loop-preserved g c =
    let m = g.M.Reads.cells c.args.m.now in
    let l = c.loop in
    record {
      address = c.add-addr.ensures ∙ next_address c.args.begin.number l.counter l.addr.number l.invariant.address;
      least =
          fold_cell min c.args.self.least m c.args.begin.number l.counter l.addr.number l.limits.least c.with_digits-limits.result.least l.invariant.address l.invariant.least
          (c.with_digits-limits.ensures.least ∙ ap (λ n. fold min l.limits.least (digits n)) c.number_at.ensures);
      greatest =
          fold_cell max c.args.self.greatest m c.args.begin.number l.counter l.addr.number l.limits.greatest c.with_digits-limits.result.greatest l.invariant.address l.invariant.greatest
          (c.with_digits-limits.ensures.greatest ∙ ap (λ n. fold max l.limits.greatest (digits n)) c.number_at.ensures);
    }
