use Rattle.std.proofs.Common.{◌∙◌, Some, sym, ap, arith}
use Rattle.goldilocks.specs.Felts.{numbers}
use Rattle.public_input.specs.Statement.{statement}
use Rattle.table_builder.specs.declared.faults.Field.TheVariants.{RcMin, RcMax}
use Rattle.table_builder.specs.Findings.{Mismatch}
use Rattle.table_builder.proofs.Limits.{least-low, greatest-low, below_limit, above_limit, within_limits}
use Rattle.table_builder.proofs.columns.within_limits.Goals as goal

pub outside-requires : goal.outside-requires
outside-requires c = omega (arith, c.least_of-least.ensures, least-low c.args.values.now)

pub returns-then-least-from : goal.returns-then-least-from
returns-then-least-from c =
    rw c.outside.ensures
    (below_limit (statement c.args.public.now) (numbers c.args.values.now) (omega (arith, c.least_of-least.ensures, c.from.ensures, c.if-least-from.true))
    ∙ ap (λ n. Some (Mismatch RcMin c.args.public.now.rc_min n)) (sym c.least_of-least.ensures))

pub outside-requires-then-greatest-from : goal.outside-requires-then-greatest-from
outside-requires-then-greatest-from c = omega (arith, c.greatest_of-greatest.ensures, greatest-low c.args.values.now)

pub returns-then-greatest-from : goal.returns-then-greatest-from
returns-then-greatest-from c =
    rw c.outside-then-greatest-from.ensures
    (above_limit (statement c.args.public.now) (numbers c.args.values.now) (omega (arith, c.least_of-least.ensures, c.from.ensures, c.if-least-from.false)) (omega (arith, c.greatest_of-greatest.ensures, c.from-2.ensures, c.if-greatest-from.true))
    ∙ ap (λ n. Some (Mismatch RcMax c.args.public.now.rc_max n)) (sym c.greatest_of-greatest.ensures))

pub returns : goal.returns
returns c = (
  within_limits (statement c.args.public.now) (numbers c.args.values.now) (omega (arith, c.least_of-least.ensures, c.from.ensures, c.if-least-from.false)) (omega (arith, c.greatest_of-greatest.ensures, c.from-2.ensures, c.if-greatest-from.false)),
  tt,
)
