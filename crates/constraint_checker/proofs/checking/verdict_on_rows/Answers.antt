use Rattle.std.proofs.Common.{◌∙◌, sym, refl}
use Rattle.table_file.specs.Tables.{contents}
use Rattle.constraint_checker.proofs.Groups.{rows_refused, rows_accepted}
use Rattle.constraint_checker.proofs.checking.verdict_on_rows.Goals as goal

pub returns-in-Some-clause-verdict : goal.returns-in-Some-clause-verdict
returns-in-Some-clause-verdict c = c.refused.ensures ∙ sym (rows_refused (contents c.args.tables.now) c.in-Some.row c.in-Some.number (rw c.deref.ensures.value at c.in-Some.ensures.first))

pub returns-in-None-clause-verdict : goal.returns-in-None-clause-verdict
returns-in-None-clause-verdict c = sym ((rows_accepted (contents c.args.tables.now)).1 (rw c.deref.ensures.value at (c.in-None.ensures.none.0 refl)))

pub returns-in-Some-clause-runs : goal.returns-in-Some-clause-runs
returns-in-Some-clause-runs c = λ e. absurd (let h = sym c.refused.ensures ∙ e in cc)

pub returns-in-None-clause-runs : goal.returns-in-None-clause-runs
returns-in-None-clause-runs c = λ _. rw c.deref.ensures.value at (c.in-None.ensures.run refl)
