use Rattle.std.proofs.Common.{◌∙◌, sym}
use Rattle.std.proofs.lemmas.Bool.{both_ways}
use Rattle.program_file.specs.Listing.{listing}
use Rattle.public_input.specs.Statement.{statement}
use Rattle.table_file.specs.Tables.{contents}
use Rattle.constraint_checker.proofs.Groups.{run-at_start, run-at_rows, run-at_end, run-at_limbs}
use Rattle.constraint_checker.proofs.checking.verdict_on_run.Goals as goal

pub returns-then-not-is_accepted-clause-verdict : goal.returns-then-not-is_accepted-clause-verdict
returns-then-not-is_accepted-clause-verdict c =
    c.verdict_on_start-start.ensures
    ∙ sym (run-at_start (listing c.args.program.now) (statement c.args.public.now) (contents c.args.tables.now) (λ e. both_ways c.is_accepted.result c.if-not-is_accepted.true (c.is_accepted.ensures.1 (c.verdict_on_start-start.ensures ∙ e))))

pub returns-then-not-is_accepted-2-clause-verdict : goal.returns-then-not-is_accepted-2-clause-verdict
returns-then-not-is_accepted-2-clause-verdict c =
    c.verdict_on_rows-rows.ensures.verdict
    ∙ sym (run-at_rows (listing c.args.program.now) (statement c.args.public.now) (contents c.args.tables.now) (sym c.verdict_on_start-start.ensures ∙ c.is_accepted.ensures.0 c.if-not-is_accepted.false) (λ e. both_ways c.is_accepted-2.result c.if-not-is_accepted-2.true (c.is_accepted-2.ensures.1 (c.verdict_on_rows-rows.ensures.verdict ∙ e))))

pub returns-then-not-is_accepted-3-clause-verdict : goal.returns-then-not-is_accepted-3-clause-verdict
returns-then-not-is_accepted-3-clause-verdict c =
    c.verdict_on_end-end.ensures
    ∙ sym (run-at_end (listing c.args.program.now) (statement c.args.public.now) (contents c.args.tables.now) (sym c.verdict_on_start-start.ensures ∙ c.is_accepted.ensures.0 c.if-not-is_accepted.false) (sym c.verdict_on_rows-rows.ensures.verdict ∙ c.is_accepted-2.ensures.0 c.if-not-is_accepted-2.false) (λ e. both_ways c.is_accepted-3.result c.if-not-is_accepted-3.true (c.is_accepted-3.ensures.1 (c.verdict_on_end-end.ensures ∙ e))))

pub returns-clause-verdict : goal.returns-clause-verdict
returns-clause-verdict c =
    c.verdict_on_limbs.ensures
    ∙ sym (run-at_limbs (listing c.args.program.now) (statement c.args.public.now) (contents c.args.tables.now) (sym c.verdict_on_start-start.ensures ∙ c.is_accepted.ensures.0 c.if-not-is_accepted.false) (sym c.verdict_on_rows-rows.ensures.verdict ∙ c.is_accepted-2.ensures.0 c.if-not-is_accepted-2.false) (sym c.verdict_on_end-end.ensures ∙ c.is_accepted-3.ensures.0 c.if-not-is_accepted-3.false))

pub returns-clause-runs : goal.returns-clause-runs
returns-clause-runs c = λ _. c.verdict_on_rows-rows.ensures.runs (c.is_accepted-2.ensures.0 c.if-not-is_accepted-2.false)
