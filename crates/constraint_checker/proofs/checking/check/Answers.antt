use Rattle.std.proofs.Common.{◌≡◌, ◌↔◌, ◌∙◌, sym, arith}
use Rattle.std.proofs.lemmas.Bool.{both_ways}
use Rattle.std.proofs.lemmas.Result.{IfOk-weaker}
use Rattle.program_file.specs.Listing.{listing}
use Rattle.public_input.specs.Statement.{statement}
use Rattle.table_file.specs.Tables.{contents}
use Rattle.constraint_checker.specs.declared.Verdict.TheVariants.{Accepted}
use Rattle.constraint_checker.specs.Constraints.{MeetsAll}
use Rattle.constraint_checker.specs.Verdict.{verdict_on, verdict}
use Rattle.constraint_checker.specs.Acceptance.{DescribeRun}
use Rattle.constraint_checker.proofs.Groups.{on_small_values, at_run, at_memory, at_small_values}
use Rattle.constraint_checker.proofs.Acceptances.{accepted_exactly, rows_counted}
use Rattle.constraint_checker.proofs.Descriptions.{describe_run}
use Rattle.constraint_checker.proofs.checking.check.Goals as goal

pub returns-then-not-is_accepted-clause-verdict : goal.returns-then-not-is_accepted-clause-verdict
returns-then-not-is_accepted-clause-verdict c =
    c.verdict_on_run-run.ensures.verdict
    ∙ sym (at_run (listing c.args.program.now) (statement c.args.public.now) (contents c.args.tables.now) (λ e. both_ways c.is_accepted.result c.if-not-is_accepted.true (c.is_accepted.ensures.1 (c.verdict_on_run-run.ensures.verdict ∙ e))))

pub returns-then-not-is_accepted-clause-accepted : goal.returns-then-not-is_accepted-clause-accepted
returns-then-not-is_accepted-clause-accepted c =
    let is = returns-then-not-is_accepted-clause-verdict c in
    let exactly = accepted_exactly (listing c.args.program.now) (statement c.args.public.now) (contents c.args.tables.now) in
    (λ e. exactly.0 (sym is ∙ e), λ met. is ∙ exactly.1 met)

pub returns-then-not-is_accepted-2-clause-verdict : goal.returns-then-not-is_accepted-2-clause-verdict
returns-then-not-is_accepted-2-clause-verdict c =
    c.in_ok-memory.ensures
    ∙ sym (at_memory (listing c.args.program.now) (statement c.args.public.now) (contents c.args.tables.now) (sym c.verdict_on_run-run.ensures.verdict ∙ c.is_accepted.ensures.0 c.if-not-is_accepted.false) (λ e. both_ways c.is_accepted-2.result c.if-not-is_accepted-2.true (c.is_accepted-2.ensures.1 (c.in_ok-memory.ensures ∙ e))))

pub returns-then-not-is_accepted-2-clause-accepted : goal.returns-then-not-is_accepted-2-clause-accepted
returns-then-not-is_accepted-2-clause-accepted c =
    let is = returns-then-not-is_accepted-2-clause-verdict c in
    let exactly = accepted_exactly (listing c.args.program.now) (statement c.args.public.now) (contents c.args.tables.now) in
    (λ e. exactly.0 (sym is ∙ e), λ met. is ∙ exactly.1 met)

pub verdict_on_small_values-requires-clause-some_row : goal.verdict_on_small_values-requires-clause-some_row
verdict_on_small_values-requires-clause-some_row c =
    let counted = rows_counted (listing c.args.program.now) (statement c.args.public.now) (contents c.args.tables.now) (sym c.verdict_on_run-run.ensures.verdict ∙ c.is_accepted.ensures.0 c.if-not-is_accepted.false) in
    omega (arith, counted, c.requires.valid_public.some_step)

pub returns-clause-verdict : goal.returns-clause-verdict
returns-clause-verdict c =
    IfOk-weaker c.verdict_on_small_values.result (λ v. v ≡ verdict_on (on_small_values (statement c.args.public.now) (contents c.args.tables.now))) (λ v. v ≡ verdict (listing c.args.program.now) (statement c.args.public.now) (contents c.args.tables.now))
    (λ v e. e ∙ sym (at_small_values (listing c.args.program.now) (statement c.args.public.now) (contents c.args.tables.now) (sym c.verdict_on_run-run.ensures.verdict ∙ c.is_accepted.ensures.0 c.if-not-is_accepted.false) (sym c.in_ok-memory.ensures ∙ c.is_accepted-2.ensures.0 c.if-not-is_accepted-2.false))) c.verdict_on_small_values.ensures

pub returns-clause-accepted : goal.returns-clause-accepted
returns-clause-accepted c =
    let exactly = accepted_exactly (listing c.args.program.now) (statement c.args.public.now) (contents c.args.tables.now) in
    IfOk-weaker c.verdict_on_small_values.result (λ v. v ≡ verdict (listing c.args.program.now) (statement c.args.public.now) (contents c.args.tables.now)) (λ v. (v ≡ Accepted) ↔ MeetsAll (listing c.args.program.now) (statement c.args.public.now) (contents c.args.tables.now))
    (λ v is. (λ e. exactly.0 (sym is ∙ e), λ met. is ∙ exactly.1 met)) (returns-clause-verdict c)

pub returns-clause-describes : goal.returns-clause-describes
returns-clause-describes c =
    let exactly = accepted_exactly (listing c.args.program.now) (statement c.args.public.now) (contents c.args.tables.now) in
    let runs = c.verdict_on_run-run.ensures.runs (c.is_accepted.ensures.0 c.if-not-is_accepted.false) in
    IfOk-weaker c.verdict_on_small_values.result (λ v. v ≡ verdict (listing c.args.program.now) (statement c.args.public.now) (contents c.args.tables.now)) (λ v. v ≡ Accepted → DescribeRun (listing c.args.program.now) (statement c.args.public.now) (contents c.args.tables.now))
    (λ v is e. describe_run (listing c.args.program.now) (statement c.args.public.now) (contents c.args.tables.now) c.args.program.now.few_words c.requires.valid_public c.requires.valid_tables (exactly.0 (sym is ∙ e)) runs)
    (returns-clause-verdict c)
