use Rattle.std.proofs.Common.{◌≡◌, ◌+◌, ◌∙◌, length, ap, sym, arith}
use Rattle.casm_word.specs.Transition.{registers}
use Rattle.program_file.specs.Listing.{listing}
use Rattle.public_input.specs.Statement.{statement}
use Rattle.table_file.specs.Tables.{contents}
use Rattle.constraint_checker.proofs.Edges.{end-p6, end-p7, end-met}
use Rattle.constraint_checker.proofs.checking.verdict_on_end.Goals as goal

pub returns-then-tables-from : goal.returns-then-tables-from
unfolding registers
returns-then-tables-from c =
    let long : c.len-steps.result ≡ length c.args.tables.now.rows.items = omega (arith, c.len-steps.ensures, c.args.tables.now.rows.ok) in
    c.refused.ensures
    ∙ end-p6 (listing c.args.program.now) (statement c.args.public.now) (contents c.args.tables.now) c.len-steps.result long
    (λ e. c.if-tables-from.true (e ∙ ap (λ n. 1 + n) (sym (c.from.ensures ∙ c.end.ensures))))

pub returns-then-tables-public : goal.returns-then-tables-public
unfolding registers
returns-then-tables-public c =
    let long : c.len-steps.result ≡ length c.args.tables.now.rows.items = omega (arith, c.len-steps.ensures, c.args.tables.now.rows.ok) in
    c.refused-then-tables-public.ensures
    ∙ end-p7 (listing c.args.program.now) (statement c.args.public.now) (contents c.args.tables.now) c.len-steps.result long
    (c.if-tables-from.false ∙ ap (λ n. 1 + n) (c.from.ensures ∙ c.end.ensures)) c.if-tables-public.true

pub returns-else-tables-public : goal.returns-else-tables-public
unfolding registers
returns-else-tables-public c =
    end-met (listing c.args.program.now) (statement c.args.public.now) (contents c.args.tables.now) (c.if-tables-from.false ∙ ap (λ n. 1 + n) (c.from.ensures ∙ c.end.ensures)) c.if-tables-public.false
