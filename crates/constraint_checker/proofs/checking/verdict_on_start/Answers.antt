use Rattle.std.proofs.Common.{◌≡◌, ◌+◌, ◌∙◌, length, ap, sym, arith}
use Rattle.casm_word.specs.Transition.{Registers, registers}
use Rattle.program_file.specs.Listing.{listing}
use Rattle.public_input.specs.Statement.{statement}
use Rattle.table_file.specs.Tables.{contents}
use Rattle.constraint_checker.specs.Constraints.{first_state}
use Rattle.constraint_checker.proofs.Edges.{start-p1, start-p2, start-p3, start-p4, start-p5, start-met}
use Rattle.constraint_checker.proofs.checking.verdict_on_start.Goals as goal

pub returns-then-len-public : goal.returns-then-len-public
returns-then-len-public c =
    c.refused.ensures
    ∙ start-p1 (listing c.args.program.now) (statement c.args.public.now) (contents c.args.tables.now)
    (λ e. c.if-len-public.true (omega (arith, e, c.len.ensures, c.args.tables.now.rows.ok)))

pub returns-then-len-public-2 : goal.returns-then-len-public-2
returns-then-len-public-2 c =
    let rows : length c.args.tables.now.rows.items ≡ c.args.public.now.steps = omega (arith, c.len.ensures, c.if-len-public.false, c.args.tables.now.rows.ok) in
    c.refused-then-len-public-2.ensures
    ∙ start-p2 (listing c.args.program.now) (statement c.args.public.now) (contents c.args.tables.now) rows
    (λ e. c.if-len-public-2.true (omega (arith, e, c.len-else-len-public.ensures, c.args.tables.now.range.ok)))

pub returns-then-first-from : goal.returns-then-first-from
unfolding registers
returns-then-first-from c =
    let rows : length c.args.tables.now.rows.items ≡ c.args.public.now.steps = omega (arith, c.len.ensures, c.if-len-public.false, c.args.tables.now.rows.ok) in
    let range : length c.args.tables.now.range.items ≡ c.args.public.now.range_count = omega (arith, c.len-else-len-public.ensures, c.if-len-public-2.false, c.args.tables.now.range.ok) in
    c.refused-then-first-from.ensures
    ∙ start-p3 (listing c.args.program.now) (statement c.args.public.now) (contents c.args.tables.now) rows range
    (λ e. c.if-first-from.true (ap (λ (r : Registers). r.pc) c.first_state-first.ensures ∙ (e ∙ ap (λ n. 1 + n) (sym (c.from.ensures ∙ c.start.ensures)))))

pub returns-then-first-public : goal.returns-then-first-public
unfolding registers
returns-then-first-public c =
    let rows : length c.args.tables.now.rows.items ≡ c.args.public.now.steps = omega (arith, c.len.ensures, c.if-len-public.false, c.args.tables.now.rows.ok) in
    let range : length c.args.tables.now.range.items ≡ c.args.public.now.range_count = omega (arith, c.len-else-len-public.ensures, c.if-len-public-2.false, c.args.tables.now.range.ok) in
    let pc : (first_state (contents c.args.tables.now)).pc ≡ 1 + c.args.program.now.start = ap (λ (r : Registers). r.pc) (sym c.first_state-first.ensures) ∙ (c.if-first-from.false ∙ ap (λ n. 1 + n) (c.from.ensures ∙ c.start.ensures)) in
    c.refused-then-first-public.ensures
    ∙ start-p4 (listing c.args.program.now) (statement c.args.public.now) (contents c.args.tables.now) rows range pc
    (λ e. c.if-first-public.true (ap (λ (r : Registers). r.ap) c.first_state-first.ensures ∙ e))

pub returns-then-first-public-2 : goal.returns-then-first-public-2
unfolding registers
returns-then-first-public-2 c =
    let rows : length c.args.tables.now.rows.items ≡ c.args.public.now.steps = omega (arith, c.len.ensures, c.if-len-public.false, c.args.tables.now.rows.ok) in
    let range : length c.args.tables.now.range.items ≡ c.args.public.now.range_count = omega (arith, c.len-else-len-public.ensures, c.if-len-public-2.false, c.args.tables.now.range.ok) in
    let pc : (first_state (contents c.args.tables.now)).pc ≡ 1 + c.args.program.now.start = ap (λ (r : Registers). r.pc) (sym c.first_state-first.ensures) ∙ (c.if-first-from.false ∙ ap (λ n. 1 + n) (c.from.ensures ∙ c.start.ensures)) in
    let apc : (first_state (contents c.args.tables.now)).ap ≡ c.args.public.now.ap_first.number = ap (λ (r : Registers). r.ap) (sym c.first_state-first.ensures) ∙ c.if-first-public.false in
    c.refused-then-first-public-2.ensures
    ∙ start-p5 (listing c.args.program.now) (statement c.args.public.now) (contents c.args.tables.now) rows range pc apc
    (λ e. c.if-first-public-2.true (ap (λ (r : Registers). r.fp) c.first_state-first.ensures ∙ e))

pub returns-else-first-public-2 : goal.returns-else-first-public-2
unfolding registers
returns-else-first-public-2 c =
    let rows : length c.args.tables.now.rows.items ≡ c.args.public.now.steps = omega (arith, c.len.ensures, c.if-len-public.false, c.args.tables.now.rows.ok) in
    let range : length c.args.tables.now.range.items ≡ c.args.public.now.range_count = omega (arith, c.len-else-len-public.ensures, c.if-len-public-2.false, c.args.tables.now.range.ok) in
    let pc : (first_state (contents c.args.tables.now)).pc ≡ 1 + c.args.program.now.start = ap (λ (r : Registers). r.pc) (sym c.first_state-first.ensures) ∙ (c.if-first-from.false ∙ ap (λ n. 1 + n) (c.from.ensures ∙ c.start.ensures)) in
    let apc : (first_state (contents c.args.tables.now)).ap ≡ c.args.public.now.ap_first.number = ap (λ (r : Registers). r.ap) (sym c.first_state-first.ensures) ∙ c.if-first-public.false in
    let fp : (first_state (contents c.args.tables.now)).fp ≡ c.args.public.now.ap_first.number = ap (λ (r : Registers). r.fp) (sym c.first_state-first.ensures) ∙ c.if-first-public-2.false in
    start-met (listing c.args.program.now) (statement c.args.public.now) (contents c.args.tables.now) rows range pc apc fp
