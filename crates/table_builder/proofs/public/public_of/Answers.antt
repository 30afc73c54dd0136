use Rattle.std.proofs.Common.{◌≡◌, ◌-◌, ◌∙◌, fold, min, max, length, get_or, take, sym, subst, ap, ap₂}
use Rattle.goldilocks.specs.Felts.{numbers}
use Rattle.public_input.specs.Valid.{KeepsLimits}
use Rattle.relocation.specs.Relocated.{field_run}
use Rattle.table_builder.specs.Columns.{cells_at}
use Rattle.table_builder.specs.Public.{memory_in}
use Rattle.table_builder.specs.PublicParts.{all_digits, words_at, numbers_from}
use Rattle.table_builder.proofs.BuiltRun.{registers_low}
use Rattle.table_builder.proofs.Stated.{limits_kept}
use Rattle.table_builder.proofs.PublicCode.{code_statement}
use Rattle.table_builder.proofs.public.public_of.Goals as goal

pub returns-clause-statement : goal.returns-clause-statement
returns-clause-statement c =
    let run = c.args.run.now in
    let m = memory_in (field_run run) in
    let cells = all_digits (numbers_from m run.range_begin.number run.range_count) in
    let d = c.deref.ensures in
    let count : c.len-last.result ≡ length run.states.items = c.len-last.ensures ∙ (sym d.len ∙ ap length d.value) in
    let taken = ap₂ (λ n xs. take (n - 1) xs) count d.value in
    code_statement run c.requires.stated (c.len-last.result - 1) c.with_range-limits.result.least c.with_range-limits.result.greatest c.index.result.now c.index-2.result.now c.in_ok-cells.cells.items
    (ap (λ n. n - 1) count)
    c.index.ensures
    (c.index-2.ensures ∙ ap (λ n. get_or run.states.items (n - 1) c.index-2.result.now) count)
    (c.with_range-limits.ensures.least ∙ ap (λ w. fold min w cells) (c.with_words.ensures.least ∙ ap₂ (λ a ss. fold min a (all_digits (words_at m ss))) c.none.ensures.least taken))
    (c.with_range-limits.ensures.greatest ∙ ap (λ w. fold max w cells) (c.with_words.ensures.greatest ∙ ap₂ (λ a ss. fold max a (all_digits (words_at m ss))) c.none.ensures.greatest taken))
    (c.in_ok-cells.ensures ∙ ap (λ xs. cells_at m (numbers xs)) c.deref-2.ensures.value)

pub returns-clause-valid : goal.returns-clause-valid
returns-clause-valid c =
    subst KeepsLimits (sym (returns-clause-statement c)) (limits_kept (field_run c.args.run.now) (registers_low c.args.run.now.states.items) c.requires.stated)
