use Rattle.std.proofs.Common.{length, Some, None, option_map, sym, ap, ◌∙◌}
use Rattle.std.proofs.lemmas.List.{length-map}
use Rattle.command_words.specs.Forms.{form_of, part_of}
use Rattle.command_words.proofs.FormLists.{split-told}
use Rattle.command_words.proofs.words.split_workers.Goals as goal

pub returns : goal.returns
returns c =
    sym (split-told (form_of c.args.form.now) (length c.args.form.now.parts.now) c.args.words.now c.in_ok-arguments.arguments.now c.in_ok-arguments.last.now (Some c.in_ok-workers.workers)
    (sym (length-map c.args.form.now.parts.now part_of)) c.in_ok-arguments.ensures.cases (sym c.in_ok-workers.was ∙ c.workers_named.ensures))

pub returns-in_err-workers : goal.returns-in_err-workers
returns-in_err-workers c =
    ap (option_map _) c.from_residual-in_err-workers.ensures
    ∙ sym (split-told (form_of c.args.form.now) (length c.args.form.now.parts.now) c.args.words.now c.in_ok-arguments.arguments.now c.in_ok-arguments.last.now None
    (sym (length-map c.args.form.now.parts.now part_of)) c.in_ok-arguments.ensures.cases (sym c.in_err-workers.was ∙ c.workers_named.ensures))
