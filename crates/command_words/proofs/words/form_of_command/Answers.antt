use Rattle.std.proofs.Common.{sym, ap, ◌∙◌, option_map}
use Rattle.std.specs.Option.{option_copied}
use Rattle.command_words.specs.Calls.{call_of}
use Rattle.command_words.specs.Names.{texts}
use Rattle.command_words.proofs.FormLists.{call-found}
use Rattle.command_words.proofs.words.form_of_command.Goals as goal

pub returns : goal.returns
returns c =
    let found = call-found c.args.forms.now c.args.command.now (texts c.args.words.now) (option_copied c.form_named.result) c.form_named.ensures in
    c.form_after.ensures ∙ sym (rw c.in_ok-form.was at found)

pub returns-in_err-form : goal.returns-in_err-form
returns-in_err-form c =
    let found = call-found c.args.forms.now c.args.command.now (texts c.args.words.now) (option_copied c.form_named.result) c.form_named.ensures in
    ap (option_map call_of) c.from_residual.ensures ∙ sym (rw c.in_err-form.was at found)
