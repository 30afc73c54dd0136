use Rattle.std.proofs.Common.{Result, Ok, Err, IfOk}
use Rattle.program_file.specs.Listing.{listing}
use Rattle.cairo_commands.proofs.ProgramReadings.{items_shown}
use Rattle.cairo_commands.proofs.programs.shown_items.Goals as goal

IfOk-map : {A E : Type 0} (P Q : A → Type 0) (r : Result A E) → ((a : A) → P a → Q a) → IfOk r P → IfOk r Q
IfOk-map P Q (Ok a) to holds = to a holds
IfOk-map P Q (Err e) to holds = tt

pub returns : goal.returns
returns c =
    IfOk-map _ _ c.disassemble.result
    (λ items shown. items_shown (listing c.args.program.now) c.words.result.now c.start.result c.end.result c.builtins-output.result items.items c.words.ensures c.start.ensures c.end.ensures c.builtins-output.ensures shown)
    c.disassemble.ensures.shown
