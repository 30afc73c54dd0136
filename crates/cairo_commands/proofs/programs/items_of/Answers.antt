use Rattle.std.proofs.Common.{ap, Vec, Global}
use Rattle.casm_statements.specs.declared.Item.{Item}
use Rattle.casm_text.proofs.TextReading.{text_reading-meant}
use Rattle.command_frame.specs.Formats.{told}
use Rattle.cairo_commands.specs.Programs.{syntax_unread}
use Rattle.cairo_commands.proofs.ProgramReadings.{text_refused}
use Rattle.cairo_commands.proofs.programs.items_of.Goals as goal

pub returns-in-Ok : goal.returns-in-Ok
returns-in-Ok c =
    ap (told syntax_unread) (text_reading-meant c.args.text.now c.in-Ok.items.items c.in-Ok.ensures.reads)

pub returns-in-Err : goal.returns-in-Err
returns-in-Err c =
    text_refused (λ (items : Vec Item Global). items.items) c.args.text.now c.in-Err.fault c.unread_text.result c.in-Err.ensures.fault c.unread_text.ensures.says c.unread_text.ensures.memory
