use Rattle.std.proofs.Common.{◌≡◌, String, Global, string_bytes, ◌++◌, codes, Ok, refl, ap, ◌∙◌}
use Rattle.table_builder.specs.declared.faults.BuildFault.{BuildFault}
use Rattle.table_builder.specs.declared.faults.BuildFault.TheVariants as fault_is
use Rattle.table_builder.specs.Findings.{finding_of}
use Rattle.table_builder.specs.Shown.{fault_text}
use Rattle.command_frame.specs.declared.status.Status.TheVariants.{Refused}
use Rattle.command_frame.specs.declared.ending.Work.{Work}
use Rattle.command_frame.specs.Answer.{says}
use Rattle.command_frame.specs.Parts.{work_answer}
use Rattle.cairo_commands.specs.Parts.{TellsFinding}
use Rattle.cairo_commands.proofs.commands.tables.refused.Goals as goal

-- a line that tells a fault tells what is found
tells : (fault : BuildFault) (line : String Global) (work : Work) → (fault ≡ fault_is.Memory → ⊥) → string_bytes line ≡ codes "tables: refused: " ++ (fault_text fault ++ codes "\n") → work_answer work ≡ says Refused (string_bytes line) → TellsFinding (finding_of fault) (Ok work)
unfolding finding_of
tells (fault_is.Mismatch field stated found) line work other is worked = worked ∙ ap (says Refused) is
tells (fault_is.Step step result) line work other is worked = worked ∙ ap (says Refused) is
tells (fault_is.NoCell address) line work other is worked = worked ∙ ap (says Refused) is
tells (fault_is.RangeWidth row) line work other is worked = worked ∙ ap (says Refused) is
tells (fault_is.TooWide least greatest) line work other is worked = worked ∙ ap (says Refused) is
tells fault_is.Memory line work other is worked = absurd (other refl)

pub returns-in_ok-line-in_default : goal.returns-in_ok-line-in_default
returns-in_ok-line-in_default c =
    tells c.args.fault c.in_ok-line-in_default.line c.of_line.result c.in_default.not-Memory c.in_ok-line-in_default.ensures.ok c.of_line.ensures
