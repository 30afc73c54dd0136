-- The contract of a call, whatever its command is. Own.
use Rattle.std.specs.Prelude.{◌≡◌, ◌↔◌, Option, None, IfSome}
use Rattle.std.specs.Io.KnownBytes.{Appends}
use Rattle.file_port.specs.Seen.{Seen, SinkSeen}
use Rattle.command_frame.specs.declared.status.Status.{Status}
use Rattle.command_frame.specs.declared.status.Status.TheVariants.{Words, Memory}
use Rattle.command_frame.specs.Status.{IsDecided}
use Rattle.command_frame.specs.Answer.{Task, usage, inputs_of, outputs_of, reply_to}
use Rattle.command_frame.specs.Evidence.{Replied, CountsNoFault, Evidence, Leaves}

-- What a call does whose words ask for this task, or for none where they are an unknown command. The store and the sink
-- are seen before it and after it, and it ends with this status. Own.
pub record Finishes (task : Option Task) (before after : Seen) (sink_before sink_after : SinkSeen) (status : Status) : Type 0 where
  -- where the store tells its files, status, files and line are those of the reply, unless a call failed or memory ran out
  pub replies : IfSome before.files (λ files. IsDecided status → Replied (reply_to task files) files status after sink_before sink_after)
  -- in every store and sink, no other status stands in its place where no fault was counted, unless memory ran out. So
  -- files that meet what an ending means get that ending, or want of memory, whose cause no clause tells
  pub complete : CountsNoFault before after sink_before sink_after → (status ≡ Memory → ⊥) → IsDecided status
  -- in every store, words that are an unknown command are told from a command
  pub words : IsDecided status → ((status ≡ Words) ↔ (task ≡ None))
  pub usage_line : task ≡ None → IsDecided status → Appends sink_before.written sink_after.written usage.line
  -- in every store and sink, the counts and the line are evidence of the status
  pub evidence : Evidence (inputs_of task) (outputs_of task) before after sink_before sink_after status
  -- what a call leaves, whatever its status, also where it met a fault or found no memory
  pub leaves : IfSome before.files (λ files. Leaves (reply_to task files) files (inputs_of task) (outputs_of task) before after sink_before sink_after status)
