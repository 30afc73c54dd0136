-- The contract of a call. Own.
use Rattle.std.specs.Prelude.{List, String, IfSome}
use Rattle.std.specs.declared.alloc.Global.{Global}
use Rattle.file_port.specs.Seen.{Seen, SinkSeen}
use Rattle.command_frame.specs.declared.status.Status.{Status}
use Rattle.command_frame.specs.Status.{IsDecided}
use Rattle.command_frame.specs.Finishes.{Finishes}
use Rattle.cairo_commands.specs.Reply.{request_of, task_of}
use Rattle.cairo_commands.specs.Means.{Means}

-- What a call with these words does. The store and the sink are seen before it and after it, and it ends with this
-- status. Own.
pub record Performs (words : List (String Global)) (before after : Seen) (sink_before sink_after : SinkSeen) (status : Status) : Type 0 where
  -- what every call keeps, whatever its command is. Status, files and line are those of the reply, and the counts are
  -- evidence of the status. What a call leaves that failed is said, too
  pub call : Finishes (task_of words) before after sink_before sink_after status
  -- what the endings of each command mean
  pub means : IfSome before.files (λ files. IsDecided status → IfSome (request_of words) (λ request. Means request files status after.files sink_before.written sink_after.written))
