-- The reply to a command means what is said of it.
use Rattle.std.proofs.Common.{Option, Some, None, IfSome}
use Rattle.std.specs.Option.{option_map}
use Rattle.file_port.specs.Files.{Files}
use Rattle.file_port.specs.Seen.{Seen, SinkSeen}
use Rattle.command_frame.specs.declared.status.Status.{Status}
use Rattle.cairo_commands.specs.Request.{Request, Walk, Asm, Dis, Run, Tables, Check}
use Rattle.command_frame.specs.Answer.{reply_to}
use Rattle.cairo_commands.specs.Reply.{task}
use Rattle.command_frame.specs.Evidence.{Replied}
use Rattle.cairo_commands.specs.Means.{Means}
use Rattle.cairo_commands.proofs.AskedNames.{KeepsNames}
use Rattle.cairo_commands.proofs.WalkTheorem.{WalkMeans-from_reply}
use Rattle.cairo_commands.proofs.AsmTheorem.{AsmMeans-from_reply}
use Rattle.cairo_commands.proofs.DisTheorem.{DisMeans-from_reply}
use Rattle.cairo_commands.proofs.RunTheorem.{RunMeans-from_reply}
use Rattle.cairo_commands.proofs.TablesTheorem.{TablesMeans-from_reply}
use Rattle.cairo_commands.proofs.CheckTheorem.{CheckMeans-from_reply}

module _ (files : Files) (status : Status) (after : Seen) (sink_before sink_after : SinkSeen) where
  Means-from_answer : (request : Request) → KeepsNames request → Replied ((task request).answer files) files status after sink_before sink_after → Means request files status after.files sink_before.written sink_after.written
  unfolding task Means KeepsNames
  Means-from_answer (Walk trace memory) kept replied = WalkMeans-from_reply trace memory files status after sink_before sink_after replied
  Means-from_answer (Asm text program) kept replied = AsmMeans-from_reply text program files status after sink_before sink_after replied
  Means-from_answer (Dis program text) kept replied = DisMeans-from_reply program text files status after sink_before sink_after replied
  Means-from_answer (Run program hints trace memory public tables) kept replied = RunMeans-from_reply program hints trace memory public tables files kept status after sink_before sink_after replied
  Means-from_answer (Tables program public trace memory tables) kept replied = TablesMeans-from_reply program public trace memory tables files kept status after sink_before sink_after replied
  Means-from_answer (Check program public tables) kept replied = CheckMeans-from_reply program public tables files status after sink_before sink_after replied

  pub Means-from_reply : (request : Option Request) → IfSome request KeepsNames → Replied (reply_to (option_map task request) files) files status after sink_before sink_after → IfSome request (λ asked. Means asked files status after.files sink_before.written sink_after.written)
  Means-from_reply None kept replied = tt
  Means-from_reply (Some request) kept replied = Means-from_answer request kept replied
