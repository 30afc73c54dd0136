-- What the endings of the commands mean. Own.
use Rattle.std.specs.Prelude.{ℕ, List, Option}
use Rattle.file_port.specs.Files.{Files}
use Rattle.command_frame.specs.declared.status.Status.{Status}
use Rattle.cairo_commands.specs.Request.{Request, Walk, Asm, Dis, Run, Tables, Check}
use Rattle.cairo_commands.specs.Commands.Walk.{WalkMeans}
use Rattle.cairo_commands.specs.Commands.Asm.{AsmMeans}
use Rattle.cairo_commands.specs.Commands.Dis.{DisMeans}
use Rattle.cairo_commands.specs.Commands.Run.{RunMeans}
use Rattle.cairo_commands.specs.Commands.Tables.{TablesMeans}
use Rattle.cairo_commands.specs.Commands.Check.{CheckMeans}

-- What it means that a command over these files ends with this status, with the files that are there afterwards and
-- the bytes that were written before and now. Each command's own module says it. Own.
unfoldable pub Means : Request → Files → Status → Option Files → Option (List ℕ) → Option (List ℕ) → Type 0
Means (Walk trace memory) files status after before now = WalkMeans trace memory files status before now
Means (Asm text program) files status after before now = AsmMeans text program files status after before now
Means (Dis program text) files status after before now = DisMeans program text files status after before now
Means (Run program hints trace memory public tables) files status after before now = RunMeans program hints trace memory public tables files status after before now
Means (Tables program public trace memory tables) files status after before now = TablesMeans program public trace memory tables files status after before now
Means (Check program public tables) files status after before now = CheckMeans program public tables files status before now
