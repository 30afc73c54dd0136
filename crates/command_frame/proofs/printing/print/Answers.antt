-- The goals that wrong bodies break, so that the check says at once that they are open.
use Rattle.std.proofs.Common.{rules}
use Rattle.command_frame.proofs.printing.print.Goals as goal

pub returns-in-Ok-put-clause-prints : goal.returns-in-Ok-put-clause-prints
returns-in-Ok-put-clause-prints g c = search rules

pub returns-in-Ok-put-clause-silent : goal.returns-in-Ok-put-clause-silent
returns-in-Ok-put-clause-silent g c = search rules

pub returns-in-Err-Failed-clause-prints : goal.returns-in-Err-Failed-clause-prints
returns-in-Err-Failed-clause-prints g c = search rules
