use Rattle.cairo_commands.specs.Reply.{request_of}
use Rattle.cairo_commands.proofs.ReplyLaws.{settled_reply}
use Rattle.cairo_commands.proofs.laws.reply_laws.Goals as goal

pub returns-clause-decided : goal.returns-clause-decided
returns-clause-decided c = λ words files. (settled_reply files (request_of words)).decided

pub returns-clause-nothing : goal.returns-clause-nothing
returns-clause-nothing c = λ words files. (settled_reply files (request_of words)).nothing

pub returns-clause-outputs : goal.returns-clause-outputs
returns-clause-outputs c = λ words files. (settled_reply files (request_of words)).all
