use Rattle.cpu_rows.specs.Steps.{tilde_of}
use Rattle.cpu_rows.proofs.builder.tilde_of.Goals as goal

pub returns : goal.returns
unfolding tilde_of
returns c = cc
