use Rattle.std.proofs.Common.{refl}
use Rattle.casm_word.specs.Transition.{registers}
use Rattle.cpu_rows.specs.Columns.{columns, state_of}
use Rattle.cpu_rows.proofs.Row.state.Goals as goal

pub returns : goal.returns
unfolding registers columns state_of
returns c = refl
