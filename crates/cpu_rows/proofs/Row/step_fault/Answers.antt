use Rattle.std.specs.Prelude.{slice_range}
use Rattle.casm_word.specs.Transition.{registers}
use Rattle.cpu_rows.specs.Columns.{columns}
use Rattle.cpu_rows.specs.Equations.{equations}
use Rattle.cpu_rows.proofs.Failing.{joined}
use Rattle.cpu_rows.proofs.Row.step_fault.Goals as goal

pub returns : goal.returns
unfolding equations
returns c =
    let after = registers c.args.next in
    let es = equations (columns c.args.self.now) after in
    joined c.or.result c.next_state_fault.result c.opcode_fault.result (slice_range es 24 28) (slice_range es 28 31) c.or.ensures
    c.next_state_fault.ensures (c.opcode_fault.ensures after)
