use Rattle.std.proofs.Common.{refl}
use Rattle.std.specs.Prelude.{slice_range}
use Rattle.casm_word.specs.Transition.{registers}
use Rattle.cpu_rows.specs.Columns.{columns}
use Rattle.cpu_rows.specs.Equations.{equations}
use Rattle.cpu_rows.proofs.Failing.{joined}
use Rattle.cpu_rows.proofs.Row.next_state_fault.Goals as goal

pub returns : goal.returns
unfolding equations registers
returns c =
    let after = registers c.args.next in
    let es = equations (columns c.args.self.now) after in
    joined c.or.result c.next_pc_fault.result c.next_frame_fault.result (slice_range es 24 26) (slice_range es 26 28) c.or.ensures
    (c.next_pc_fault.ensures after refl) c.next_frame_fault.ensures
