use Rattle.std.proofs.Common.{Some, None}
use Rattle.casm_word.specs.Transition.{Memory, Registers, registers}
use Rattle.cpu_rows.proofs.BuiltRows.{cell_at, next-no_dst, next-no_op0, next-no_op1}
use Rattle.cpu_rows.proofs.builder.read_operands.Goals as goal

pub returns-in_err-dst-clause-none : goal.returns-in_err-dst-clause-none
unfolding registers
returns-in_err-dst-clause-none g c =
    λ _ n there decodes.
    let m : Memory = g.M.Reads.cells c.args.m.now in
    let s : Registers = registers c.args.from in
    next-no_dst m s n c.args.word there decodes (cell_at m None _ _ c.dst_address-dst_addr.ensures c.in_err-dst.ensures)

pub returns-in_err-op0-clause-none : goal.returns-in_err-op0-clause-none
unfolding registers
returns-in_err-op0-clause-none g c =
    λ _ n there decodes.
    let m : Memory = g.M.Reads.cells c.args.m.now in
    let s : Registers = registers c.args.from in
    next-no_op0 m s n c.args.word c.in_ok-dst.dst.number there decodes
    (cell_at m (Some c.in_ok-dst.dst.number) _ _ c.dst_address-dst_addr.ensures c.in_ok-dst.ensures)
    (cell_at m None _ _ c.op0_address-op0_addr.ensures c.in_err-op0.ensures)

pub returns-in_err-op1-clause-none : goal.returns-in_err-op1-clause-none
unfolding registers
returns-in_err-op1-clause-none g c =
    λ _ n there decodes.
    let m : Memory = g.M.Reads.cells c.args.m.now in
    let s : Registers = registers c.args.from in
    next-no_op1 m s n c.args.word c.in_ok-dst.dst.number c.in_ok-op0.op0.number there decodes
    (cell_at m (Some c.in_ok-dst.dst.number) _ _ c.dst_address-dst_addr.ensures c.in_ok-dst.ensures)
    (cell_at m (Some c.in_ok-op0.op0.number) _ _ c.op0_address-op0_addr.ensures c.in_ok-op0.ensures)
    (cell_at m None _ _ c.op1_address-op1_addr.ensures c.in_err-op1.ensures)
