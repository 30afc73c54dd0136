use Rattle.std.proofs.Common.{◌≡◌, Some, refl, sym, ap, ◌∙◌}
use Rattle.std.specs.Result.{result_ok}
use Rattle.casm_word.specs.Transition.{Memory, Registers, registers, next}
use Rattle.cpu_rows.specs.Columns.{Columns, columns, IsRow}
use Rattle.cpu_rows.specs.Equations.{fault}
use Rattle.cpu_rows.specs.Steps.{IsRowOf, Tells}
use Rattle.cpu_rows.proofs.Faults.{fault-None}
use Rattle.cpu_rows.proofs.RowOfStep.{Tells-from_row_of}
use Rattle.cpu_rows.proofs.BuiltRows.{cell_at, no_row, next-no_word, next-undecoded, Ok-from_ok, IsRowOf-from_parts, IsRow-from_row_of, refused, accepted, made_row, fault-made}
use Rattle.cpu_rows.proofs.builder.build_row.Goals as goal

pub returns-in_err-inst-clause-some : goal.returns-in_err-inst-clause-some
unfolding registers
returns-in_err-inst-clause-some g c =
    let m : Memory = g.M.Reads.cells c.args.m.now in
    let s : Registers = registers c.args.from in
    no_row c.from_residual.result _ (registers c.args.to) c.from_residual.ensures (next-no_word m s (sym c.in_err-inst.ensures))

pub returns-in_err-word-clause-some : goal.returns-in_err-word-clause-some
unfolding registers
returns-in_err-word-clause-some g c =
    let m : Memory = g.M.Reads.cells c.args.m.now in
    let s : Registers = registers c.args.from in
    no_row c.from_residual-in_err-word.result _ (registers c.args.to) c.from_residual-in_err-word.ensures (next-undecoded m s c.in_ok-inst.inst.number (sym c.in_ok-inst.ensures) (ap result_ok (sym c.decode.ensures.value) ∙ sym c.in_err-word.ensures.value))

pub returns-in_err-operands-clause-some : goal.returns-in_err-operands-clause-some
unfolding registers
returns-in_err-operands-clause-some g c =
    let m : Memory = g.M.Reads.cells c.args.m.now in
    let s : Registers = registers c.args.from in
    no_row c.from_residual-in_err-operands.result _ (registers c.args.to) c.from_residual-in_err-operands.ensures (c.in_err-operands.ensures.none refl c.in_ok-inst.inst.number (sym c.in_ok-inst.ensures) (sym c.decode.ensures.value ∙ Ok-from_ok c.decode.result c.in_ok-word.word c.in_ok-word.ensures.value))

pub step_fault-requires : goal.step_fault-requires
unfolding registers
step_fault-requires g c =
    let o = c.in_ok-operands.operands in
    let made = c.row_with-row.ensures in
    (made_row (registers c.args.from) (registers c.args.to) (columns c.row_with-row.result) c.in_ok-inst.inst.number c.in_ok-word.word o.dst.number o.op0.number o.op1.number c.row_with-row.result.res.number
    (sym c.decode.ensures.value ∙ Ok-from_ok c.decode.result c.in_ok-word.word c.in_ok-word.ensures.value) (IsRow-from_row_of c.row_with-row.result _ _ _ _ _ _ _ made.columns) made.res made.columns).2

pub returns-then-is_some-clause-some : goal.returns-then-is_some-clause-some
unfolding registers
returns-then-is_some-clause-some g c =
    let m : Memory = g.M.Reads.cells c.args.m.now in
    let s : Registers = registers c.args.from in
    let after : Registers = registers c.args.to in
    let o = c.in_ok-operands.operands in
    let h = c.in_ok-operands.ensures in
    let made = c.row_with-row.ensures in
    let r : Columns = columns c.row_with-row.result in
    let row : IsRowOf m s r =
    IsRowOf-from_parts m s r c.in_ok-inst.inst.number c.in_ok-word.word o.dst.number o.op0.number o.op1.number c.row_with-row.result.res.number
    (sym c.in_ok-inst.ensures) (sym c.decode.ensures.value ∙ Ok-from_ok c.decode.result c.in_ok-word.word c.in_ok-word.ensures.value)
    (cell_at m (Some o.dst.number) _ _ h.dst_addr (sym h.dst))
    (cell_at m (Some o.op0.number) _ _ h.op0_addr (sym h.op0))
    (cell_at m (Some o.op1.number) _ _ h.op1_addr (sym h.op1))
    made.res made.columns in
    let is : IsRow r = IsRow-from_row_of c.row_with-row.result _ _ _ _ _ _ _ made.columns in
    let meets = made_row s after r c.in_ok-inst.inst.number c.in_ok-word.word o.dst.number o.op0.number o.op1.number c.row_with-row.result.res.number (sym c.decode.ensures.value ∙ Ok-from_ok c.decode.result c.in_ok-word.word c.in_ok-word.ensures.value) is made.res made.columns in
    let found : c.step_fault.result ≡ fault r after = fault-made r after c.step_fault.result meets.0 meets.1 c.step_fault.ensures in
    refused m s after r c.step_fault.result is row found (sym c.if-is_some.ensures)

pub returns : goal.returns
unfolding registers
returns g c =
    let m : Memory = g.M.Reads.cells c.args.m.now in
    let s : Registers = registers c.args.from in
    let after : Registers = registers c.args.to in
    let o = c.in_ok-operands.operands in
    let h = c.in_ok-operands.ensures in
    let made = c.row_with-row.ensures in
    let r : Columns = columns c.row_with-row.result in
    let row : IsRowOf m s r =
    IsRowOf-from_parts m s r c.in_ok-inst.inst.number c.in_ok-word.word o.dst.number o.op0.number o.op1.number c.row_with-row.result.res.number
    (sym c.in_ok-inst.ensures) (sym c.decode.ensures.value ∙ Ok-from_ok c.decode.result c.in_ok-word.word c.in_ok-word.ensures.value)
    (cell_at m (Some o.dst.number) _ _ h.dst_addr (sym h.dst))
    (cell_at m (Some o.op0.number) _ _ h.op0_addr (sym h.op0))
    (cell_at m (Some o.op1.number) _ _ h.op1_addr (sym h.op1))
    made.res made.columns in
    let is : IsRow r = IsRow-from_row_of c.row_with-row.result _ _ _ _ _ _ _ made.columns in
    let meets = made_row s after r c.in_ok-inst.inst.number c.in_ok-word.word o.dst.number o.op0.number o.op1.number c.row_with-row.result.res.number (sym c.decode.ensures.value ∙ Ok-from_ok c.decode.result c.in_ok-word.word c.in_ok-word.ensures.value) is made.res made.columns in
    let found : c.step_fault.result ≡ fault r after = fault-made r after c.step_fault.result meets.0 meets.1 c.step_fault.ensures in
    let step : next m s ≡ Some after =
    accepted m s after r c.step_fault.result is row c.args.to.pc.in_field found (sym c.if-is_some.ensures) in
    let tells : Tells m s after r = Tells-from_row_of m s after r is row step in
    record { some = ((λ _. step), (λ _. refl)); row = row; tells = tells; no_fault = (fault-None r after).1 tells.meets }
