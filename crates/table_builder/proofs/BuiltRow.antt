-- The row that the code builds of a step is the one that is read off the memory.
use Rattle.std.proofs.Common.{◌≡◌, ℕ, Some, refl, ap, ◌∙◌}
use Rattle.casm_word.specs.Transition.{Memory, Registers}
use Rattle.cpu_rows.specs.declared.Row.{Row}
use Rattle.cpu_rows.specs.Columns.{Columns, columns}
use Rattle.cpu_rows.specs.Steps.{IsRowOf, row_of}
use Rattle.cpu_rows.proofs.BuiltRows.{IsRowOf-from_parts}
use Rattle.cpu_rows.proofs.RowOfStep.{one_row_of}
use Rattle.table_builder.specs.Rows.{row_at, res_column}
use Rattle.table_builder.proofs.StepRows.{row_at-is, IsRes-res_column}

pub row_at-row : (m : Memory) (s : Registers) (r : Row) → IsRowOf m s (columns r) → row_at m s ≡ Some (columns r)
unfolding columns
row_at-row m s r is =
    let w = is.word in
    let x : ℕ = res_column w.flags r.dst.number r.op0.number r.op1.number in
    let c : Columns = row_of s r.inst.number w r.dst.number r.op0.number r.op1.number x in
    let of_step : IsRowOf m s c = IsRowOf-from_parts m s c r.inst.number w r.dst.number r.op0.number r.op1.number x is.inst is.decodes is.dst is.op0 is.op1 (IsRes-res_column w.flags r.dst.number r.op0.number r.op1.number r.dst.in_field) refl in
    row_at-is m s r.inst.number w r.dst.number r.op0.number r.op1.number is.inst is.decodes is.dst is.op0 is.op1
    ∙ ap Some (one_row_of m s c (columns r) of_step is)
