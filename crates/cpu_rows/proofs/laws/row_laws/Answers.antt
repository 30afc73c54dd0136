use Rattle.cpu_rows.proofs.RowOfStep.{Tells-from_row_of, one_row_of}
use Rattle.cpu_rows.proofs.OneRow.{next-from_tells, same_but_res, same_row, free_res}
use Rattle.cpu_rows.proofs.laws.row_laws.Goals as goal

pub returns : goal.returns
returns c = record {
  tells = Tells-from_row_of;
  legal = next-from_tells;
  one_row_of = one_row_of;
  but_res = same_but_res;
  determined = same_row;
  free = λ m s after r tells behind x small. free_res m s after r tells behind x small;
}
