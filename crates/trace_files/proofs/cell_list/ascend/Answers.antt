use Rattle.std.proofs.Common.{rules, of_calls}
use Rattle.std.proofs.lemmas.Fn.{always_returns_same}
use Rattle.trace_files.proofs.Rising.{is_below, rises_exactly}
use Rattle.trace_files.proofs.cell_list.ascend.Goals as goal

pub returns : goal.returns
returns c = rises_exactly c.args.cells.now c.is_sorted_by.result (c.is_sorted_by.ensures.cases is_below (always_returns_same _ _ _ (λ a r f k. search (rules, of_calls))))
