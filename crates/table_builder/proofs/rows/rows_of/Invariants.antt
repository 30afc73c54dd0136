use Rattle.std.proofs.Common.{◌≡◌, length, map, drop}
use Rattle.casm_word.specs.Transition.{registers}
use Rattle.casm_word.specs.Run.{steps, refused_from}
use Rattle.table_builder.proofs.RowLoop.{rows_up_to}
use Rattle.table_builder.proofs.rows.rows_of.Given as goal

abbrev pub invariant-loop-pair : goal.invariant-loop-pair
invariant-loop-pair g l = record {
  legal : refused_from (g.M.Reads.cells l.m) (length l.yielded) (drop (length l.yielded) (steps (map registers l.states)))
      ≡ refused_from (g.M.Reads.cells l.m) 0 (steps (map registers l.states));
  rows : l.rows.items ≡ rows_up_to (g.M.Reads.cells l.m) l.states (length l.yielded);
}
