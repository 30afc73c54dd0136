use Rattle.std.proofs.Common.{◌≡◌, ◌+◌, ◌%◌, map, take, None}
use Rattle.goldilocks.specs.Field.{prime}
use Rattle.goldilocks.specs.declared.Pair.{Pair}
use Rattle.goldilocks.specs.Cells.{cells_from}
use Rattle.table_builder.specs.Findings.{cell_finding, first_found}
use Rattle.table_builder.proofs.cells.words_agree.Given as goal

abbrev pub invariant-loop-word : goal.invariant-loop-word
invariant-loop-word g l = record {
  address : l.addr.0 ≡ (1 + l.word-index) % prime;
  nothing : first_found (map (λ (x : Pair). cell_finding x (g.M.Reads.cells l.m x.addr.number)) (take l.word-index (cells_from 1 l.words))) ≡ None;
}
