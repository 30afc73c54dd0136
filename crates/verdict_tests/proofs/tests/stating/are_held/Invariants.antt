use Rattle.std.proofs.Common.{take}
use Rattle.std.specs.Prelude.{All, IsSome}
use Rattle.goldilocks.specs.Cells.{memory_of}
use Rattle.goldilocks.specs.Felts.{numbers}
use Rattle.trace_files.specs.CellList.{listed}
use Rattle.verdict_tests.proofs.tests.stating.are_held.Given as goal

abbrev pub invariant-loop-addr : goal.invariant-loop-addr
invariant-loop-addr l = All (λ a. IsSome (memory_of (listed l.cells) a)) (numbers (take l.addr-index l.shown))
