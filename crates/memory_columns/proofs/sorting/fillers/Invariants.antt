use Rattle.std.proofs.Common.{◌≡◌, map, take}
use Rattle.goldilocks.specs.declared.Felt.{Felt}
use Rattle.memory_columns.specs.Filling.{filler_at, numbers_of}
use Rattle.memory_columns.proofs.sorting.fillers.Given as goal

abbrev pub invariant-loop-addr : goal.invariant-loop-addr
invariant-loop-addr g l = map numbers_of l.fill.items ≡ map (λ (a : Felt). filler_at (g.M.Reads.cells l.m) a.number) (take l.addr-index l.addresses)
