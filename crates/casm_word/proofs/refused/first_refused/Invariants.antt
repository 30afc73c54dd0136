use Rattle.std.proofs.Common.{◌≡◌, length, map, drop}
use Rattle.casm_word.specs.Transition.{registers}
use Rattle.casm_word.specs.Run.{steps, refused_from}
use Rattle.casm_word.proofs.refused.first_refused.Given as goal

abbrev pub invariant-loop-i : goal.invariant-loop-i
invariant-loop-i g l =
    refused_from (g.M.Reads.cells l.memory) (length l.yielded) (drop (length l.yielded) (steps (map registers l.states)))
    ≡ refused_from (g.M.Reads.cells l.memory) 0 (steps (map registers l.states))
